mod Terms
mod Rising
mod Visited
mod Positions
mod LaidOut
pub mod Ahead
mod LoudStreams
pub mod GroupRanges
pub mod ShownMerge
mod MergedRuns
mod Merged
