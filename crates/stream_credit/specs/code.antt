pub mod Changes
pub mod Merged
pub mod Quiet
pub mod Standings
pub mod QuietStream
pub mod Walk
pub mod Looks
pub mod StreamPart
