pub mod OrderedLists
pub mod FindingOrder
pub mod UptoStop
pub mod TimedStop
pub mod Bounds
pub mod Watching
pub mod FindingLists
pub mod SaidPlaces
mod Packing
pub mod OrderlyFrames
pub mod KeySearch
pub mod SeenStreams
pub mod LeastPlaces
pub mod ShownFindings
pub mod Pairs
pub mod StreamsMet
