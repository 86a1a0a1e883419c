pub mod Bodies
pub mod Frames
