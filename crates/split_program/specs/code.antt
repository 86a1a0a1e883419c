pub mod Finishing
pub mod Parts
