pub mod Credit
pub mod LiveWindows
pub mod Parts
pub mod Stop
pub mod Apart
pub mod Steps
