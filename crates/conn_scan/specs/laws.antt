pub mod Items
pub mod Blocks
pub mod Clear
