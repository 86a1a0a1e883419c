pub mod Growth
pub mod Feeding
pub mod Unique
pub mod Endings
