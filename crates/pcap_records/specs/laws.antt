pub mod Readings
pub mod Growth
