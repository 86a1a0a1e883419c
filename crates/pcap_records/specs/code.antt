pub mod Nanos
pub mod Walk
pub mod Place
