pub mod Ipv4
pub mod Lines
pub mod Link
pub mod Standing
pub mod Tcp
pub mod Order
pub mod Handed
pub mod Walk
