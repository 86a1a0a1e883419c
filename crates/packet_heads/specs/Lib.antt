pub mod Decision
pub mod Ethernet
pub mod Ipv4
pub mod Link
pub mod Refusal
pub mod Tcp
pub mod examples
pub mod code
