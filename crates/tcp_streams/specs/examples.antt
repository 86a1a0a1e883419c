pub mod Retransmission
pub mod Captured
pub mod Connections
pub mod Offsets
pub mod Growth
