pub mod Credit
pub mod Places
pub mod Pairs
pub mod Streams
