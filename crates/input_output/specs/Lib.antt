pub mod Bytes
pub mod Calls
pub mod Account
pub mod code
