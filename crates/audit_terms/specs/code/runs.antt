pub mod Blocks
pub mod Changes
pub mod LocalFaults
pub mod Look
pub mod Orderly
pub mod States
pub mod Streams
