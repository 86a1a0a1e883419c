mod Bytes
mod Walks
pub mod CallLemmas
pub mod Kept
