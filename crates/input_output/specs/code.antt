pub mod Stored
pub mod Answers
pub mod Reads
pub mod Reading
pub mod Writes
pub mod TableHash
