pub mod Asked
pub mod Calls
pub mod CommandLine
pub mod Ending
pub mod Paths
pub mod Program
pub mod code
