pub mod Machine
pub mod Rounds
pub mod Cuts
