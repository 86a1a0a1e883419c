pub mod Openings
pub mod Items
pub mod Rounds
pub mod Settling
