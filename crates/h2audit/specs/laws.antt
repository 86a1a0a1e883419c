pub mod OneReport
pub mod Run
