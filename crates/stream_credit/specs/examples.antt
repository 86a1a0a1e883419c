pub mod Life
pub mod Run
