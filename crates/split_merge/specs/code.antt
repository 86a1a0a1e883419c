pub mod Visits
pub mod Ahead
pub mod Loud
pub mod Groups
pub mod Split
pub mod Findings
pub mod Ranges
