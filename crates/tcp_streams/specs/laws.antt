pub mod Flows
pub mod Growth
