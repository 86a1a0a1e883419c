pub mod laws
pub mod code
