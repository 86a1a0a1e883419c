pub mod code
pub mod examples
