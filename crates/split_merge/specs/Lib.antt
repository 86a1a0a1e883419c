pub mod examples
pub mod code
