pub mod Fronts
pub mod Sizes
pub mod Unique
mod Growing
mod Walking
