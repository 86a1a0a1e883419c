mod Terms
mod SumLemmas
pub mod WalkLemmas
mod ClearLemmas
pub mod ItemsLemmas
pub mod ShownLemmas
mod FitLemmas
mod Halfway
