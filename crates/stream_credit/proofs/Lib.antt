pub mod Words
mod ChangeLemmas
mod MergedLemmas
pub mod QuietSteps
mod WalkLemmas
mod QuietLemmas
mod RunLemmas
pub mod StandingLemmas
mod QuietStreams
