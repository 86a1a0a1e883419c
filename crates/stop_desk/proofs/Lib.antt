mod Words
mod Weights
mod Steps
mod PassViews
pub mod RoundMembers
pub mod RoundSteps
pub mod RoundMerge
mod RoundExamples
pub mod RoundCuts
mod Working
mod CrewDone
