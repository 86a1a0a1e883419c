mod Words
pub mod PassOrder
mod Meetings
mod CreditLemmas
mod LiveWindows
pub mod StreamSteps
pub mod PartsLemmas
pub mod QuietSteps
mod StopLemmas
mod TableRows
mod FrameRows
mod Apart
mod JoinedSteps
