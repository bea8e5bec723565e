mod AnswerLemmas
mod CallLemmas
pub mod EventLemmas
mod NextLemmas
mod PartLemmas
mod ReadLemmas
mod RunLaw
pub mod ShownLemmas
pub mod StepLemmas
