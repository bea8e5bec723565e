pub mod FreshLemmas
pub mod PastLemmas
mod PartLemmas
mod PieceLemmas
mod WorkerLemmas
mod BatchLemmas
mod EachLemmas
mod ClaimSteps
mod JobLemmas
mod Crosses
