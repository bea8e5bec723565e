mod ActingLemmas
mod ActorLemmas
mod OpenLemmas
mod PoolLemmas
pub mod ReachedLemmas
mod StepLemmas
mod UpLemmas
