pub mod ActingLemmas
mod BeginLemmas
pub mod DiskLemmas
pub mod DisksOpenLemmas
pub mod EmptyLemmas
pub mod NodesLemmas
mod OpenLemmas
pub mod PointedLemmas
mod PoolLemmas
pub mod StepperLemmas
pub mod WentLemmas
mod WorldLemmas
