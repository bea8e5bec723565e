pub mod CutLemmas
pub mod ListLemmas
pub mod AppendLemmas
pub mod ParseLemmas
pub mod TurnLemmas
pub mod ItemLemmas
pub mod OpenLemmas
pub mod LayerLemmas
mod StepLemmas
mod AddingLemmas
pub mod KeepsLemmas
