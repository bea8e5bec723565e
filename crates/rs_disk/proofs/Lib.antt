pub mod MomentLemmas
mod PageLemmas
mod PickLemmas
