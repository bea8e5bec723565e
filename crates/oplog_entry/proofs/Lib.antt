pub mod DocsLemmas
pub mod FieldLemmas
pub mod IndexLemmas
pub mod LeastLemmas
pub mod LogLemmas
pub mod Optimes
pub mod PlaceLemmas
pub mod WalkLemmas
