pub mod IdleLemmas
pub mod MemberLemmas
mod PlaceLemmas
