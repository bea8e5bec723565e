mod AskLemmas
mod FollowLemmas
pub mod KeepLemmas
mod LineLemmas
mod StillLemmas
