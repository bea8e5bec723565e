mod AddLemmas
mod Adding
mod AlikeSound
mod BeginLemmas
pub mod Cells
mod Come
mod Coming
pub mod CourseLemmas
pub mod Covering
mod Deeds
mod DeliverLemmas
pub mod Growth
mod Keeping
mod LastLemmas
pub mod LineLemmas
pub mod Looks
mod LooksAt
pub mod Meeting
mod MetLemmas
mod Moving
mod Numbers
mod Outcomes
mod Putting
pub mod Reach
mod Reading
mod SightLemmas
pub mod Sights
mod TakeLemmas
pub mod Taking
mod WordLemmas
