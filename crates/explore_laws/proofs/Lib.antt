pub mod AlikeBodies
pub mod AlikeEvents
pub mod AlikePlans
pub mod AlikeRows
pub mod AlikeWorlds
pub mod DeadLemmas
pub mod Untaken
