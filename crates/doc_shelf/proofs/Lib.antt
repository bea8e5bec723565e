pub mod InsertLemmas
pub mod ShelfLemmas
