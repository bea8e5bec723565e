pub mod Holes
pub use Rattle.optime_slots.specs.Reserved
pub use Rattle.oplog_store.specs.Log
