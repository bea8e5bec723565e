pub mod Map
pub use Rattle.oplog_entry.specs.Docs
pub use Rattle.oplog_entry.specs.Lawful
pub use Rattle.oplog_entry.specs.Step
