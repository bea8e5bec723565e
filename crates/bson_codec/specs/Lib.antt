pub use Rattle.bson_doc.specs.Length
pub mod Numbers
pub mod Outcome
pub mod Reading
pub use Rattle.bson_doc.specs.Sound
pub mod Spelling
pub mod Wholes
