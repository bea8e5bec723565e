-- Which bytes are a record's.
use Rattle.std.specs.Prelude.{◌≡◌, ◌≤◌, ℕ, true, List, length, Some, All, ⊤}
use Rattle.std.specs.Str.{is_utf8}
pub use Rattle.rs_optime.specs.Order.{IsOptime}
use Rattle.bson_doc.specs.Sound.{IsSound}
use Rattle.bson_codec.specs.Spelling.{IsSpelling, document_bytes}
use Rattle.oplog_entry.specs.Step.{id_key}
use Rattle.checkpoint_store.specs.Layout.{Saved, Record, begins, holds, ends, record_bytes}

-- how many bytes a collection's name may have, and how many documents one record may have
abbrev pub NAME : ℕ
NAME = 1048576

abbrev pub PIECE : ℕ
PIECE = 1000

-- a document within the bounds of its bytes, at its own key, under a name that isn't too long
pub record IsSaved (saved : Saved) : Type 0 where
  pub short : length saved.0.0 ≤ NAME
  pub text : is_utf8 saved.0.0 ≡ true
  pub key : id_key saved.1 ≡ Some saved.0.1
  pub sound : IsSound saved.1
  pub spelling : IsSpelling 262144 100 saved.1 (document_bytes saved.1)

abbrev pub AreSaved : List Saved → Type 0
AreSaved documents = (length documents ≤ PIECE) × All IsSaved documents

abbrev pub IsRecord : Record → Type 0
IsRecord (begins at) = IsOptime at
IsRecord (holds documents) = AreSaved documents
IsRecord ends = ⊤

-- the bytes are the record's
pub record IsSpelled (item : Record) (bytes : List ℕ) : Type 0 where
  pub lawful : IsRecord item
  pub spelled : bytes ≡ record_bytes item
