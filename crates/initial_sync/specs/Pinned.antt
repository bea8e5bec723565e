-- What a new member begins with.
use Rattle.std.specs.Prelude.{◌≡◌, ◌≢◌, ℕ, List, Some, map}
use Rattle.std.specs.List.{All}
use Rattle.std.specs.FinMap.{entries, get}
use Rattle.bson_doc.specs.Place.{Place}
use Rattle.bson_doc.specs.Tree.{Fields}
use Rattle.oplog_entry.specs.Docs.{docs}
use Rattle.oplog_entry.specs.Log.{IsOplog}
use Rattle.oplog_entry.specs.Visible.{ZERO, last_of}
use Rattle.entry_bytes.specs.Sizes.{IsWithinEntry}
use Rattle.checkpoint_store.specs.Layout.{Saved}
use Rattle.checkpoint_store.specs.Shown.{CanBeSaved}
use Rattle.initial_sync.specs.Copies.{Copy}
use Rattle.initial_sync.specs.declared.pinned.Pinned.{Pinned}
use Rattle.initial_sync.specs.declared.pinned.Kept1.{Kept1}

-- a document at its place
abbrev pub placed : Kept1 → Saved
placed one = ((one.ns, one.id), one.doc)

-- documents, each with its collection
abbrev pub listed_of : List Kept1 → List (List ℕ × Fields)
listed_of documents = map (λ one. (one.ns, one.doc)) documents

abbrev pub copy_of : Pinned → Copy
copy_of pinned = record { term = pinned.term; entries = pinned.entries.items }

-- The entries are an oplog up to an optime later than ZERO, each within the bounds of an entry. The documents
-- are those that result from them, in order of collection and key, and each can be saved.
pub record IsPinned (pinned : Pinned) : Type 0 where
  pub oplog : IsOplog pinned.entries.items
  pub last : last_of pinned.entries.items ≡ pinned.at
  pub above : pinned.at ≢ ZERO
  pub within : All IsWithinEntry pinned.entries.items
  pub documents : map placed pinned.documents.items ≡ entries (docs pinned.entries.items)
  pub can : (place : Place) (document : Fields) → get (docs pinned.entries.items) place ≡ Some document
      → CanBeSaved place document
