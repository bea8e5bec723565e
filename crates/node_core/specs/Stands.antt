-- What a node's two disks have, now and after a crash.
use Rattle.std.specs.Prelude.{◌≡◌, ◌⊎◌, ℕ, List, [], ◌∷◌, ◌++◌, Some}
use Rattle.rs_disk.specs.File.{LeavesOnly}
use Rattle.rs_disk.specs.Moments.{EachMoment}
use Rattle.rs_disk.specs.State.{State}
use Rattle.rs_optime.specs.declared.optime.OpTime.{OpTime}
use Rattle.oplog_entry.specs.Docs.{docs}
use Rattle.oplog_entry.specs.Visible.{log_up_to}
use Rattle.repl_msg.specs.declared.record.Record.{Record}
use Rattle.repl_msg.specs.Kept.{kept}
use Rattle.set_model.specs.declared.store.Store.TheVariants as stores
use Rattle.set_model.specs.Node.{Node}
use Rattle.node_journal.specs.Files.{HasJournal}
use Rattle.checkpoint_store.specs.Files.{HasCheckpoint}
use Rattle.checkpoint_store.specs.declared.stable.Stable.{Stable}

-- these bytes are a journal with the node's records, or with one more that is in doubt
abbrev pub HasRecordsOf : Node → List ℕ → Type 0
HasRecordsOf node image =
    HasJournal image node.records
    ⊎ ((item : Record) × (node.doubt ≡ Some (stores.Record item))
    × HasJournal image (node.records ++ item ∷ []))

-- the documents as of an optime, by the log in the node's records
abbrev pub documents_at : Node → OpTime → Stable
documents_at node at = record { at = at; documents = docs (log_up_to at (kept node.records).entries) }

-- these bytes are checkpoints, the last at the node's stable optime, or at one that is in doubt
abbrev pub HasDocumentsOf : Node → List ℕ → Type 0
HasDocumentsOf node image =
    HasCheckpoint image (documents_at node node.stable)
    ⊎ ((at : OpTime) × (node.doubt ≡ Some (stores.Checkpoint at))
    × HasCheckpoint image (documents_at node at))

-- A crash now leaves the node's records on one disk and its documents on the other. Without a crash they are
-- there too, since what a disk reads as is among what a crash can leave.
pub record Stands (node : Node) (journal checkpoints : State) : Type 0 where
  pub records : LeavesOnly (HasRecordsOf node) journal.file
  pub documents : LeavesOnly (HasDocumentsOf node) checkpoints.file

-- At each moment since then a crash left this node's records and documents.
pub record StandsSince (node : Node) (j j' c c' : State) : Type 0 where
  pub records : EachMoment (HasRecordsOf node) j j'
  pub documents : EachMoment (HasDocumentsOf node) c c'
