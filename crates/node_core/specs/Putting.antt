-- What is put on a node's disks, and what follows from it.
use Rattle.std.specs.Prelude.{◌≡◌, ◌≤◌, ◌+◌, ℕ, zero, suc, true, ⊤, Result, Ok, Err, Option, None, Some, OnOk, OnErr, length}
use Rattle.std.specs.FinMap.{get}
use Rattle.bson_doc.specs.Place.{Place}
use Rattle.bson_doc.specs.Tree.{Fields}
use Rattle.oplog_entry.specs.Docs.{docs}
use Rattle.oplog_entry.specs.Visible.{log_up_to}
use Rattle.record_file.specs.declared.error.FileError.{FileError}
use Rattle.record_file.specs.declared.error.FileError.TheVariants.{Memory, Disk}
use Rattle.repl_msg.specs.declared.record.Record.{Record}
use Rattle.repl_msg.specs.Kept.{kept}
use Rattle.rs_disk.specs.State.{State}
use Rattle.rs_optime.specs.declared.optime.OpTime.{OpTime}
use Rattle.node_journal.specs.Bounds.{CanBeKept}
use Rattle.node_journal.specs.Room.{IsShort}
use Rattle.checkpoint_store.specs.Shown.{CanBeSaved}
use Rattle.set_model.specs.declared.store.Store.{Store}
use Rattle.set_model.specs.declared.store.Store.TheVariants as stores
use Rattle.set_model.specs.Node.{Node}
use Rattle.set_model.specs.Outcome.{refused}
use Rattle.set_model.specs.Stores.{Plan, finished, storing, done, reaches, in_doubt, stored}
use Rattle.set_model.specs.declared.reply.Refusal.TheVariants.{DiskFailed}
use Rattle.node_data.specs.NodeData.{IsReadable}
use Rattle.node_core.specs.OnDisks.{UpOnDisks, DownOnDisks}
use Rattle.node_core.specs.Stands.{Stands, documents_at}
use Rattle.node_state.specs.Turns.{rest_of}
use Rattle.node_state.specs.declared.turn.Turn.{Turn}
use Rattle.node_state.specs.declared.turn.Turn.TheVariants.{Finished, Storing}
use Rattle.node_core.specs.declared.storing.Ended.{Ended}
use Rattle.node_core.specs.declared.storing.Ended.TheVariants.{WithReply, StoreFailed}

-- ---- what can be put there

-- a record that a journal takes, after which the stable documents are the same
pub record IsKeepable (node : Node) (item : Record) : Type 0 where
  pub bounds : CanBeKept item
  pub same : documents_at (stored node (stores.Record item)) node.stable ≡ documents_at node node.stable

-- documents that can be read and saved, all of whose entries are in the records
pub record IsSavable (node : Node) (at : OpTime) : Type 0 where
  pub readable : IsReadable node at
  pub kept_so : docs (log_up_to at node.log) ≡ docs (log_up_to at (kept node.records).entries)
  pub each : (place : Place) (document : Fields) → get (docs (log_up_to at node.log)) place ≡ Some document
      → CanBeSaved place document

abbrev pub CanBePut : Node → Store → Type 0
CanBePut node (stores.Record item) = IsKeepable node item
CanBePut node (stores.Checkpoint at) = IsSavable node at

-- a record for which memory is reserved
abbrev pub IsShortStore : Store → Type 0
IsShortStore (stores.Record item) = IsShort item
IsShortStore (stores.Checkpoint at) = ⊥

-- the bytes that such a record may take
abbrev pub SHORT : ℕ
SHORT = 473

-- ---- what follows from it

-- it is on disk, or nothing has changed, or it is in doubt
pub record Puts (result : Result (Unit {0}) FileError) (node : Node) (item : Store) (count : ℕ)
    (journal checkpoints : State) : Type 0 where
  pub ok : OnOk result (UpOnDisks (stored node item) count journal checkpoints)
  pub memory : result ≡ Err Memory → UpOnDisks node count journal checkpoints
  pub broken : result ≡ Err Disk → Stands (in_doubt node item) journal checkpoints
  pub uncounted : OnErr result (count ≡ length node.records)

-- ---- how a turn ends

-- the plan that a turn is
abbrev pub plan_of : Turn → Node → Plan
plan_of (Finished answer sent) node = finished (record { reply = answer; node = node; sent = sent.items })
plan_of (Storing item then) node = storing (in_doubt node item) (rest_of then (stored node item))

-- it stores nothing else
abbrev pub IsEnd : Turn → Type 0
IsEnd (Finished answer sent) = ⊤
IsEnd (Storing item then) = ⊥

-- memory is reserved for what it still stores
abbrev pub NeedsRoom : Turn → ℕ → Type 0
NeedsRoom (Finished answer sent) room = ⊤
NeedsRoom (Storing item then) room = SHORT ≤ room

-- it begins with a store for which no memory is reserved
abbrev pub BeginsUnreserved : Turn → Type 0
BeginsUnreserved (Finished answer sent) = ⊥
BeginsUnreserved (Storing item then) = ¬ IsShortStore item

-- What a plan does at the node: all of it, or up to the store that failed. Stores are counted from here on.
abbrev pub EndsFrom : ℕ → Plan → Node → Ended → Type 0
EndsFrom first plan node (WithReply answer sent) =
    done plan None ≡ record { reply = answer; node = node; sent = sent.items }
EndsFrom first plan node (StoreFailed item number) =
    (later : ℕ) × (number ≡ first + later)
    × (done plan (Some later) ≡ refused DiskFailed (in_doubt node item)) × (reaches plan (Some later) ≡ true)

-- the state of the disks afterwards
abbrev pub LeavesOnDisks : Ended → Node → ℕ → State → State → Type 0
LeavesOnDisks (WithReply answer sent) node count journal checkpoints =
    UpOnDisks node count journal checkpoints
LeavesOnDisks (StoreFailed item number) node count journal checkpoints =
    DownOnDisks (in_doubt node item) count journal checkpoints

abbrev pub IsStoreFailed : Ended → Type 0
IsStoreFailed (WithReply answer sent) = ⊥
IsStoreFailed (StoreFailed item number) = ⊤

-- a store failed
abbrev pub IsFault : {E : Type 0} → Result Ended E → Type 0
IsFault (Ok ended) = IsStoreFailed ended
IsFault (Err error) = ⊥

abbrev pub IsShortDoubt : Option Store → Type 0
IsShortDoubt None = ⊥
IsShortDoubt (Some item) = IsShortStore item

-- a plan that stores at most this many records, each of them short
abbrev pub StoresFewShort : ℕ → Plan → Type 0
StoresFewShort most (finished outcome) = ⊤
StoresFewShort zero (storing broken rest) = ⊥
StoresFewShort (suc most) (storing broken rest) = IsShortDoubt broken.doubt × StoresFewShort most rest
