-- The two disks of a node between two of its steps.
use Rattle.std.specs.Prelude.{◌≡◌, ℕ, Bool, true, false, length, IfSome}
use Rattle.rs_disk.specs.State.{State}
use Rattle.oplog_entry.specs.Visible.{log_up_to}
use Rattle.repl_msg.specs.Kept.{kept}
use Rattle.node_journal.specs.Files.{IsAtRest as JournalAtRest}
use Rattle.checkpoint_store.specs.Files.{IsAtRest as CheckpointsAtRest}
use Rattle.set_model.specs.declared.store.Store.{Store}
use Rattle.set_model.specs.Node.{Node}
use Rattle.set_model.specs.Stores.{records_after, stable_after}
use Rattle.node_core.specs.Down.{DownState, down_node}
use Rattle.node_core.specs.Stands.{Stands, documents_at}
use Rattle.node_state.specs.WellKept.{IsWellKept}

-- the journal has this many records, the checkpoints have the stable documents, and every crash leaves them
pub record UpOnDisks (node : Node) (count : ℕ) (journal checkpoints : State) : Type 0 where
  pub counted : count ≡ length node.records
  pub records : JournalAtRest journal node.records
  pub documents : CheckpointsAtRest checkpoints (documents_at node node.stable)

-- A node that finds the store in doubt can come back with it, and its documents are then those of what it
-- had stored before.
abbrev pub IsWellKeptWith : Node → Store → Type 0
IsWellKeptWith node item =
    IsWellKept (records_after node.records item) (stable_after node.stable item)
    × (log_up_to (stable_after node.stable item) (kept (records_after node.records item)).entries
    ≡ log_up_to (stable_after node.stable item) (kept node.records).entries)

-- a node that is down: this many of its records are known to be in the journal
pub record DownOnDisks (node : Node) (count : ℕ) (journal checkpoints : State) : Type 0 where
  pub counted : count ≡ length node.records
  pub stands : Stands node journal checkpoints
  pub well : IsWellKept node.records node.stable
  pub doubtful : IfSome node.doubt (λ item. IsWellKeptWith node item)

-- a node that is up, or one that is down
abbrev pub IsOnDisks : Bool → Node → DownState → ℕ → State → State → Type 0
IsOnDisks true node left count journal checkpoints = UpOnDisks node count journal checkpoints
IsOnDisks false node left count journal checkpoints =
    DownOnDisks (down_node node left) count journal checkpoints
