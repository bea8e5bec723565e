-- What the next step of a node that is up can rely on.
use Rattle.std.specs.Prelude.{◌≡◌, ◌≤◌, ℕ, All, List, length, None, Some}
use Rattle.std.specs.FinMap as maps
use Rattle.oplog_entry.specs.declared.entry.Op.{Op}
use Rattle.oplog_store.specs.Log.{IsOplog, with_entry}
use Rattle.repl_msg.specs.Kept.{kept, with_entries}
use Rattle.rs_optime.specs.declared.optime.OpTime.{OpTime}
use Rattle.set_model.specs.Disk.{next_entries}
use Rattle.set_model.specs.Node.{Node}
use Rattle.set_model.specs.Run.{HISTORY_LIMIT, Sizes}
use Rattle.set_model.specs.Safety.{IsAt}
use Rattle.set_model.specs.declared.command.Event.{Event}
use Rattle.set_model.specs.declared.writer.Writer.TheVariants.{Open}

-- No store is in doubt. The log is in order, within the node's term and what it has seen. So is the log that
-- its records give, also with the next record of entries. Each open slot is a place for its entry.
pub record IsSoundNode (node : Node) : Type 0 where
  pub doubt : node.doubt ≡ None
  pub oplog : IsOplog node.log
  pub terms : All (λ entry. entry.optime.term ≤ node.term) node.log
  pub marked : All (λ entry. entry.optime.ts ≤ node.seen) node.log
  pub kept_oplog : IsOplog (kept node.records).entries
  pub flushes : IsOplog (with_entries (kept node.records).entries (next_entries node))
  pub writers :
      (writer : ℕ) (at : OpTime) (op : Op) → maps.get node.writers writer ≡ Some (Open at op)
      → IsOplog (with_entry node.log (record { optime = at; op = op; session = None }))

-- After at most 4,294,967,295 events each node that is up is sound.
abbrev pub NodesAreSound : Sizes → List Event → Type 0
NodesAreSound sizes events =
    (number : ℕ) (node : Node) → length events ≤ HISTORY_LIMIT
    → IsAt sizes events (length events) number node → IsSoundNode node
