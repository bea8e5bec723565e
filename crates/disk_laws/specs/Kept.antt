-- What stays on disks of what a primary has committed.
use Rattle.std.specs.Prelude.{◌≡◌, ◌≤◌, ℕ, true, List, [], ◌∷◌, ◌++◌, Option, None, Some, slice_get}
use Rattle.rs_optime.specs.Order.{AtMost}
use Rattle.rs_optime.specs.declared.optime.OpTime.{OpTime}
use Rattle.oplog_entry.specs.Visible.{log_up_to}
use Rattle.oplog_entry.specs.declared.entry.Entry.{Entry}
use Rattle.repl_msg.specs.Kept.{kept}
use Rattle.repl_msg.specs.declared.record.Record.{Record}
use Rattle.set_model.specs.declared.command.Event.{Event}
use Rattle.set_model.specs.declared.store.Store.{Store}
use Rattle.set_model.specs.declared.store.Store.TheVariants as stores
use Rattle.set_model.specs.Node.{Node}
use Rattle.set_model.specs.Run.{Sizes, world_at}
use Rattle.set_model.specs.Safety.{IsAt, IsCommitted, is_durable_in}

-- these records come to this log up to an optime, at or before the point up to which all of them counts
pub record HaveUpTo (items : List Record) (at : OpTime) (log : List Entry) : Type 0 where
  pub point : AtMost at (kept items).point
  pub entries : log_up_to at (kept items).entries ≡ log

-- with the record that a store in doubt may have left
abbrev pub with_doubt : List Record → Option Store → List Record
with_doubt items None = items
with_doubt items (Some (stores.Record item)) = items ++ item ∷ []
with_doubt items (Some (stores.Checkpoint at)) = items

-- the node's journal has this log up to an optime, whether a store in doubt stands or not
pub record Keeps (node : Node) (at : OpTime) (log : List Entry) : Type 0 where
  pub without : HaveUpTo node.records at log
  pub with_it : HaveUpTo (with_doubt node.records node.doubt) at log

module _ (sizes : Sizes) (events : List Event) where
  -- A member that counted for what a primary has committed, since it was durable in the primary's term up
  -- to the counted point, keeps that for ever: at each later place, up or down, its journal has the
  -- primary's log up to the optime.
  abbrev pub CountedEntriesStay : Type 0
  CountedEntriesStay =
      (h m : ℕ) (primary : Node) (at : OpTime) (committed : IsCommitted sizes events h m primary at)
      (i v : ℕ) (member : Node) → IsAt sizes events i v member
      → is_durable_in sizes events primary.term committed.point member ≡ true
      → (j : ℕ) (node : Node) → h ≤ j → i ≤ j → slice_get (world_at sizes events j).nodes v ≡ Some node
      → Keeps node at (log_up_to at primary.log)
