-- What always holds of a node's data.
use Rattle.std.specs.Prelude.{◌≡◌, ◌≤◌, ℕ, false, All}
use Rattle.std.specs.FinSet as sets
use Rattle.rs_optime.specs.Order.{is_before}
use Rattle.entry_bytes.specs.Sizes.{IsWithinEntry}
use Rattle.oplog_store.specs.Log.{IsOplog}
use Rattle.set_model.specs.Node.{Node}
use Rattle.set_model.specs.Points.{last_point, applied_point}
use Rattle.set_model.specs.Roles.{is_primary}
use Rattle.node_data.specs.Versions.{AreSmall}
use Rattle.node_data.specs.Writers.{IsWriting}

-- neither a slot nor a writer is open
pub record IsIdle (node : Node) : Type 0 where
  pub slots : node.slots ≡ sets.empty
  pub writers : (writer : ℕ) → ¬ IsWriting node.writers writer

-- The log is in order, its entries fit into a record, and none is past the greatest timestamp seen. It is
-- applied at most to its end, and the documents of the checkpoint are no newer than what is applied. Only a
-- primary has slots.
pub record IsSound (node : Node) : Type 0 where
  pub oplog : IsOplog node.log
  pub entries : All IsWithinEntry node.log
  pub documents : AreSmall node.log
  pub marked : All (λ entry. entry.optime.ts ≤ node.seen) node.log
  pub idle : is_primary node.role ≡ false → IsIdle node
  pub applied : is_before (last_point node) node.applied ≡ false
  pub stable : is_before (applied_point node) node.stable ≡ false
