-- What holds of each node as long as no store fails.
use Rattle.std.specs.Prelude.{◌≡◌, ℕ, true, None, Some, slice_get}
use Rattle.repl_msg.specs.Kept.{kept}
use Rattle.set_model.specs.Node.{Node}
use Rattle.set_model.specs.World.{World}

-- nothing is in doubt, and the term of a node that is up is that of its records
pub record IsSettled (node : Node) : Type 0 where
  pub doubt : node.doubt ≡ None
  pub term : node.up ≡ true → (kept node.records).vote.term ≡ node.term

abbrev pub AreSettled : World → Type 0
AreSettled world = (number : ℕ) (node : Node) → slice_get world.nodes number ≡ Some node → IsSettled node
