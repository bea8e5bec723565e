-- A node in memory, while it is up.
use Rattle.std.specs.Prelude.{ℕ}
use Rattle.set_model.specs.Node.{Node}

-- the node; room for how many more entries; room for what is heard of how many more members
pub record StateView : Type 0 where
  pub node : Node
  pub spare : ℕ
  pub places : ℕ
