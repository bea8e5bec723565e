-- Tables of nodes, in which alike ones are found.
use Rattle.std.specs.Prelude.{◌≡◌, ℕ, List, Some, slice_get}
use Rattle.set_model.specs.Node.{Node}
use Rattle.explore_laws.specs.Alike.{AlikeNodes}

-- the node of this number is alike another
abbrev pub HasAlike : List Node → ℕ → Node → Type 0
HasAlike nodes number node = (found : Node) × (slice_get nodes number ≡ Some found) × AlikeNodes node found
