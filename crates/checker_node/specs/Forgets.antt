-- A node that has lost what it had in memory.
use Rattle.std.specs.Prelude.{Bool}
use Rattle.set_model.specs.Node.{Node, down}

-- a node that is down, or one that comes up with nothing yet
abbrev pub emptied : Node → Bool → Node
emptied node up = record (down node) { up = up }
