-- How many committed entries a node has had in a run.
use Rattle.std.specs.Prelude.{ℕ, max, List, [], ◌∷◌, length, if◌then◌else◌, slice_get}
use Rattle.std.specs.Option.{option_map_or}
use Rattle.oplog_entry.specs.Visible.{log_up_to}
use Rattle.set_model.specs.declared.command.Event.{Event}
use Rattle.set_model.specs.Node.{Node}
use Rattle.set_model.specs.Run.{Sizes, opening}
use Rattle.set_model.specs.World.{World, step}

-- how many entries a node's log has up to its commit point; 0 for a node that is down
abbrev pub committed : Node → ℕ
committed node = if node.up then length (log_up_to node.commit node.log) else 0

abbrev pub committed_among : List Node → ℕ → ℕ
committed_among nodes number = option_map_or committed (slice_get nodes number) 0

-- the most that a node has committed in a world and in each that follows it, event by event
abbrev pub most_from : World → List Event → ℕ → ℕ
most_from world [] number = committed_among world.nodes number
most_from world (event ∷ events) number =
    max (committed_among world.nodes number) (most_from (step world event).world events number)

-- the most that a node has committed in any world of a run
abbrev pub pointed : Sizes → List Event → ℕ → ℕ
pointed sizes events number = most_from (opening sizes).world events number
