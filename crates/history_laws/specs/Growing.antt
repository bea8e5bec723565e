-- That what majority reads show grows (MongoDB manual, read concern "majority").
use Rattle.std.specs.Prelude.{◌≤◌, ℕ, List}
use Rattle.oplog_entry.specs.Log.{Begins}
use Rattle.oplog_entry.specs.Visible.{log_up_to}
use Rattle.set_model.specs.declared.command.Event.{Event}
use Rattle.set_model.specs.declared.command.ReadLevel.TheVariants.{Majority}
use Rattle.set_model.specs.Node.{Node}
use Rattle.set_model.specs.Reads.{shown_log}
use Rattle.set_model.specs.Run.{Sizes}
use Rattle.set_model.specs.Safety.{IsAt}

module _ (sizes : Sizes) (events : List Event) where
  -- the node is up at each of these places
  abbrev pub StaysUp : ℕ → ℕ → ℕ → Type 0
  StaysUp from until number =
      (place : ℕ) → from ≤ place → place ≤ until → (node : Node) × IsAt sizes events place number node

  -- As long as a node stays up, its majority reads show what earlier ones showed there.
  abbrev pub MajorityReadsGrow : Type 0
  MajorityReadsGrow =
      (i j number : ℕ) (one two : Node) → i ≤ j → StaysUp i j number → IsAt sizes events i number one
      → IsAt sizes events j number two → Begins (shown_log one Majority) (shown_log two Majority)

  -- A majority read shows all up to the node's last checkpoint, right after a restart too.
  abbrev pub CheckpointsAreShown : Type 0
  CheckpointsAreShown =
      (place number : ℕ) (node : Node) → IsAt sizes events place number node
      → Begins (log_up_to node.stable node.log) (shown_log node Majority)
