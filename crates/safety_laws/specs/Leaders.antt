-- What holds of a leader from one place of a run to a later one (MongoDB's replication architecture guide).
use Rattle.std.specs.Prelude.{◌≡◌, ◌≤◌, ℕ, List}
use Rattle.set_model.specs.declared.command.Event.{Event}
use Rattle.set_model.specs.declared.role.Role.TheVariants.{Primary}
use Rattle.set_model.specs.Node.{Node}
use Rattle.set_model.specs.Run.{Sizes}
use Rattle.set_model.specs.Safety.{Leads}

-- A node that is primary in a term and leads in it later is primary in it at every place in between.
abbrev pub PrimariesStay : Sizes → List Event → Type 0
PrimariesStay sizes events =
    (i j k number term : ℕ) (old new : Node) → i ≤ j → j ≤ k
    → Leads sizes events i number term old → old.role ≡ Primary → Leads sizes events k number term new
    → (node : Node) × Leads sizes events j number term node × (node.role ≡ Primary)
