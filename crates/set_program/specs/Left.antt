-- What a call leaves: a set, or its disks alone.
use Rattle.std.specs.Prelude.{List, ⊤}
use Rattle.set_model.specs.declared.command.Event.{Event}
use Rattle.set_world.specs.World.{Set}
use Rattle.set_program.specs.declared.outcome.Left.{Left}
use Rattle.set_program.specs.declared.outcome.Left.TheVariants.{World, Parts}

-- this holds of the set, if there is one
abbrev pub IfSet : {D : Type 0} → Left D → (Set D → Type 0) → Type 0
IfSet (World set) Holds = Holds set
IfSet (Parts events disks) Holds = ⊤

-- this holds of the events and the disks, if they are all that is left
abbrev pub IfParts : {D : Type 0} → Left D → (List Event → List D → Type 0) → Type 0
IfParts (World set) Holds = ⊤
IfParts (Parts events disks) Holds = Holds events.items disks.items

abbrev pub events_of : {D : Type 0} → Left D → List Event
events_of (World set) = set.history
events_of (Parts events disks) = events.items

abbrev pub disks_of : {D : Type 0} → Left D → List D
disks_of (World set) = set.disks
disks_of (Parts events disks) = disks.items
