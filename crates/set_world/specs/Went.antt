-- What a run does to the disks of a set.
use Rattle.std.specs.Prelude.{◌≡◌, true, List, [], ◌∷◌, ◌++◌, length}
use Rattle.rs_disk.specs.State.{State}
use Rattle.set_model.specs.declared.command.Command.{Command}
use Rattle.set_model.specs.declared.command.Event.{Event}
use Rattle.set_model.specs.Limits.{is_for}
use Rattle.set_model.specs.Run.{opening, run}
use Rattle.set_model.specs.World.{World, step}
use Rattle.set_world.specs.World.{Set}
use Rattle.set_world.specs.Disks.{DisksStep, DisksUndone}

-- events, each in the world in which it happens
abbrev pub DisksPlay : {D : Type 0} → (D → State) → World → List Event → List D → List D → Type 0
DisksPlay state world [] old new = new ≡ old
DisksPlay {D} state world (event ∷ later) old new =
    (between : List D) × DisksStep state world event old between
    × DisksPlay state (step world event).world later between new

-- commands that weren't done, since memory ran out
abbrev pub AllUndone : {D : Type 0} → (D → State) → World → List Command → List D → List D → Type 0
AllUndone state world [] old new = new ≡ old
AllUndone {D} state world (command ∷ more) old new =
    (between : List D) × (is_for (length world.nodes) command ≡ true)
    × DisksUndone state world command old between
    × AllUndone state world more between new

-- events, with such commands before, between and after them
abbrev pub DisksRun : {D : Type 0} → (D → State) → World → List Event → List D → List D → Type 0
DisksRun state world [] old new = (undone : List Command) × AllUndone state world undone old new
DisksRun {D} state world (event ∷ later) old new =
    (undone : List Command) × (before : List D) × (after : List D) × AllUndone state world undone old before
    × DisksStep state world event before after × DisksRun state (step world event).world later after new

-- The disks of a set are what its events leave of what the opening left. A set that isn't whole has run out
-- of memory in some step, so commands that weren't done may have used disks too.
pub record DisksWent {D : Type 0} (state : D → State) (set : Set D) : Type 0 where
  pub ran : DisksRun state (opening set.sizes).world set.history set.opened set.disks
  pub played : set.whole ≡ true → DisksPlay state (opening set.sizes).world set.history set.opened set.disks

-- A set from one moment to a later one: these events were added. Its disks are what they leave of the earlier
-- ones; where the later set isn't whole, commands that weren't done may have used disks too.
pub record WentOn {D : Type 0} (state : D → State) (old new : Set D) : Type 0 where
  pub sizes : new.sizes ≡ old.sizes
  pub opened : new.opened ≡ old.opened
  pub added : List Event
  pub history : new.history ≡ old.history ++ added
  pub ran : DisksRun state (run old.sizes old.history).world added old.disks new.disks
  pub played : new.whole ≡ true → DisksPlay state (run old.sizes old.history).world added old.disks new.disks

-- the new set went on from each moment that the old one went on from
abbrev pub GoesOn : {D : Type 0} → (D → State) → Set D → Set D → Type 0
GoesOn {D} state old new = (begun : Set D) → WentOn state begun old → WentOn state begun new
