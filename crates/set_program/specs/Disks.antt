-- What a run does to the set's disks.
use Rattle.std.specs.Prelude.{◌≡◌, ◌++◌, ◌⊎◌, ℕ, IsTrue, List}
use Rattle.rs_disk.specs.State.{State}
use Rattle.set_model.specs.declared.command.Command.{Command}
use Rattle.set_model.specs.declared.command.Event.{Event}
use Rattle.set_model.specs.Run.{opening, run}
use Rattle.set_world.specs.World.{Set}
use Rattle.set_world.specs.Disks.{DisksUndone}
use Rattle.set_world.specs.Went.{DisksPlay}
use Rattle.shared_set.specs.declared.attempt.Attempt.{Attempt}
use Rattle.shared_set.specs.Attempts.{AttemptsLeave, done_in}

-- it fails only where it is armed, and it isn't armed
abbrev pub IsUnarmed : State → Type 0
IsUnarmed disk = IsTrue disk.is_steady × (¬ IsTrue disk.is_armed)

-- a set's events led from these disks to those that it has
abbrev pub DisksPlayed : {D : Type 0} → (D → State) → List D → Set D → Type 0
DisksPlayed state first set = DisksPlay state (opening set.sizes).world set.history first set.disks

-- its events led from them, and then a command of the next line, which wasn't done
pub record DisksBegan {D : Type 0} (state : D → State) (IsNext : ℕ → Command → Type 0) (first : List D)
    (set : Set D) : Type 0 where
  pub last : List D
  pub played : DisksPlay state (opening set.sizes).world set.history first last
  pub line : ℕ
  pub command : Command
  pub next : IsNext line command
  pub undone : DisksUndone state (run set.sizes set.history).world command last set.disks

-- The events before a block led from them, and then what was tried in it: events, and commands that weren't
-- done.
pub record DisksBroke {D : Type 0} (state : D → State) (IsBlock : List Event → List Attempt → Type 0)
    (first : List D) (set : Set D) : Type 0 where
  pub earlier : List Event
  pub tried : List Attempt
  pub events_are : set.history ≡ earlier ++ done_in tried
  pub block : IsBlock earlier tried
  pub begun : List D
  pub played : DisksPlay state (opening set.sizes).world earlier first begun
  pub ran : AttemptsLeave state (run set.sizes earlier).world tried begun set.disks

-- Its events alone led from them. If memory ran out at a line, one more command may have used them; if it ran
-- out in a block, lines of it that weren't done may have.
abbrev pub DisksRan : {D : Type 0} → (D → State) → Type 0 → (ℕ → Command → Type 0)
    → (List Event → List Attempt → Type 0) → List D → Set D → Type 0
DisksRan state OutOfMemory IsNext IsBlock first set =
    DisksPlayed state first set
    ⊎ (OutOfMemory × (DisksBegan state IsNext first set ⊎ DisksBroke state IsBlock first set))
