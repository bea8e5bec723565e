-- Which calls of a disk were made between two of its states, and how they ended.
use Rattle.std.specs.Prelude.{◌≡◌, ◌⊎◌, List, [], ◌∷◌, ◌++◌}
use Rattle.rs_disk.specs.File.{File, Change, changed, settled, contents}
use Rattle.rs_disk.specs.State.{State, IsDone, IsCrashed}

-- one call
pub data Step : Type 0 where
  reads : Step
  changes : (change : Change) → Step
  syncs : Step

-- the file while the call goes on
abbrev pub in_step : Step → File → File
in_step reads file = file
in_step (changes change) file = changed change file
in_step syncs file = file

-- the file when it is done
abbrev pub after_step : Step → File → File
after_step reads file = file
after_step (changes change) file = changed change file
after_step syncs file = settled (contents file)

abbrev pub after_steps : List Step → File → File
after_steps [] file = file
after_steps (step ∷ steps) file = after_steps steps (after_step step file)

-- the earlier moments after the calls, the newest first
abbrev pub past_of : List Step → File → List File → List File
past_of [] file past = past
past_of (step ∷ steps) file past = past_of steps (after_step step file) (in_step step file ∷ file ∷ past)

-- Exactly these calls were made, in this order, and done.
pub record Makes (steps : List Step) (old new : State) : Type 0 where
  pub file : new.file ≡ after_steps steps old.file
  pub past : new.past ≡ past_of steps old.file old.past

-- The first of these calls were made, in this order. The last one made failed, and those before it were done.
abbrev pub FailsWithin : List Step → State → State → Type 0
FailsWithin [] old new = ⊥
FailsWithin (step ∷ steps) old new = IsCrashed (in_step step old.file) old new
    ⊎ ((mid : State) × IsDone (in_step step old.file) (after_step step old.file) old mid
    × FailsWithin steps mid new)

-- The first of these calls were made, in this order, and done.
abbrev pub MakesFirst : List Step → State → State → Type 0
MakesFirst steps old new =
    (made : List Step) × (rest : List Step) × (steps ≡ made ++ rest) × Makes made old new
