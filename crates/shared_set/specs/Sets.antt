-- What a board sees of a set.
use Rattle.std.specs.Prelude.{ℕ, List, [], ◌∷◌, ◌++◌}
use Rattle.set_model.specs.declared.command.Event.{Event}
use Rattle.set_model.specs.Limits.{IsRun}
use Rattle.set_model.specs.Pointed.{pointed}
use Rattle.set_model.specs.Run.{Sizes}
use Rattle.set_world.specs.World.{Set}
use Rattle.shared_set.specs.declared.attempt.Attempt.{Attempt}
use Rattle.shared_set.specs.Attempts.{done_in}

pub record SetOnBoard (D : Type 0) : Type 0 where
  -- as it was when it was shared, which no step changes
  pub begun : Set D
  pub set : Set D
  -- what was tried since
  pub tried : List Attempt

abbrev pub attempts_kept : {D : Type 0} → SetOnBoard D → List Attempt
attempts_kept turning = turning.tried

abbrev pub first_of : {D : Type 0} → SetOnBoard D → List (Set D)
first_of turning = turning.begun ∷ []

-- of a fixed part
abbrev pub sizes_in : {D : Type 0} → List (Set D) → Sizes
sizes_in [] = record { nodes = 0; voters = 0; members = 0 }
sizes_in (first ∷ more) = first.sizes

abbrev pub history_in : {D : Type 0} → List (Set D) → List Event
history_in [] = []
history_in (first ∷ more) = first.history

-- the most entries that a node has had committed in any world of the events' run
abbrev pub point_in : {D : Type 0} → List (Set D) → List Attempt → ℕ → ℕ
point_in first tried node = pointed (sizes_in first) (history_in first ++ done_in tried) node

-- the run of the events is defined
abbrev pub IsRunOf : {D : Type 0} → List (Set D) → List Attempt → Type 0
IsRunOf first tried = IsRun (sizes_in first) (history_in first ++ done_in tried)
