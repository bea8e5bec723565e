-- What each turn at a shared set did: an event, or a command that wasn't done.
use Rattle.std.specs.Prelude.{◌≡◌, ◌⊎◌, ◌++◌, ◌∷◌, [], ℕ, true, List, length, drop}
use Rattle.std.specs.List.{AllByRecursion, Contains}
use Rattle.rs_disk.specs.State.{State}
use Rattle.set_model.specs.declared.command.Command.{Command}
use Rattle.set_model.specs.declared.command.Event.{Event}
use Rattle.set_model.specs.Limits.{is_for}
use Rattle.set_model.specs.Run.{run}
use Rattle.set_model.specs.World.{World, step}
use Rattle.set_world.specs.Disks.{DisksStep, DisksUndone}
use Rattle.set_world.specs.World.{Set}
use Rattle.shared_set.specs.declared.attempt.Attempt.{Attempt}
use Rattle.shared_set.specs.declared.attempts.Attempts.{Attempts}
use Rattle.shared_set.specs.declared.attempts.Turn.{Turn}
use Rattle.shared_set.specs.declared.attempt.Attempt.TheVariants.{Done, Undone}

-- what a turn did that added these events
abbrev pub came_to : List Event → ℕ → Command → Attempt
came_to [] line command = Undone line command
came_to (event ∷ more) line command = Done event

-- nothing was tried
abbrev pub none_tried : Attempts
none_tried = record { list = [] }

-- one more turn
abbrev pub more_tried : Turn → Attempts → Attempts
more_tried turn tried = record {
  list = tried.list ++ came_to (drop turn.before turn.history.now) turn.line turn.command.now ∷ [];
}

-- the events of those that were done
abbrev pub done_in : List Attempt → List Event
done_in [] = []
done_in (Done event ∷ later) = event ∷ done_in later
done_in (Undone line command ∷ later) = done_in later

-- the lines and commands of the others
abbrev pub undone_in : List Attempt → List (ℕ × Command)
undone_in [] = []
undone_in (Done event ∷ later) = undone_in later
undone_in (Undone line command ∷ later) = (line, command) ∷ undone_in later

-- the turns that added events
abbrev pub done_turns : List (ℕ × Attempt) → List (ℕ × Event)
done_turns [] = []
done_turns ((pass, Done event) ∷ later) = (pass, event) ∷ done_turns later
done_turns ((pass, Undone line command) ∷ later) = done_turns later

-- the events of each pass
abbrev pub done_calls : List (ℕ × List Attempt) → List (ℕ × List Event)
done_calls [] = []
done_calls (own ∷ others) = (own.0, done_in own.1) ∷ done_calls others

-- what each pass tried without success
abbrev pub undone_calls : List (ℕ × List Attempt) → List (List (ℕ × Command))
undone_calls [] = []
undone_calls (own ∷ others) = undone_in own.1 ∷ undone_calls others

-- the first pass tried one more without success
abbrev pub one_more : ℕ × Command → List (List (ℕ × Command)) → List (List (ℕ × Command))
one_more line [] = []
one_more line (own ∷ others) = (own ++ line ∷ []) ∷ others

-- one of these lists has it
abbrev pub IsInSome : {A : Type 0} → List (List A) → A → Type 0
IsInSome [] item = ⊥
IsInSome (own ∷ others) item = Contains own item ⊎ IsInSome others item

-- What attempts leave of the disks, each from the world that it meets.
abbrev pub AttemptsLeave : {D : Type 0} → (D → State) → World → List Attempt → List D → List D → Type 0
AttemptsLeave state world [] old new = new ≡ old
AttemptsLeave {D} state world (Done event ∷ later) old new =
    (between : List D) × DisksStep state world event old between
    × AttemptsLeave state (step world event).world later between new
AttemptsLeave {D} state world (Undone line command ∷ later) old new =
    (between : List D) × (is_for (length world.nodes) command ≡ true)
    × DisksUndone state world command old between × AttemptsLeave state world later between new

-- A set went on by these attempts, which are all that was tried on it.
pub record WentBy {D : Type 0} (state : D → State) (old new : Set D) (all : List Attempt) : Type 0 where
  pub sizes : new.sizes ≡ old.sizes
  pub history : new.history ≡ old.history ++ done_in all
  pub disks : AttemptsLeave state (run old.sizes old.history).world all old.disks new.disks

-- A set went on by what was tried on it. What wasn't done is among what passes tried without success.
pub record WentOnBy {D : Type 0} (state : D → State) (undone : List (List (ℕ × Command))) (old new : Set D)
    : Type 0 where
  pub all : List Attempt
  pub went : WentBy state old new all
  pub tried : AllByRecursion (IsInSome undone) (undone_in all)
