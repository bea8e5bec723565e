-- What playing one part or several does to a set.
use Rattle.std.specs.Prelude.{ℕ, Bool, ◌≡◌, ◌++◌, ◌⊎◌, ◌&&◌, nat_le, List, [], Result, Ok, Err, length, map, take, true, ⊤}
use Rattle.std.specs.List.{AllByRecursion}
use Rattle.std.specs.declared.alloc.AllocError.{AllocError}
use Rattle.rs_disk.specs.State.{State}
use Rattle.set_model.specs.declared.command.Command.{Command}
use Rattle.set_model.specs.declared.command.Event.{Event}
use Rattle.set_model.specs.declared.reply.Reply.{Reply}
use Rattle.set_model.specs.Run.{run}
use Rattle.set_model.specs.World.{World}
use Rattle.fault_script.specs.declared.script.Part.{Part}
use Rattle.fault_script.specs.declared.script.Part.TheVariants.{Line, Par}
use Rattle.fault_script.specs.Script.{is_part_for}
use Rattle.set_world.specs.Disks.{DisksUndone}
use Rattle.set_world.specs.Went.{DisksPlay}
use Rattle.shared_set.specs.declared.attempt.Attempt.{Attempt}
use Rattle.shared_set.specs.Attempts.{AttemptsLeave, IsInSome, done_in, undone_in}
use Rattle.set_world.specs.World.{Set}
use Rattle.set_program.specs.Disks.{DisksRan}
use Rattle.set_program.specs.Headline.{BreaksIn}
use Rattle.set_program.specs.Orders.{ComesNext, Follows, FollowsInPart, IsInBlock, IsInBlockOrAfter, IsOrderOf}
use Rattle.set_program.specs.Steps.{GoesOn, line_of}
use Rattle.task_words.specs.declared.words.Task.{Task}

-- a block has at most this many threads
abbrev pub has_few_threads : Part → Bool
has_few_threads (Line number command) = true
has_few_threads (Par threads) = nat_le (length threads) 16

-- a part for a set of this size
abbrev pub can_be_run : ℕ → Part → Bool
can_be_run nodes part = has_few_threads part && is_part_for nodes part

-- the lines and replies of a block's events
abbrev pub unplaced : List (ℕ × ℕ × Reply) → List (ℕ × Reply)
unplaced told = map (λ t. (t.1, t.2)) told

-- ---- one part

-- all its lines are played, and their replies appended to earlier ones
pub record Stepped {D : Type 0} (state : D → State) (part : Part) (old new : Set D)
    (before after : List (ℕ × Reply)) : Type 0 where
  pub sizes : new.sizes ≡ old.sizes
  pub added : List Event
  pub events : new.history ≡ old.history ++ added
  pub order : IsOrderOf part (map line_of added)
  pub replies : List (ℕ × Reply)
  pub told : GoesOn old.sizes old.history new.history replies
  pub kept : after ≡ before ++ replies
  pub disks : DisksPlay state (run old.sizes old.history).world added old.disks new.disks
  pub whole : old.whole ≡ true → new.whole ≡ true

-- Where memory runs out, the command of a line may have been begun. In a block lines of it that weren't done
-- may have used disks before, between and after the events.
abbrev pub DisksCut : {D : Type 0} → (D → State) → Part → World → List Event → List D → List D → Type 0
DisksCut state (Line number command) world events old new =
    DisksPlay state world events old new ⊎ ((events ≡ []) × DisksUndone state world command old new)
DisksCut state (Par threads) world events old new = (tried : List Attempt) × (done_in tried ≡ events)
    × AllByRecursion (IsInSome threads) (undone_in tried) × AttemptsLeave state world tried old new

-- some first lines are played, in an order in which all may be
pub record SteppedSome {D : Type 0} (state : D → State) (part : Part) (old new : Set D) : Type 0 where
  pub sizes : new.sizes ≡ old.sizes
  pub added : List Event
  pub events : new.history ≡ old.history ++ added
  pub lines : List (ℕ × Command)
  pub order : IsOrderOf part lines
  pub front : map line_of added ≡ take (length added) lines
  pub disks : DisksCut state part (run old.sizes old.history).world added old.disks new.disks

-- all of them, or some of them if memory ran out
abbrev pub Steps : {D : Type 0} → (D → State) → Part → Set D → Set D → List (ℕ × Reply) → List (ℕ × Reply)
    → Result (Unit {0}) AllocError → Type 0
Steps state part old new before after (Ok done) = Stepped state part old new before after
Steps state part old new before after (Err error) = SteppedSome state part old new

-- ---- several parts, from the first event on

-- the disks that a set had, and has now
abbrev pub DisksGo : {D : Type 0} → (D → State) → List Part → List D → Set D → Type 0 → Type 0
DisksGo state parts first set OutOfMemory =
    DisksRan state OutOfMemory (ComesNext parts set.history) (IsInBlock parts) first set

-- the same for a task: memory may also run out in the work after the parts
abbrev pub DisksEnd : {D : Type 0} → (D → State) → Task → List Part → List D → Set D → Type 0 → Type 0
DisksEnd state task parts first set OutOfMemory =
    DisksRan state OutOfMemory (ComesNext parts set.history) (BreaksIn task parts) first set

-- the same for each task with work after the parts
abbrev pub DisksAfterScript : {D : Type 0} → (D → State) → List Part → List D → Set D → Type 0 → Type 0
DisksAfterScript state parts first set OutOfMemory =
    DisksRan state OutOfMemory (ComesNext parts set.history) (IsInBlockOrAfter parts) first set

-- all parts are played, and the replies of the run kept
pub record AllStepped {D : Type 0} (state : D → State) (parts : List Part) (old new : Set D)
    (replies : List (ℕ × Reply)) : Type 0 where
  pub sizes : new.sizes ≡ old.sizes
  pub follows : Follows parts new.history
  pub told : replies ≡ (run new.sizes new.history).replies
  pub disks : DisksGo state parts old.disks new ⊥

-- some first lines are played
pub record SomeStepped {D : Type 0} (state : D → State) (parts : List Part) (old new : Set D) : Type 0 where
  pub sizes : new.sizes ≡ old.sizes
  pub follows : FollowsInPart parts new.history
  pub disks : DisksGo state parts old.disks new ⊤

abbrev pub StepsAll : {D : Type 0} → (D → State) → List Part → Set D → Set D → List (ℕ × Reply)
    → Result (Unit {0}) AllocError → Type 0
StepsAll state parts old new replies (Ok done) = AllStepped state parts old new replies
StepsAll state parts old new replies (Err error) = SomeStepped state parts old new
