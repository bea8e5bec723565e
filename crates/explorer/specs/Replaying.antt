-- How a run of a question is done again.
use Rattle.std.specs.Prelude.{◌≡◌, ◌++◌, ◌∷◌, ℕ, List, [], Option, None, Some, length, map}
use Rattle.set_model.specs.declared.command.Command.{Command}
use Rattle.set_model.specs.declared.command.Command.TheVariants.{Deliver}
use Rattle.set_model.specs.declared.command.Event.{Event}
use Rattle.set_model.specs.Run.{opening}
use Rattle.explore_words.specs.declared.question.Question.{Question}
use Rattle.question_laws.specs.Doing.{event_of, lines_done, world_after}
use Rattle.question_laws.specs.Following.{beginning, begun, sizes_in}
use Rattle.question_laws.specs.Lawful.{AreFor}
use Rattle.explore_steps.specs.Reaching.{IsPut, IsReachedBefore}
use Rattle.explorer.specs.declared.replay.Run.{Run}

-- only the beginning was done
pub record IsRunBegun (question : Question) (run : Run) : Type 0 where
  pub machine : run.machine ≡ begun question
  pub events : run.events.items ≡ beginning question

-- these events were
pub record Does (old new : Run) (events : List Event) : Type 0 where
  pub machine : new.machine ≡ world_after old.machine events
  pub more : new.events.items ≡ old.events.items ++ events

-- the delivery that an act begins with, where it begins with one
abbrev pub first_done : Option ℕ → List Event
first_done None = []
first_done (Some message) = event_of (Deliver message) ∷ []

-- ---- so far

-- these commands of the beginning were done, and those are left
pub record HasBegun (question : Question) (run : Run) (done left : List Command) : Type 0 where
  pub machine : run.machine ≡ world_after (opening (sizes_in question)).world (map event_of done)
  pub events : run.events.items ≡ map event_of done
  pub reached : IsReachedBefore (length left) question run.machine

-- some lines of an act were done, and these are left
pub record HasDone (before : ℕ) (old new : Run) (lines left : List Command) : Type 0 where
  pub done : List Event
  pub does : Does old new done
  pub rest : lines_done before old.machine lines ≡ done ++ lines_done before new.machine left
  pub question : Question
  pub put : IsPut question
  pub commands : AreFor question.sizes.nodes left
  pub reached : IsReachedBefore (length left) question new.machine
