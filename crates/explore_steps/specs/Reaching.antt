-- Which questions are asked, and which worlds a search comes to.
use Rattle.std.specs.Prelude.{◌≡◌, ◌<◌, ◌≤◌, ◌+◌, ◌-◌, ◌^◌, ℕ, true, List, All, None, IfSome, length}
use Rattle.std.specs.List.{list_all}
use Rattle.set_model.specs.declared.command.Command.{Command}
use Rattle.set_model.specs.declared.command.Event.{Event}
use Rattle.set_model.specs.Limits.{IsRun, IsSoundWrite, is_for, write_of}
use Rattle.set_model.specs.Run.{AreSizes, run}
use Rattle.set_model.specs.World.{World}
use Rattle.explore_words.specs.declared.question.Question.{Question}
use Rattle.explore_words.specs.Fits.{is_want_for}
use Rattle.question_laws.specs.Following.{sizes_in}
use Rattle.question_laws.specs.Lawful.{HasCommands, IsLawful}

-- what each question owes that was read from a text
pub record IsPut (question : Question) : Type 0 where
  pub sizes : AreSizes (sizes_in question)
  pub lawful : IsLawful question
  pub commands : HasCommands question
  pub wants : list_all (is_want_for question.sizes.nodes) question.wants ≡ true
  pub few : length question.wants ≤ 100

-- A run of the question's set in which no store fails leads to this world. So many events may follow before a
-- number could overflow its type.
pub record IsReachedBefore (spare : ℕ) (question : Question) (world : World) : Type 0 where
  pub events : List Event
  pub is_run : IsRun (sizes_in question) events
  pub whole : All (λ event. event.failed ≡ None) events
  pub few : length events + spare < 2 ^ 32 - 1
  pub is : world ≡ (run (sizes_in question) events).world

-- a command is one of the question's set
pub record IsOfSet (question : Question) (command : Command) : Type 0 where
  pub is_for : is_for question.sizes.nodes command ≡ true
  pub documents : IfSome (write_of command) IsSoundWrite
