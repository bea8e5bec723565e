-- How a course goes on: it stands for whatever worlds its cells stand for.
use Rattle.std.specs.Prelude.{◌≡◌, ◌≤◌, ◌<◌, ◌+◌, ◌++◌, ℕ, suc, Bool, true, false, List, [], ◌∷◌, None, Option, Some, drop, length, slice_get}
use Rattle.repl_msg.specs.declared.message.Message.{Message}
use Rattle.rs_optime.specs.Membership.{In}
use Rattle.set_model.specs.declared.command.Command.{Command}
use Rattle.set_model.specs.declared.command.Command.TheVariants.{Deliver}
use Rattle.set_model.specs.declared.command.Event.{Event}
use Rattle.set_model.specs.Node.{Node}
use Rattle.set_model.specs.World.{World, step, touched_node}
use Rattle.explore_laws.specs.Dead.{is_dead_in}
use Rattle.explore_words.specs.declared.question.Act.{Act}
use Rattle.explore_words.specs.declared.question.Question.{Question}
use Rattle.explore_words.specs.declared.question.Want.{Want}
use Rattle.question_laws.specs.Doing.{act_done, event_of, is_done, lines_done, world_after}
use Rattle.question_laws.specs.Meeting.{Leaves, LeavesAfter, unseen}
use Rattle.explore_steps.specs.declared.course.Course.{Course}
use Rattle.explore_steps.specs.declared.doing.First.{First}
use Rattle.explore_steps.specs.declared.doing.First.TheVariants.{Nothing, Live, Dead}
use Rattle.explore_steps.specs.Causes.{Cause, IsCauseOf}
use Rattle.explore_steps.specs.Reaching.{IsOfSet, IsReachedBefore}
use Rattle.explore_steps.specs.Tables.{AreNoted, AreNumbers, AreUnderWay, HasCell, Tables}

-- the wants that are left after so many were met
abbrev pub left_after : Question → ℕ → List Want
left_after question met = drop met question.wants

-- A course stands for a world that a search comes to, so many events before the last, in an act that began
-- after so many messages. What is seen there is met.
pub record StandsAt (spare : ℕ) (tables : Tables) (question : Question) (course : Course) (world : World)
    (before : ℕ) : Type 0 where
  pub under_way :
      AreUnderWay tables course.notes_dead course.cells.items course.sent.items course.dead world before
  pub begun : before ≤ length world.messages
  pub reached : IsReachedBefore spare question world
  pub met : course.met ≤ length question.wants
  pub seen : unseen world (left_after question course.met) ≡ left_after question course.met

-- ---- messages that are sent

abbrev pub AreCells : Tables → List ℕ → Type 0
AreCells tables cells = (place cell : ℕ) → slice_get cells place ≡ Some cell → HasCell tables cell

-- a course stands for a world, whatever was met and sent
abbrev pub IsNoted : Tables → Course → World → Type 0
IsNoted tables course world = AreNoted tables course.notes_dead course.cells.items course.dead world

-- only the cells are others, and whether a dead message is noted
pub record IsMoved (old new : Course) : Type 0 where
  pub met : new.met ≡ old.met
  pub notes : new.notes_dead ≡ old.notes_dead
  pub sent : new.sent ≡ old.sent

-- these nodes, to which nothing was sent
abbrev pub of_nodes : List Node → World
of_nodes nodes = record { nodes = nodes; messages = [] }

abbrev pub with_sent : World → Message → World
with_sent world message = record world { messages = world.messages ++ message ∷ [] }

abbrev pub with_all : World → List Message → World
with_all world messages = record world { messages = world.messages ++ messages }

-- messages with these numbers are for nodes that have a cell, of so many
abbrev pub AreFor : Tables → (count : ℕ) → List ℕ → Type 0
AreFor tables count numbers =
    (messages : List Message) × AreNumbers tables numbers messages
    × ((message : Message) → In message messages → message.to < count)

-- ---- one event

-- An event with this command may happen there, by this cause, at the node of this number.
pub record MayHappen (spare : ℕ) (tables : Tables) (question : Question) (course : Course) (cause : Cause)
    (number : ℕ) (world : World) (before : ℕ) (command : Command) : Type 0 where
  pub stands : StandsAt (suc spare) tables question course world before
  pub cause_is : IsCauseOf world command cause
  pub number_is : touched_node world command ≡ number
  pub of_set : IsOfSet question command

-- it happened
pub record Happened (spare : ℕ) (tables : Tables) (question : Question) (old new : Course) (world : World)
    (before : ℕ) (command : Command) : Type 0 where
  pub stands : StandsAt spare tables question new (step world (event_of command)).world before
  pub leaves :
      LeavesAfter world (event_of command) (left_after question old.met) (left_after question new.met)

-- From wherever the course may stand, an event of this cause leads where it stands then.
abbrev pub GoesBy : (old_tables new_tables : Tables) → Question → (old new : Course) → Cause → ℕ → Type 0
GoesBy old_tables new_tables question old new cause number =
    (spare before : ℕ) (world : World) (command : Command)
    → MayHappen spare old_tables question old cause number world before command
    → Happened spare new_tables question old new world before command

-- ---- a line

-- A line of an act: it is done where the course may stand, or it isn't and the course stays.
pub record IsGone (spare : ℕ) (old_tables new_tables : Tables) (question : Question) (old new : Course)
    (done : Bool) (world : World) (before : ℕ) (command : Command) : Type 0 where
  pub done_is : done ≡ is_done before world command
  pub went : done ≡ true → Happened spare new_tables question old new world before command
  pub stayed : done ≡ false → StandsAt (suc spare) new_tables question new world before × (new.met ≡ old.met)

abbrev pub GoesOver : (old_tables new_tables : Tables) → Question
    → (old new : Course) → (done : Bool) → Command → Type 0
GoesOver old_tables new_tables question old new done command =
    (spare before : ℕ) (world : World) → StandsAt (suc spare) old_tables question old world before
    → IsGone spare old_tables new_tables question old new done world before command

-- ---- lines, one after another

-- Events lead from a world to where the course stands.
pub record HasLed (spare : ℕ) (tables : Tables) (question : Question) (old new : Course) (world : World)
    (before : ℕ) (events : List Event) : Type 0 where
  pub stands : StandsAt spare tables question new (world_after world events) before
  pub leaves : Leaves world events (left_after question old.met) (left_after question new.met)

-- From wherever the course may stand, lines lead where it stands then.
abbrev pub GoesAlong : (old_tables new_tables : Tables) → Question
    → (old new : Course) → List Command → Type 0
GoesAlong old_tables new_tables question old new lines =
    (spare before : ℕ) (world : World)
    → StandsAt (length lines + spare) old_tables question old world before
    → HasLed spare new_tables question old new world before (lines_done before world lines)

-- ---- an act

-- an act that begins so begins with the message of this number, where it begins with any
abbrev pub BeginsWith : Tables → First → World → Option ℕ → Type 0
BeginsWith tables Nothing world message = message ≡ None
BeginsWith tables (Live number) world message =
    (place : ℕ) × (sent : Message) × (message ≡ Some place) × (slice_get world.messages place ≡ Some sent)
    × (slice_get tables.messages number ≡ Some sent)
BeginsWith tables Dead world message =
    (place : ℕ) × (sent : Message) × (message ≡ Some place) × (slice_get world.messages place ≡ Some sent)
    × (is_dead_in world sent ≡ true)

-- the delivery with which an act begins, where it begins with one
abbrev pub first_events : Option ℕ → List Event
first_events None = []
first_events (Some message) = event_of (Deliver message) ∷ []

abbrev pub GoesFirst : (old_tables new_tables : Tables) → Question → (old new : Course) → First → Type 0
GoesFirst old_tables new_tables question old new first =
    (spare : ℕ) (world : World) (message : Option ℕ)
    → StandsAt (suc spare) old_tables question old world (length world.messages)
    → BeginsWith old_tables first world message
    → HasLed spare new_tables question old new world (length world.messages) (first_events message)

-- An act may be done there.
pub record MayBegin (spare : ℕ) (tables : Tables) (question : Question) (course : Course) (first : First)
    (act : Act) (world : World) (message : Option ℕ) : Type 0 where
  pub stands :
      StandsAt (suc (length act.commands) + spare) tables question course world (length world.messages)
  pub first_is : BeginsWith tables first world message

-- it was done
abbrev pub WasDone : (spare : ℕ) → Tables → Question → (old new : Course) → Act → World → Option ℕ → Type 0
WasDone spare tables question old new act world message =
    HasLed spare tables question old new world (length world.messages) (act_done world act message)

-- From wherever the course may stand, the act leads where it stands then.
abbrev pub Goes : (old_tables new_tables : Tables) → Question → (old new : Course) → First → Act → Type 0
Goes old_tables new_tables question old new first act =
    (spare : ℕ) (world : World) (message : Option ℕ)
    → MayBegin spare old_tables question old first act world message
    → WasDone spare new_tables question old new act world message
