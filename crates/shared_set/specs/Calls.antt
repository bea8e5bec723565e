-- What a pass learns from its calls on a shared set. A turn is an event, with the number of the pass whose
-- call it was.
use Rattle.std.specs.Prelude.{◌≡◌, ◌≤◌, ◌++◌, ◌∷◌, [], ℕ, List, Result, Ok, Err, drop, length}
use Rattle.std.proofs.Common.{◌∙◌, ap, sym, append_assoc}
use mathlib.Core.List.{IsPrefix}
use Rattle.set_model.specs.declared.command.Command.{Command}
use Rattle.set_model.specs.declared.command.Event.{Event}
use Rattle.set_model.specs.declared.reply.Reply.{Reply}
use Rattle.rs_disk.specs.State.{State}
use Rattle.set_model.specs.Limits.{IsRun}
use Rattle.set_model.specs.Run.{HISTORY_LIMIT, Sizes, run}
use Rattle.set_model.specs.World.{step}
use Rattle.set_model.specs.Pointed.{pointed}
use Rattle.set_world.specs.declared.error.StepError.{StepError}
use Rattle.set_world.specs.declared.error.StepError.TheVariants.{Memory, HistoryFull}
use Rattle.set_world.specs.Disks.{IsStep}
use Rattle.set_world.specs.World.{Set}
use Rattle.turn_board.specs.declared.view.View.{View}
use Rattle.turn_board.specs.declared.view.Stage.TheVariants.{Free}
use Rattle.turn_board.specs.History.{AtMost, NoneAbove, Stand, calls_by, events, names, times}
use Rattle.turn_board.specs.Views.{at_stage, called, in_turn}

-- The history up to some turn: it begins with all that the pass had seen, it has the calls of the pass, and
-- no node's number is below one that the pass saw.
pub record Meets {F : Type 0} (sizes : Sizes) (v : View Event F) (turns : List (ℕ × Event)) : Type 0 where
  pub begins : IsPrefix v.turns turns
  pub calls : Stand turns v.calls
  pub answers : AtMost (pointed sizes (v.begun ++ events turns)) v.answers

-- the pass has seen these turns
abbrev pub saw : {F : Type 0} → View Event F → List (ℕ × Event) → View Event F
saw v turns = at_stage (in_turn v 0 turns) Free

-- The history has one event of this line and command, after the turns that it met. It is a call of the pass,
-- which has seen the history up to it. The reply is the event's in the run, and the place is the event's.
pub record Steps {F : Type 0} (sizes : Sizes) (v w : View Event F) (line : ℕ) (command : Command) (place : ℕ)
    (reply : Reply) : Type 0 where
  pub turns : List (ℕ × Event)
  pub meets : Meets sizes v turns
  pub event : Event
  pub line_is : event.line ≡ line
  pub command_is : event.command ≡ command
  pub place_is : place ≡ length (v.begun ++ events turns)
  pub reply_is : reply ≡ (step (run sizes (v.begun ++ events turns)).world event).reply
  pub pass : ℕ
  pub past : List Event
  pub others : List (ℕ × List Event)
  pub calls : v.calls ≡ (pass, past) ∷ others
  pub now : w ≡ called (saw v turns) pass event past others

-- nothing was added to the history or to the calls of the pass, which has seen more of it
pub record Waits {F : Type 0} (sizes : Sizes) (v w : View Event F) : Type 0 where
  pub turns : List (ℕ × Event)
  pub meets : Meets sizes v turns
  pub now : w ≡ saw v turns

-- the reply alone
abbrev pub reply_in : Result (ℕ × Reply) StepError → Result Reply StepError
reply_in (Ok done) = Ok done.1
reply_in (Err error) = Err error

-- the calls of the pass itself: not those of the passes that were joined into it
abbrev pub own_calls : List (ℕ × List Event) → List Event
own_calls [] = []
own_calls (first ∷ others) = first.1

-- The pass has seen more of the history and done more calls, and nothing else of it has changed.
pub record Keeps {F : Type 0} (v w : View Event F) : Type 0 where
  pub parts : w.parts ≡ v.parts
  pub numbers : names w.calls ≡ names v.calls
  pub others : drop 1 w.calls ≡ drop 1 v.calls
  pub begins : IsPrefix v.turns w.turns
  pub answers : w.answers ≡ v.answers

-- two steps in a row keep this
pub keeps_on : {F : Type 0} (one two three : View Event F) → Keeps one two → Keeps two three → Keeps one three
keeps_on one two three first second = record {
  parts = second.parts ∙ first.parts;
  numbers = second.numbers ∙ first.numbers;
  others = second.others ∙ first.others;
  begins = (
    first.begins.0 ++ second.begins.0,
    sym (append_assoc one.turns first.begins.0 second.begins.0)
        ∙ ap (λ (l : List (ℕ × Event)). l ++ second.begins.0) first.begins.1 ∙ second.begins.1,
  );
  answers = second.answers ∙ first.answers;
}

-- The number is the node's after some history that begins with all that the pass has seen, and whose run is
-- defined. The pass saw no greater number of the node before.
pub record Looks {F : Type 0} (sizes : Sizes) (v : View Event F) (node number : ℕ) : Type 0 where
  pub later : List (ℕ × Event)
  pub defined : IsRun sizes (v.begun ++ events (v.turns ++ later))
  pub number_is : number ≡ pointed sizes (v.begun ++ events (v.turns ++ later)) node
  pub least : NoneAbove node number v.answers

-- the events are those that the set began with, followed by the calls of the passes that were joined into
-- this one, each pass once, and no others
pub record Closes {F : Type 0} (sizes : Sizes) (v : View Event F) (history : List Event) : Type 0 where
  pub turns : List (ℕ × Event)
  pub history_is : history ≡ v.begun ++ events turns
  pub meets : Meets sizes v turns
  pub once : (pass : ℕ) → times pass (names v.calls) ≤ 1
  pub no_others : (pass : ℕ) → times pass (names v.calls) ≡ 0 → calls_by pass turns ≡ []

-- what a turn did to the set: one more event, at the place after the others, or none
abbrev pub Went : {D : Type 0} → (D → State) → Set D → Set D → ℕ → Command
    → Result (ℕ × Reply) StepError → Type 0
Went state old new line command (Ok (place, reply)) =
    (place ≡ length old.history) × IsStep state old new line command reply
Went state old new line command (Err Memory) = new.history ≡ old.history
Went state old new line command (Err HistoryFull) =
    (new.history ≡ old.history) × (length old.history ≡ HISTORY_LIMIT)
