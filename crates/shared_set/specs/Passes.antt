-- What contracts see of a shared set and its passes.
use Rattle.std.specs.Prelude.{ℕ, List}
use Rattle.set_model.specs.declared.command.Command.{Command}
use Rattle.set_model.specs.declared.command.Event.{Event}
use Rattle.set_model.specs.Run.{Sizes}
use Rattle.set_world.specs.World.{Set}
use Rattle.turn_board.specs.declared.view.View.{View}
use Rattle.turn_board.specs.Known.{Known}
use Rattle.turn_board.specs.Passes.{began_with, IsPassOf}
use Rattle.shared_set.specs.declared.attempt.Attempt.{Attempt}
use Rattle.shared_set.specs.declared.shared.SharedSet.{SharedSet}
use Rattle.shared_set.specs.Attempts.{done_calls, done_turns, undone_calls}
use Rattle.shared_set.specs.Sets.{attempts_kept, first_of, history_in}

module _ {D : Type 0} where
  -- the set that it was made of
  abbrev pub begun_as : SharedSet D → Set D
  begun_as shared = (began_with shared.board).begun

  abbrev pub sizes_of : SharedSet D → Sizes
  sizes_of shared = (begun_as shared).sizes

  abbrev pub IsPass : SharedSet D → Known Attempt (Set D) → Type 0
  IsPass shared pass = IsPassOf attempts_kept first_of shared.board pass

  -- the events among the turns
  abbrev pub heard : View Attempt (Set D) → View Event (Set D)
  heard v = record {
    parts = v.parts;
    stage = v.stage;
    fixed = v.fixed;
    begun = history_in v.fixed;
    turns = done_turns v.turns;
    told = done_turns v.told;
    calls = done_calls v.calls;
    answers = v.answers;
  }

  -- what a pass has seen of the history, and its calls
  abbrev pub view : Known Attempt (Set D) → View Event (Set D)
  view pass = heard pass.view

  -- the lines that a pass tried without success, and those of each pass that was joined into it
  abbrev pub undone : Known Attempt (Set D) → List (List (ℕ × Command))
  undone pass = undone_calls pass.view.calls
