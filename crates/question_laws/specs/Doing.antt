-- What an act of a question comes to. No store fails, and nothing is in doubt.
use Rattle.std.specs.Prelude.{ℕ, Bool, true, false, List, [], ◌∷◌, fold, drop, length, Option, None, Some, if◌then◌else◌}
use Rattle.std.specs.List.{list_any}
use Rattle.set_model.specs.declared.command.Command.{Command}
use Rattle.set_model.specs.declared.command.Command.TheVariants.{Deliver, DeliverLatest}
use Rattle.set_model.specs.declared.command.Event.{Event}
use Rattle.set_model.specs.World.{World, is_between, step}
use Rattle.explore_words.specs.declared.question.Act.{Act}

-- the event of a command
abbrev pub event_of : Command → Event
event_of command = record { command = command; line = 0; failed = None; kept = false }

abbrev pub world_after : World → List Event → World
world_after world events = fold (λ w event. (step w event).world) world events

-- A line is done. One that delivers the newest message between two nodes is, where one was sent in this act:
-- after so many.
abbrev pub is_done : ℕ → World → Command → Bool
is_done before world (DeliverLatest from to) = list_any (is_between from to) (drop before world.messages)
is_done before world _ = true

-- the events of some lines, up to the first that isn't done
abbrev pub lines_done : ℕ → World → List Command → List Event
lines_done before world [] = []
lines_done before world (command ∷ commands) =
    if is_done before world command
    then event_of command ∷ lines_done before (step world (event_of command)).world commands
    else []

-- an act, which begins with the delivery of a message where there is one
abbrev pub lines_of : Act → Option ℕ → List Command
lines_of act None = act.commands
lines_of act (Some message) = Deliver message ∷ act.commands

abbrev pub act_done : World → Act → Option ℕ → List Event
act_done world act message = lines_done (length world.messages) world (lines_of act message)
