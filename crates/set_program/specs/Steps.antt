-- The replies to the lines of a script.
use Rattle.std.specs.Prelude.{ℕ, ◌≡◌, ◌++◌, List, map}
use Rattle.set_model.specs.declared.command.Command.{Command}
use Rattle.set_model.specs.declared.command.Event.{Event}
use Rattle.set_model.specs.declared.reply.Reply.{Reply}
use Rattle.set_model.specs.Run.{Sizes, run}
use Rattle.set_model.specs.World.{step}

-- the line that an event is of, and its command
abbrev pub line_of : Event → ℕ × Command
line_of event = (event.line, event.command)

-- the reply to an event after these events
abbrev pub reply_to : Sizes → List Event → Event → Reply
reply_to sizes history event = (step (run sizes history).world event).reply

-- the replies to the first events continue like this
pub record GoesOn (sizes : Sizes) (old new : List Event) (replies : List (ℕ × Reply)) : Type 0 where
  pub longer : (run sizes new).replies ≡ (run sizes old).replies ++ replies

-- events of these lines come after the first ones
pub record Adds (lines : List (ℕ × Command)) (old new : List Event) : Type 0 where
  pub added : List Event
  pub events : new ≡ old ++ added
  pub lines_are : map line_of added ≡ lines
