-- What a step tells its caller, who steps the set alone or in turns with others.
use Rattle.std.specs.Prelude.{◌≡◌, ℕ, Bool, true, List, [], ◌∷◌, ◌++◌}
use Rattle.set_model.specs.declared.command.Command.{Command}
use Rattle.set_model.specs.declared.command.Event.{Event}
use Rattle.set_model.specs.declared.reply.Reply.{Reply}
use Rattle.set_model.specs.Limits.{IsRun}
use Rattle.set_model.specs.Run.{Sizes, AreSizes, run}
use Rattle.set_model.specs.World.{step}

-- the events are a defined run of a set of these sizes
pub record IsDefined (sizes : Sizes) (events : List Event) : Type 0 where
  pub sizes_are : AreSizes sizes
  pub run : IsRun sizes events

-- Events of others came after those that were known; none where no one else steps the set.
pub record Learns (alone : Bool) (old new : List Event) : Type 0 where
  pub others : List Event
  pub new_is : new ≡ old ++ others
  pub none : alone ≡ true → others ≡ []

-- One event of this line and command comes last, after those that it met. The reply is the event's.
pub record StepsOnce (alone : Bool) (sizes : Sizes) (old new : List Event) (line : ℕ) (command : Command)
    (reply : Reply) : Type 0 where
  pub met : List Event
  pub learns : Learns alone old met
  pub event : Event
  pub line_is : event.line ≡ line
  pub command_is : event.command ≡ command
  pub new_is : new ≡ met ++ event ∷ []
  pub reply_is : reply ≡ (step (run sizes met).world event).reply

-- The last event is its own, and it added no other.
pub record AddsOne (known own own' : List Event) : Type 0 where
  pub earlier : List Event
  pub event : Event
  pub known_is : known ≡ earlier ++ event ∷ []
  pub own_is : own' ≡ own ++ event ∷ []
