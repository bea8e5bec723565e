-- Every message sent can be taken by its receiver.
use Rattle.std.specs.Prelude.{◌≤◌, List, length, Contains}
use Rattle.repl_msg.specs.declared.message.Message.{Message}
use Rattle.set_model.specs.declared.command.Event.{Event}
use Rattle.set_model.specs.Node.{Node}
use Rattle.set_model.specs.Run.{HISTORY_LIMIT, Sizes, run}
use Rattle.set_model.specs.Safety.{IsAt}
use Rattle.set_model.specs.Taking.{CanTake}

-- After at most 4,294,967,295 events each message sent satisfies what its receiver requires of
-- a message (`CanTake`).
abbrev pub MessagesCanBeTaken : Sizes → List Event → Type 0
MessagesCanBeTaken sizes events =
    (message : Message) (node : Node) → length events ≤ HISTORY_LIMIT
    → Contains (run sizes events).world.messages message
    → IsAt sizes events (length events) message.to node → CanTake node message
