-- The worlds of runs, and the events that a trace may have in them.
use Rattle.std.specs.Prelude.{◌≡◌, ◌<◌, ◌-◌, ◌^◌, ℕ, true, Contains, List, IfSome, Some, length, slice_get}
use Rattle.repl_msg.specs.declared.message.Message.{Message}
use Rattle.set_model.specs.declared.command.Event.{Event}
use Rattle.set_model.specs.Limits.{IsRun, IsSoundWrite, is_for, write_of}
use Rattle.set_model.specs.Node.{Node}
use Rattle.set_model.specs.Run.{AreSizes, Sizes, run}
use Rattle.set_model.specs.Taking.{CanTake}
use Rattle.set_model.specs.World.{World}
use Rattle.checker_node.specs.Sound.{IsSound}

-- a run leads to this world, of few enough events that no number overflows its type
pub record IsReached (world : World) : Type 0 where
  pub sizes : Sizes
  pub events : List Event
  pub are_sizes : AreSizes sizes
  pub is_run : IsRun sizes events
  pub few : length events < 2 ^ 32 - 1
  pub is : world ≡ (run sizes events).world

-- each node is sound
abbrev pub AreSound : World → Type 0
AreSound world = (number : ℕ) (node : Node) → slice_get world.nodes number ≡ Some node → IsSound node

-- Each message that was sent is for a node of the set, which can take it where it is up.
abbrev pub CanBeTaken : World → Type 0
CanBeTaken world = (message : Message) → Contains world.messages message
    → (message.to < length world.nodes)
    × ((node : Node) → slice_get world.nodes message.to ≡ Some node → node.up ≡ true → CanTake node message)

-- the event's command is one of the set
pub record IsReadable (world : World) (event : Event) : Type 0 where
  pub command : is_for (length world.nodes) event.command ≡ true
  pub documents : IfSome (write_of event.command) IsSoundWrite
