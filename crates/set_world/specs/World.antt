-- The current set, the events that led to it, and its disks.
use Rattle.std.specs.Prelude.{Bool, ◌≡◌, ◌≤◌, ◌+◌, ◌*◌, ℕ, Vec, vec_len, vec_capacity, true, not, ◌||◌, List, [], ◌∷◌, ◌++◌, length, map}
use Rattle.std.specs.declared.alloc.Global.{Global}
use Rattle.set_model.specs.declared.command.Command.{Command}
use Rattle.set_model.specs.declared.command.Event.{Event}
use Rattle.set_model.specs.Limits.{IsRun, plan_reaches, settles_doubt}
use Rattle.set_model.specs.Node.{Node}
use Rattle.set_model.specs.Run.{HISTORY_LIMIT, Sizes, AreSizes, run}
use Rattle.set_model.specs.World.{World, step, event_plan}
use Rattle.repl_msg.specs.declared.message.Message.{Message}
use Rattle.node_core.specs.declared.done.Done.{Done}
use Rattle.set_world.specs.Pool.{Pool}

pub record Set (D : Type 0) : Type 0 where
  pub sizes : Sizes
  pub history : List Event
  -- the disks of the nodes, for each its journal and then its checkpoints, and then the disks without a node
  pub disks : List D
  -- the same, as the opening left them
  pub opened : List D
  -- no step has run out of memory while it used its node's disks
  pub whole : Bool

abbrev pub nodes_in : {D : Type 0} → List (Node × D × D) → List Node
nodes_in nodes = map (λ node. node.0) nodes

abbrev pub disks_in : {D : Type 0} → List (Node × D × D) → List D
disks_in [] = []
disks_in (node ∷ nodes) = node.1 ∷ node.2 ∷ disks_in nodes

-- The history is a defined run, and the nodes and messages are those of its last world.
pub record IsReached (sizes : Sizes) (history : List Event) (nodes : List Node)
    (messages : List Message) : Type 0 where
  pub sizes_are : AreSizes sizes
  pub defined : IsRun sizes history
  pub world : (run sizes history).world ≡ record { nodes = nodes; messages = messages }
  pub short : length history ≤ HISTORY_LIMIT

-- ---- one step

-- the event of a line, with what its node did
abbrev pub event_of : ℕ → Command → Done → Event
event_of line command done = record { line = line; command = command; failed = done.failed; kept = done.kept }

-- what a command did is the model's step of its event, which fits
pub record Acts (world : World) (command : Command) (nodes : List Node) (done : Done) : Type 0 where
  pub stepped : (line : ℕ) → step world (event_of line command done)
      ≡ record {
        reply = done.reply;
        world = record { nodes = nodes; messages = world.messages ++ done.sent.items };
      }
  pub reached : (line : ℕ) → plan_reaches (event_plan world (event_of line command done)) done.failed ≡ true
  pub settled : (line : ℕ) → (not done.kept || settles_doubt world (event_of line command done)) ≡ true

-- a set as it is now: its history leads there, and its pool is between its nodes
pub record IsStanding (sizes : Sizes) (history : List Event) (nodes : List Node) (pool : Pool) : Type 0 where
  pub reached : IsReached sizes history nodes pool.messages
  pub size : pool.nodes ≡ sizes.nodes

-- there is room for the two disks of each node, before those without a node
abbrev pub CanTakeBack : {D : Type 0} → ℕ → Vec D Global → Type 0
CanTakeBack nodes idle = 2 * nodes + vec_len idle ≤ vec_capacity idle
