-- What opening a set and each of its steps do to its disks.
use Rattle.std.specs.Prelude.{◌≡◌, ◌⊎◌, ◌<◌, ◌≤◌, ◌+◌, ◌*◌, ◌++◌, ◌∷◌, [], ℕ, IsTrue, List, Option, None, Some, Result, Ok, Err, length, drop, slice_get, slice_set}
use Rattle.rs_io.specs.Fault.{CountRose}
use Rattle.rs_disk.specs.State.{State}
use Rattle.record_file.specs.declared.error.FileError.{FileError}
use Rattle.record_file.specs.declared.error.FileError.TheVariants.{Memory}
use Rattle.member_config.specs.declared.config.Config.{Config}
use Rattle.set_model.specs.declared.command.Command.{Command}
use Rattle.set_model.specs.declared.command.Event.{Event}
use Rattle.set_model.specs.declared.reply.Reply.{Reply}
use Rattle.set_model.specs.Node.{Node}
use Rattle.set_model.specs.Run.{run}
use Rattle.set_model.specs.Stores.{Plan}
use Rattle.set_model.specs.World.{Task, World, acts, takes, nothing, event_plan, step, task, touched_node}
use Rattle.node_core.specs.Acting.{DidToDisks, DisksLeft, RunsWithoutOrders}
use Rattle.node_core.specs.Nodes.{HasFailed}
use Rattle.node_core.specs.Opening.{OpensInTurn, unopened_node}
use Rattle.node_core.specs.Stands.{Stands}
use Rattle.set_world.specs.World.{Set}

-- ---- the two disks of one node

-- Of all disks only the two of this node changed, and in this way.
pub record OneChanged {D : Type 0} (state : D → State) (Changed : State → State → State → State → Type 0)
    (number : ℕ) (old new : List D) : Type 0 where
  pub journal : D
  pub journal' : D
  pub checkpoints : D
  pub checkpoints' : D
  pub journal_at : slice_get old (2 * number) ≡ Some journal
  pub checkpoints_at : slice_get old (2 * number + 1) ≡ Some checkpoints
  pub disks : new ≡ slice_set (slice_set old (2 * number) journal') (2 * number + 1) checkpoints'
  pub changed : Changed (state journal) (state journal') (state checkpoints) (state checkpoints')

-- What an event does with this task, by the node that it touches. Where no such message was sent, no node is
-- touched: then no store fails, and the list is as it was.
abbrev pub AtTouchedNode : {A : Type 0} → Task → Option ℕ → List A → List A → (ℕ → Type 0) → Type 0
AtTouchedNode (acts number) failed old new At = At number
AtTouchedNode (takes message) failed old new At = At message.to
AtTouchedNode nothing failed old new At = (failed ≡ None) × (new ≡ old)

-- the two disks of the node of this number have what the node is
pub record StandsAtNumber {D : Type 0} (state : D → State) (number : ℕ) (node : Node)
    (disks : List D) : Type 0 where
  pub journal : D
  pub checkpoints : D
  pub journal_at : slice_get disks (2 * number) ≡ Some journal
  pub checkpoints_at : slice_get disks (2 * number + 1) ≡ Some checkpoints
  pub stands : Stands node (state journal) (state checkpoints)

-- the disks of each node have what it is in the last world
abbrev pub AllStand : {D : Type 0} → (D → State) → Set D → Type 0
AllStand state set =
    (number : ℕ) (node : Node) → slice_get (run set.sizes set.history).world.nodes number ≡ Some node
    → StandsAtNumber state number node set.disks

-- ---- a step

-- What an event did to the two disks of the node that it touches, by its plan and its reply.
pub record DisksTouched (world : World) (event : Event) (j j' c c' : State) : Type 0 where
  pub node : Node
  pub plan : Plan
  pub node_is : slice_get world.nodes (touched_node world event.command) ≡ Some node
  pub plan_is : event_plan world event ≡ Some plan
  pub did : DidToDisks node plan event.command (step world event).reply event.failed event.kept j j' c c'

-- An event changes the two disks of the node that it touches, and no others. One without a node changes none.
abbrev pub DisksStep : {D : Type 0} → (D → State) → World → Event → List D → List D → Type 0
DisksStep state world event old new =
    AtTouchedNode (task world event.command) event.failed old new
    (λ number. OneChanged state (DisksTouched world event) number old new)

-- The history has one more event, of this line and command. Its reply is the model's, and the disks are as it
-- leaves them.
pub record IsStep {D : Type 0} (state : D → State) (old new : Set D) (line : ℕ) (command : Command)
    (reply : Reply) : Type 0 where
  pub event : Event
  pub line_is : event.line ≡ line
  pub command_is : event.command ≡ command
  pub history : new.history ≡ old.history ++ event ∷ []
  pub reply_is : reply ≡ (step (run old.sizes old.history).world event).reply
  pub disks : DisksStep state (run old.sizes old.history).world event old.disks new.disks

-- A command that wasn't done used at most the disks of the node that it would have touched, and left them as
-- such a command does.
abbrev pub DisksUndone : {D : Type 0} → (D → State) → World → Command → List D → List D → Type 0
DisksUndone state world command old new =
    (new ≡ old)
    ⊎ AtTouchedNode (task world command) None old new
    (λ number. OneChanged state (DisksLeft command) number old new)

-- Nothing was done: memory ran out, or the history is full.
pub record NothingDone {D : Type 0} (state : D → State) (old new : Set D) (command : Command) : Type 0 where
  pub history : new.history ≡ old.history
  pub disks : DisksUndone state (run old.sizes old.history).world command old.disks new.disks

-- ---- two disks on which a node is opened

-- The first two disks of a list became these by an opening that ended this way, and the rest stays.
pub record TwoDisksRan {D : Type 0} (state : D → State) (ended : Result (Unit {0}) FileError) (old : List D)
    (journal' checkpoints' : D) (rest : List D) : Type 0 where
  pub journal : D
  pub checkpoints : D
  pub first : old ≡ journal ∷ checkpoints ∷ rest
  pub calls : OpensInTurn ended (state journal) (state journal') (state checkpoints) (state checkpoints')
  pub runs : RunsWithoutOrders (HasFailed ended) (state journal) (state journal') (state checkpoints)
      (state checkpoints')

-- They are in their places again, and this node is on them.
pub record TwoDisksReturned {D : Type 0} (state : D → State) (node : Node)
    (ended : Result (Unit {0}) FileError) (old new : List D) : Type 0 where
  pub journal' : D
  pub checkpoints' : D
  pub rest : List D
  pub back : new ≡ journal' ∷ checkpoints' ∷ rest
  pub two : TwoDisksRan state ended old journal' checkpoints' rest
  pub stands : Stands node (state journal') (state checkpoints')

-- ---- the opening of a set

-- a disk that was used: it was given no order
pub record WasUsed (old new : State) : Type 0 where
  pub faults : old.faults ≤ new.faults
  pub steady : IsTrue old.is_steady → IsTrue new.is_steady
  pub armed : IsTrue new.is_armed → IsTrue old.is_armed
  pub orders : new.orders ≡ old.orders

-- the disks of each of these nodes have what it is at the opening of a set with this configuration, except
-- that its journal may lack the record of its form
abbrev pub AllBegin : {D : Type 0} → (D → State) → Config → ℕ → List D → Type 0
AllBegin state config count disks =
    (number : ℕ) → number < count → StandsAtNumber state number (unopened_node config number) disks

-- the count of one of the first disks rose
abbrev pub OneFaultCounted : {D : Type 0} → (D → State) → ℕ → List D → List D → Type 0
OneFaultCounted {D} state first old new =
    (place : ℕ) × (before : D) × (after : D) × (place < first) × (slice_get old place ≡ Some before)
    × (slice_get new place ≡ Some after)
    × CountRose (state before).faults (state after).faults

-- the two disks of the node with this number, before and after its opening, which ended this way
pub record OpenedAt {D : Type 0} (state : D → State) (ended : Result (Unit {0}) FileError) (number : ℕ)
    (old new : List D) : Type 0 where
  pub journal : D
  pub journal' : D
  pub checkpoints : D
  pub checkpoints' : D
  pub journal_was : slice_get old (2 * number) ≡ Some journal
  pub journal_is : slice_get new (2 * number) ≡ Some journal'
  pub checkpoints_was : slice_get old (2 * number + 1) ≡ Some checkpoints
  pub checkpoints_is : slice_get new (2 * number + 1) ≡ Some checkpoints'
  pub calls : OpensInTurn ended (state journal) (state journal') (state checkpoints) (state checkpoints')

-- all nodes below this number were opened
abbrev pub AllOpened : {D : Type 0} → (D → State) → ℕ → List D → List D → Type 0
AllOpened state count old new = (number : ℕ) → number < count → OpenedAt state (Ok tt) number old new

-- The nodes were opened in order of number. If that ended in an error, memory ran out before the first
-- opening, or all nodes below one were opened, and the error came at that one: the disks after its own are as
-- they were.
abbrev pub OpenedInTurn : {D : Type 0} → (D → State) → ℕ → Result (Unit {0}) FileError → List D → List D
    → Type 0
OpenedInTurn state nodes (Ok done) old new = AllOpened state nodes old new
OpenedInTurn state nodes (Err error) old new =
    ((error ≡ Memory) × (new ≡ old))
    ⊎ ((opened : ℕ) × (opened < nodes) × AllOpened state opened old new
    × OpenedAt state (Err error) opened old new
    × (drop (2 * (opened + 1)) new ≡ drop (2 * (opened + 1)) old))

-- Nodes were opened on the first disks, two for each, and the others stay. A fault comes only where one of
-- the first ones failed, and where these are steady only if one of them was armed.
pub record Opens {D : Type 0} (state : D → State) (nodes : ℕ) (ended : Result (Unit {0}) FileError)
    (old new : List D) : Type 0 where
  pub count : length new ≡ length old
  pub idle : drop (2 * nodes) new ≡ drop (2 * nodes) old
  pub in_turn : OpenedInTurn state nodes ended old new
  pub each :
      (place : ℕ) (before after : D) → slice_get old place ≡ Some before → slice_get new place ≡ Some after
      → WasUsed (state before) (state after)
  pub cause : HasFailed ended → OneFaultCounted state (2 * nodes) old new
  pub only_armed : HasFailed ended
      → ((place : ℕ) (disk : D) → place < 2 * nodes → slice_get old place ≡ Some disk
      → IsTrue (state disk).is_steady)
      → (place : ℕ) × (disk : D) × (place < 2 * nodes) × (slice_get old place ≡ Some disk)
      × IsTrue (state disk).is_armed
