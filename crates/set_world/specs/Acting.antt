-- What a command did to the node that it is for, and to its disks.
use Rattle.std.specs.Prelude.{◌≡◌, ◌<◌, ◌≤◌, ℕ, true, Contains, List, Some, length, slice_get, slice_set}
use Rattle.repl_msg.specs.declared.message.Message.{Message}
use Rattle.rs_disk.specs.State.{State}
use Rattle.set_model.specs.declared.command.Command.{Command}
use Rattle.set_model.specs.Deliver.{deliver}
use Rattle.set_model.specs.Node.{Node}
use Rattle.set_model.specs.Rows.{row}
use Rattle.set_model.specs.Taking.{CanTake}
use Rattle.node_state.specs.Bounds.{IsBounded, IsNumbered}
use Rattle.node_core.specs.declared.done.Done.{Done}
use Rattle.node_core.specs.Acting.{Acted, Took, Unchanged}
use Rattle.node_core.specs.Stands.{Stands}
use Rattle.set_world.specs.Pool.{Pool}
use Rattle.set_world.specs.World.{nodes_in}

-- the item at this place changed so, and nothing else in the list did
pub record ChangesAt {A : Type 0} (number : ℕ) (So : A → A → Type 0) (old new : List A) : Type 0 where
  pub before : A
  pub after : A
  pub there : slice_get old number ≡ Some before
  pub list : new ≡ slice_set old number after
  pub so : So before after

-- the two disks of a node changed in this way
abbrev pub NodeDisks : {D : Type 0} → (D → State) → (State → State → State → State → Type 0) → Node × D × D
    → Node × D × D → Type 0
NodeDisks state Changed old new = Changed (state old.1) (state new.1) (state old.2) (state new.2)

-- a node of a set of this size did a command
abbrev pub NodeActed : {D : Type 0} → (D → State) → ℕ → ℕ → Command → Done → Node × D × D
    → Node × D × D → Type 0
NodeActed state size next command done old new =
    Acted (row size next done.kept old.0 command) command old.0 new.0 (state old.1) (state new.1)
    (state old.2) (state new.2) done

-- a node took a message
abbrev pub NodeTook : {D : Type 0} → (D → State) → ℕ → Message → Done → Node × D × D → Node × D × D → Type 0
NodeTook state next message done old new =
    Took (deliver next old.0 message) new.0 (state old.1) (state new.1) (state old.2) (state new.2) done

-- a node is as it was, and its disks are as a command that wasn't done leaves them
abbrev pub NodeUnchanged : {D : Type 0} → (D → State) → (State → State → State → State → Type 0)
    → Node × D × D → Node × D × D → Type 0
NodeUnchanged state Disks old new =
    Unchanged Disks old.0 new.0 (state old.1) (state new.1) (state old.2) (state new.2)

-- its disks have what the node is
abbrev pub NodeStands : {D : Type 0} → (D → State) → Node × D × D → Type 0
NodeStands state node = Stands node.0 (state node.1) (state node.2)

-- so it is for each of these nodes
abbrev pub EachNodeStands : {D : Type 0} → (D → State) → List (Node × D × D) → Type 0
EachNodeStands {D} state nodes =
    (number : ℕ) (node : Node × D × D) → slice_get nodes number ≡ Some node → NodeStands state node

-- every command can be done: the nodes and the messages are within their bounds, and each message can be
-- taken by its receiver
pub record MayAct {D : Type 0} (nodes : List (Node × D × D)) (pool : Pool) : Type 0 where
  pub size : pool.nodes ≡ length nodes
  pub some : 1 ≤ length nodes
  pub few : length nodes ≤ 50
  pub bounds : (number : ℕ) (node : Node) → slice_get (nodes_in nodes) number ≡ Some node → IsBounded node
  pub next : IsNumbered (length pool.messages)
  pub messages : (message : Message) (node : Node) → Contains pool.messages message
      → slice_get (nodes_in nodes) message.to ≡ Some node → node.up ≡ true → CanTake node message
  pub between : (message : Message) → Contains pool.messages message → message.to < length nodes
