-- All messages that were sent, with the place of the newest from one node to another.
use Rattle.std.specs.Prelude.{◌≡◌, ◌<◌, ◌≤◌, ◌&&◌, ◌++◌, ℕ, nat_eq, List, All, length, Option, None, Some, slice_get}
use Rattle.std.specs.Map.{lookup}
use Rattle.repl_msg.specs.declared.message.Message.{Message}
use Rattle.set_model.specs.World.{latest_between}

-- the messages of a set of this size, oldest first, and for how many more there is room
pub record Pool : Type 0 where
  pub nodes : ℕ
  pub messages : List Message
  pub spare : ℕ

-- the place of the newest message from one node to another, by the entries of a map
abbrev pub place_in : List ((ℕ × ℕ) × ℕ) → ℕ → ℕ → Option ℕ
place_in newest from to = lookup (λ pair. nat_eq from pair.0 && nat_eq to pair.1) newest

-- the newest message from one node to another is the one at this place; or there is none
abbrev pub IsNewest : List Message → ℕ → ℕ → Option ℕ → Type 0
IsNewest messages from to None = latest_between messages from to ≡ None
IsNewest messages from to (Some place) =
    (place < length messages) × (latest_between messages from to ≡ slice_get messages place)

-- it is between nodes of a set of this size
pub record IsBetweenNodes (nodes : ℕ) (message : Message) : Type 0 where
  pub sender : message.from < nodes
  pub receiver : message.to < nodes

-- all messages are between such nodes, and the newest from one node to another is found
pub record IsIndexed (nodes : ℕ) (messages : List Message) (newest : List ((ℕ × ℕ) × ℕ)) : Type 0 where
  pub between : All (IsBetweenNodes nodes) messages
  pub each : (from to : ℕ) → IsNewest messages from to (place_in newest from to)

-- messages that are being added: some have been, and these are left
pub record AddsSoFar (old : Pool) (sent : List Message) (now : Pool) (left : List Message) : Type 0 where
  pub nodes : now.nodes ≡ old.nodes
  pub messages : now.messages ++ left ≡ old.messages ++ sent
  pub room : length left ≤ now.spare
  pub between : All (IsBetweenNodes old.nodes) left
