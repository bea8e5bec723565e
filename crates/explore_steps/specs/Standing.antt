-- Which cells and nodes a search comes to, and what may be done there.
use Rattle.std.specs.Prelude.{◌≡◌, ℕ, true, List, Some, slice_get}
use Rattle.rs_optime.specs.Membership.{In}
use Rattle.repl_msg.specs.declared.message.Message.{Message}
use Rattle.checker_node.specs.Sound.{IsSound}
use Rattle.set_model.specs.Node.{Node}
use Rattle.set_model.specs.Taking.{CanTake}
use Rattle.set_model.specs.World.{World}
use Rattle.explore_words.specs.declared.question.Question.{Question}
use Rattle.explore_steps.specs.Reaching.{IsReachedBefore}
use Rattle.explore_steps.specs.Tables.{AreOf, StandsFor, Tables}

-- a cell stands for a node of a world that a search comes to
abbrev pub IsCome : Tables → Question → ℕ → Type 0
IsCome tables question cell =
    (world : World) × (number : ℕ) × IsReachedBefore 0 question world × StandsFor tables cell world number

-- so it does, and there the message of this number was sent to its node
pub record IsHanded (tables : Tables) (question : Question) (message cell : ℕ) (sent : Message) : Type 0 where
  pub world : World
  pub reached : IsReachedBefore 0 question world
  pub message_is : slice_get tables.messages message ≡ Some sent
  pub there : In sent world.messages
  pub stands : StandsFor tables cell world sent.to

-- cells stand for such a world
abbrev pub AreCome : Tables → Question → List ℕ → Type 0
AreCome tables question cells = (world : World) × IsReachedBefore 0 question world × AreOf tables cells world

-- ---- what nodes can do

-- the node of this number is sound
abbrev pub IsSoundAt : Tables → ℕ → Type 0
IsSoundAt tables number = (node : Node) × (slice_get tables.nodes number ≡ Some node) × IsSound node

-- it can take the message of this number
pub record CanTakeAt (tables : Tables) (number message : ℕ) : Type 0 where
  pub node : Node
  pub sent : Message
  pub node_is : slice_get tables.nodes number ≡ Some node
  pub message_is : slice_get tables.messages message ≡ Some sent
  pub can : node.up ≡ true → CanTake node sent
