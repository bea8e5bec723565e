-- What the tables of a search hold, and for which worlds its cells stand.
use Rattle.std.specs.Prelude.{◌≡◌, ℕ, Bool, true, false, List, Some, map, length, slice_get, drop}
use Rattle.rs_optime.specs.Membership.{In}
use Rattle.repl_msg.specs.declared.message.Message.{Message}
use Rattle.set_model.specs.Node.{Node}
use Rattle.set_model.specs.World.{World}
use Rattle.explore_laws.specs.Alike.{AlikeNodes}
use Rattle.explore_laws.specs.Dead.{has_dead, is_dead}
use Rattle.explore_steps.specs.declared.deed.Deed.{Deed}
use Rattle.explore_steps.specs.declared.deed.Step.{Step}
use Rattle.explore_steps.specs.declared.steps.Steps.{Steps}

pub record Tables : Type 0 where
  pub nodes : List Node
  pub messages : List Message
  pub lists : List (List ℕ)
  -- the number of a node, and that of a list of messages
  pub cells : List (ℕ × ℕ)
  -- what events do at nodes
  pub deeds : List Deed
  -- and in cells
  pub steps : List Step

abbrev pub tables_of : Steps → Tables
tables_of steps =
    record {
      nodes = steps.nodes;
      messages = steps.messages;
      lists = steps.lists;
      cells = steps.cells;
      deeds = steps.deeds.items;
      steps = steps.steps.items;
    }

-- what has a number keeps it
abbrev pub AreNumbered : {A : Type 0} → List A → List A → Type 0
AreNumbered {A} old new =
    (number : ℕ) (value : A) → slice_get old number ≡ Some value → slice_get new number ≡ Some value

-- Tables only grow, so numbers keep their meaning.
pub record Grow (old new : Tables) : Type 0 where
  pub nodes : AreNumbered old.nodes new.nodes
  pub messages : AreNumbered old.messages new.messages
  pub lists : AreNumbered old.lists new.lists
  pub cells : AreNumbered old.cells new.cells
  pub deeds : AreNumbered old.deeds new.deeds
  pub steps : AreNumbered old.steps new.steps

-- ---- cells

-- these numbers are those of messages, one by one
abbrev pub AreNumbers : Tables → List ℕ → List Message → Type 0
AreNumbers tables numbers messages = map (slice_get tables.messages) numbers ≡ map Some messages

-- a cell is this node, with these messages
pub record IsCell (tables : Tables) (cell : ℕ) (node : Node) (messages : List Message) : Type 0 where
  pub node_at : ℕ
  pub list_at : ℕ
  pub numbers : List ℕ
  pub cell_is : slice_get tables.cells cell ≡ Some (node_at, list_at)
  pub node_is : slice_get tables.nodes node_at ≡ Some node
  pub list_is : slice_get tables.lists list_at ≡ Some numbers
  pub messages_are : AreNumbers tables numbers messages

abbrev pub HasCell : Tables → ℕ → Type 0
HasCell tables cell = (node : Node) × (messages : List Message) × IsCell tables cell node messages

-- it stands for a node of a world, with the messages to it that aren't dead
pub record StandsFor (tables : Tables) (cell : ℕ) (world : World) (number : ℕ) : Type 0 where
  pub own : Node
  pub node : Node
  pub messages : List Message
  pub there : slice_get world.nodes number ≡ Some own
  pub is_cell : IsCell tables cell node messages
  pub alike : AlikeNodes own node
  pub live :
      (message : Message) → In message world.messages → message.to ≡ number → is_dead own message ≡ false
      → In message messages
  pub sent :
      (message : Message) → In message messages
      → In message world.messages × (message.to ≡ number) × (is_dead own message ≡ false)

-- the cells stand for the nodes of a world, one by one
pub record AreOf (tables : Tables) (cells : List ℕ) (world : World) : Type 0 where
  pub count : length cells ≡ length world.nodes
  pub each : (number cell : ℕ) → slice_get cells number ≡ Some cell → StandsFor tables cell world number

-- The cells stand for a world. Where it is noted that a message is dead, `dead` says whether one is.
pub record AreNoted (tables : Tables) (notes : Bool) (cells : List ℕ) (dead : Bool)
    (world : World) : Type 0 where
  pub cells_are : AreOf tables cells world
  pub noted : notes ≡ true → dead ≡ has_dead world
  pub unnoted : notes ≡ false → dead ≡ false

-- So they do in an act that began after so many messages. `sent` are the numbers of those that were
-- sent in it.
pub record AreUnderWay (tables : Tables) (notes : Bool) (cells sent : List ℕ) (dead : Bool) (world : World)
    (before : ℕ) : Type 0 where
  pub noted : AreNoted tables notes cells dead world
  pub sent_are : AreNumbers tables sent (drop before world.messages)
