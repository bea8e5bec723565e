-- What is kept of what was computed once.
use Rattle.std.specs.Prelude.{◌≡◌, ◌==◌, ℕ, List, [], Some, length, slice_get}
use Rattle.rs_optime.specs.Membership.{In}
use Rattle.repl_msg.specs.declared.message.Message.{Message}
use Rattle.set_model.specs.declared.command.Command.{Command}
use Rattle.set_model.specs.Node.{Node}
use Rattle.explore_laws.specs.Alike.{AlikeNodes}
use Rattle.explore_words.specs.declared.question.Act.{Act}
use Rattle.explore_words.specs.declared.question.Look.{Look}
use Rattle.explore_words.specs.declared.question.Question.{Question}
use Rattle.explore_words.specs.declared.question.Want.TheVariants.{Seen}
use Rattle.explore_tables.specs.declared.kept.KeptNumber.{KeptNumber}
use Rattle.explore_steps.specs.declared.deed.Deed.{Deed}
use Rattle.explore_steps.specs.declared.deed.Step.{Step}
use Rattle.explore_steps.specs.declared.steps.Steps.{Steps}
use Rattle.explore_steps.specs.Causes.{Cause, is_met_at, own, taken}
use Rattle.explore_steps.specs.Stepping.{IsAddition, IsDeed, IsMove, IsStepOf}
use Rattle.explore_steps.specs.Tables.{AreNumbers, Grow, IsCell, Tables, tables_of}

-- the line of an act
abbrev pub IsLine : Question → (act line : ℕ) → Command → Type 0
IsLine question act line command =
    (of : Act) × (slice_get question.acts act ≡ Some of) × (slice_get of.commands line ≡ Some command)

-- the looks of a want, and one of them
abbrev pub HasLooks : Question → ℕ → List Look → Type 0
HasLooks question want looks = slice_get question.wants want ≡ Some (Seen looks)

abbrev pub IsLook : Question → (want place : ℕ) → Look → Type 0
IsLook question want place look =
    (looks : List Look) × HasLooks question want looks × (slice_get looks place ≡ Some look)

-- a deed of this number, by this cause, at the node of this number
pub record HasDeed (tables : Tables) (question : Question) (cause : Cause) (node number : ℕ) : Type 0 where
  pub deed : Deed
  pub at : Node
  pub deed_is : slice_get tables.deeds number ≡ Some deed
  pub node_is : slice_get tables.nodes node ≡ Some at
  pub does : IsDeed tables question cause at deed

-- a deed of this number: what comes of the node, what is sent, and which wants are met
pub record IsPlaced (tables : Tables) (node : Node) (sent : List Message) (meets : List ℕ)
    (number : ℕ) : Type 0 where
  pub deed : Deed
  pub after : Node
  pub deed_is : slice_get tables.deeds number ≡ Some deed
  pub node_is : slice_get tables.nodes deed.node ≡ Some after
  pub alike : AlikeNodes node after
  pub sent_are : AreNumbers tables deed.sent.items sent
  pub meets_are : deed.meets.items ≡ meets

-- what came of a node, by the number of a deed
abbrev pub HasAfter : Tables → ℕ → Type 0
HasAfter tables number =
    (deed : Deed) × (after : Node) × (slice_get tables.deeds number ≡ Some deed)
    × (slice_get tables.nodes deed.node ≡ Some after)

-- what a deed of its node comes to in a cell
abbrev pub ComesTo : (old new : Tables) → (cell deed number : ℕ) → Type 0
ComesTo old new cell number step_at =
    (deed : Deed) (node after : Node) (messages : List Message) → slice_get old.deeds number ≡ Some deed
    → slice_get old.nodes deed.node ≡ Some after → IsCell old cell node messages
    → (step : Step) × (slice_get new.steps step_at ≡ Some step) × (step.deed ≡ number)
    × IsMove new cell node after messages step

-- nothing is kept in any of these tables
abbrev pub AreEmpty : List (List KeptNumber) → Type 0
AreEmpty tables = (kept : List KeptNumber) → In kept tables → kept ≡ []

-- a number is kept for a pair in the table of this place
abbrev pub IsKeptIn : List (List KeptNumber) → (place one two number : ℕ) → Type 0
IsKeptIn kept place one two number =
    (entries : List KeptNumber) × (slice_get kept place ≡ Some entries)
    × In (record { one = one; two = two; number = number }) entries

-- what cells become by a message more
abbrev pub AreAdded : Steps → Type 0
AreAdded steps =
    (cell message new : ℕ) → In (record { one = cell; two = message; number = new }) steps.additions
    → (added : Message) × (slice_get steps.messages message ≡ Some added)
    × IsAddition (tables_of steps) cell added new

-- What is kept is what was computed.
pub record AreKept (question : Question) (steps : Steps) : Type 0 where
  pub size : steps.size ≡ question.sizes.nodes
  pub acts_at : length steps.lines_at.items ≡ length question.acts
  pub acts_in : length steps.lines_in.items ≡ length question.acts
  pub wants : length steps.sights.items ≡ length question.wants
  pub lines_at :
      (act node line number : ℕ) → IsKeptIn steps.lines_at.items act node line number
      → (command : Command) × IsLine question act line command
      × HasDeed (tables_of steps) question (own command) node number
  pub lines_in :
      (act cell line number : ℕ) → IsKeptIn steps.lines_in.items act cell line number
      → (command : Command) × IsLine question act line command
      × IsStepOf (tables_of steps) question (own command) cell number
  pub messages_at :
      (node message number : ℕ) → In (record { one = node; two = message; number = number }) steps.messages_at
      → (taken_is : Message) × (slice_get steps.messages message ≡ Some taken_is)
      × HasDeed (tables_of steps) question (taken taken_is) node number
  pub messages_in :
      (cell message number : ℕ) → In (record { one = cell; two = message; number = number }) steps.messages_in
      → (taken_is : Message) × (slice_get steps.messages message ≡ Some taken_is)
      × IsStepOf (tables_of steps) question (taken taken_is) cell number
  pub additions : AreAdded steps
  pub sights :
      (want place node met : ℕ) → IsKeptIn steps.sights.items want place node met
      → (look : Look) × (at : Node) × IsLook question want place look × (slice_get steps.nodes node ≡ Some at)
      × ((met == 1) ≡ is_met_at question.sizes.nodes at look)

-- ---- how it goes on

-- the tables have grown, and what is kept is right
pub record IsGrown (question : Question) (old new : Steps) : Type 0 where
  pub tables : Grow (tables_of old) (tables_of new)
  pub kept : AreKept question new

-- so they have, whatever the question
pub record Grows (old new : Steps) : Type 0 where
  pub tables : Grow (tables_of old) (tables_of new)
  pub kept : (question : Question) → AreKept question old → AreKept question new
