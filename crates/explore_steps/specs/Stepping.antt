-- What events come to at nodes and in cells.
use Rattle.std.specs.Prelude.{◌≡◌, ◌↔◌, ◌⊎◌, ◌<◌, ℕ, false, not, List, filter, length, Some, slice_get}
use Rattle.std.specs.List.{list_any}
use Rattle.rs_optime.specs.Membership.{In}
use Rattle.repl_msg.specs.declared.message.Message.{Message}
use Rattle.set_model.specs.Node.{Node}
use Rattle.explore_laws.specs.Alike.{AlikeNodes}
use Rattle.explore_laws.specs.Dead.{is_dead}
use Rattle.explore_words.specs.declared.question.Question.{Question}
use Rattle.explore_words.specs.declared.question.Want.{Want}
use Rattle.explore_steps.specs.declared.deed.Deed.{Deed}
use Rattle.explore_steps.specs.declared.deed.Step.{Step}
use Rattle.explore_steps.specs.Causes.{Cause, IsMetBy, outcome_at}
use Rattle.explore_steps.specs.Tables.{AreNumbers, IsCell, Tables}

-- An event of this cause leaves a node so, sends these messages and meets these wants.
pub record EventDoes (question : Question) (cause : Cause) (node after : Node) (sent : List Message)
    (meets : List ℕ) : Type 0 where
  pub node_is : (outcome_at question.sizes.nodes cause node).node ≡ after
  pub sent_is : (outcome_at question.sizes.nodes cause node).sent ≡ sent
  pub met :
      (place : ℕ) (want : Want) → slice_get question.wants place ≡ Some want
      → In place meets ↔ IsMetBy cause want (outcome_at question.sizes.nodes cause node).reply
  pub within : (place : ℕ) → In place meets → place < length question.wants

-- An event of this cause does that at a node, and meets those wants.
pub record IsDeed (tables : Tables) (question : Question) (cause : Cause) (node : Node)
    (deed : Deed) : Type 0 where
  pub after : Node
  pub is : slice_get tables.nodes deed.node ≡ Some after
  pub alike : AlikeNodes (outcome_at question.sizes.nodes cause node).node after
  pub sent : AreNumbers tables deed.sent.items (outcome_at question.sizes.nodes cause node).sent
  pub meets :
      (place : ℕ) (want : Want) → slice_get question.wants place ≡ Some want
      → In place deed.meets.items ↔ IsMetBy cause want (outcome_at question.sizes.nodes cause node).reply
  pub within : (place : ℕ) → In place deed.meets.items → place < length question.wants

-- What comes of a cell where its node becomes another: the messages that are dead then are no more in it.
pub record IsMove (tables : Tables) (cell : ℕ) (node after : Node) (messages : List Message) (step : Step)
    : Type 0 where
  pub was : IsCell tables cell node messages
  pub is : IsCell tables step.cell after (filter (λ message. not (is_dead after message)) messages)
  pub stays : step.moves ≡ false → after ≡ node
  pub kills : step.kills ≡ list_any (is_dead after) messages

-- the step of this number is what comes of a cell by an event of this cause
pub record IsStepOf (tables : Tables) (question : Question) (cause : Cause) (cell number : ℕ) : Type 0 where
  pub step : Step
  pub deed : Deed
  pub node : Node
  pub messages : List Message
  pub step_is : slice_get tables.steps number ≡ Some step
  pub deed_is : slice_get tables.deeds step.deed ≡ Some deed
  pub does : IsDeed tables question cause node deed
  pub goes : IsMove tables cell node does.after messages step

-- a cell with a message more: the same where it is dead
pub record IsAddition (tables : Tables) (cell : ℕ) (message : Message) (new : ℕ) : Type 0 where
  pub node : Node
  pub messages : List Message
  pub more : List Message
  pub was : IsCell tables cell node messages
  pub is : IsCell tables new node more
  pub has :
      (other : Message)
      → In other more ↔ (In other messages ⊎ ((other ≡ message) × (is_dead node message ≡ false)))
