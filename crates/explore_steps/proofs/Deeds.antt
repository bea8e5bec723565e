-- What an event does at a node, once it is computed.
use Rattle.std.proofs.Common.{◌≡◌, ◌↔◌, ◌∙◌, ◌<◌, ap, sym, subst, ℕ, Some, List, length, slice_get}
use Rattle.rs_optime.specs.Membership.{In}
use Rattle.repl_msg.specs.declared.message.Message.{Message}
use Rattle.set_model.specs.declared.reply.Reply.{Reply}
use Rattle.set_model.specs.Node.{Node}
use Rattle.set_model.specs.Outcome.{Outcome}
use Rattle.checker_node.specs.declared.answer.Answer.{Answer}
use Rattle.checker_node.specs.Done.{outcome_of}
use Rattle.explore_laws.specs.Alike.{AlikeNodes}
use Rattle.explore_words.specs.declared.question.Question.{Question}
use Rattle.explore_words.specs.declared.question.Want.{Want}
use Rattle.explore_steps.specs.Causes.{Cause, IsMetBy, outcome_at}
use Rattle.explore_steps.specs.Keeping.{HasDeed, IsPlaced}
use Rattle.explore_steps.specs.Stepping.{EventDoes}
use Rattle.explore_steps.specs.Tables.{AreNumbers, Tables}

-- a node's answer is what the event does
pub event_done : (question : Question) (cause : Cause) (node after : Node) (answer : Answer) (sent : List Message) (meets : List ℕ)
    → outcome_at question.sizes.nodes cause node ≡ outcome_of answer after → answer.sent.items ≡ sent
    → ((place : ℕ) (want : Want) → slice_get question.wants place ≡ Some want → In place meets ↔ IsMetBy cause want answer.reply)
    → ((place : ℕ) → In place meets → place < length question.wants) → EventDoes question cause node after sent meets
event_done question cause node after answer sent meets is sent_is met within = record {
  node_is = ap (λ (o : Outcome). o.node) is;
  sent_is = ap (λ (o : Outcome). o.sent) is ∙ sent_is;
  met = λ place want there. subst (λ (r : Reply). In place meets ↔ IsMetBy cause want r) (sym (ap (λ (o : Outcome). o.reply) is)) (met place want there);
  within = within;
}

pub deed_done : (tables : Tables) (question : Question) (cause : Cause) (node : ℕ) (at after : Node) (sent : List Message) (meets : List ℕ) (number : ℕ)
    → slice_get tables.nodes node ≡ Some at → EventDoes question cause at after sent meets → IsPlaced tables after sent meets number → HasDeed tables question cause node number
deed_done tables question cause node at after sent meets number at_is does placed = record {
  deed = placed.deed;
  at = at;
  deed_is = placed.deed_is;
  node_is = at_is;
  does = record {
    after = placed.after;
    is = placed.node_is;
    alike = subst (λ (n : Node). AlikeNodes n placed.after) (sym does.node_is) placed.alike;
    sent = subst (AreNumbers tables placed.deed.sent.items) (sym does.sent_is) placed.sent_are;
    meets = λ place want there. subst (λ (l : List ℕ). In place l ↔ IsMetBy cause want (outcome_at question.sizes.nodes cause at).reply) (sym placed.meets_are) (does.met place want there);
    within = λ place there. does.within place (subst (In place) placed.meets_are there);
  };
}
