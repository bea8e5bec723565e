-- What an event comes to in a world is what its cause comes to at the node that is kept.
use Rattle.std.proofs.Common.{◌≡◌, ◌∙◌, ap, sym, subst, refl, ℕ, false, None, Some, length, slice_get}
use Rattle.repl_msg.specs.declared.message.Message.{Message}
use Rattle.set_model.specs.declared.command.Command.{Command}
use Rattle.set_model.specs.Deliver.{deliver}
use Rattle.set_model.specs.Node.{Node}
use Rattle.set_model.specs.Outcome.{Outcome}
use Rattle.set_model.specs.Rows.{row}
use Rattle.set_model.specs.Stores.{done}
use Rattle.set_model.specs.World.{World, actor, acts, is_delivery, step, takes, touched_node, with_outcome}
use Rattle.explore_laws.specs.Alike.{AlikeNodes}
use Rattle.explore_laws.specs.Settled.{IsSettled}
use Rattle.explore_laws.specs.Steps.{GoAlike, PlansGoAlike}
use Rattle.explore_laws.proofs.AlikeBodies.{messages_go_alike}
use Rattle.explore_laws.proofs.AlikeEvents.{step_whole}
use Rattle.explore_laws.proofs.AlikeRows.{commands_go_alike}
use Rattle.question_laws.specs.Doing.{event_of}
use Rattle.question_laws.proofs.Plain.{own_node}
use Rattle.explore_steps.specs.Causes.{Cause, IsCauseOf, outcome_at, own as own_line, taken}

-- the outcome at the node of the world, and the one at the node that is kept
pub record Comes (nodes : ℕ) (cause : Cause) (world : World) (command : Command) (number : ℕ) (own node : Node) : Type 0 where
  pub outcome : Outcome
  pub step_is : step world (event_of command) ≡ with_outcome world number outcome
  pub goes : GoAlike own outcome (outcome_at nodes cause node)

module _ (nodes : ℕ) (world : World) (command : Command) (number : ℕ) (own node : Node) (count : length world.nodes ≡ nodes)
    (number_is : touched_node world command ≡ number) (there : slice_get world.nodes number ≡ Some own) (settled : IsSettled own) (alike : AlikeNodes own node) where
  comes_own : (line : Command) → IsCauseOf world command (own_line line) → Comes nodes (own_line line) world command number own node
  comes_own line is = record {
    outcome = done (row (length world.nodes) (length world.messages) false own command) None;
    step_is = step_whole world (event_of command) refl (acts number) (own_node world command (ap is_delivery is.0 ∙ is.1) ∙ ap acts number_is) own there (row (length world.nodes) (length world.messages) false own command) refl;
    goes =
        subst (λ k. PlansGoAlike own (row k (length world.messages) false own command) (row nodes 0 false node line)) (sym count)
        (subst (λ (c : Command). PlansGoAlike own (row nodes (length world.messages) false own command) (row nodes 0 false node c)) is.0
        (commands_go_alike nodes (length world.messages) 0 false false own node command settled alike));
  }

  comes_taken : (message : Message) → IsCauseOf world command (taken message) → Comes nodes (taken message) world command number own node
  comes_taken message is = record {
    outcome = done (deliver (length world.messages) own message) None;
    step_is = subst (λ n. step world (event_of command) ≡ with_outcome world n (done (deliver (length world.messages) own message) None)) to_is
        (step_whole world (event_of command) refl (takes message) is own (ap (slice_get world.nodes) to_is ∙ there) (deliver (length world.messages) own message) refl);
    goes = messages_go_alike (length world.messages) 0 own node message settled alike;
  }
    where
      to_is : message.to ≡ number
      to_is = sym (ap actor is) ∙ number_is

  pub comes : (cause : Cause) → IsCauseOf world command cause → Comes nodes cause world command number own node
  comes (own_line line) is = comes_own line is
  comes (taken message) is = comes_taken message is
