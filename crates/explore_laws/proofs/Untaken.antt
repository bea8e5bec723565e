-- The delivery of a dead message leaves the world as it was, and isn't taken.
use Rattle.std.proofs.Common.{◌≡◌, ◌∙◌, ◌≤◌, inl, inr, ap, sym, refl, true, Option, None, Some, length, slice_get}
use Rattle.repl_msg.specs.declared.message.Message.{Message}
use Rattle.set_model.specs.declared.command.Event.{Event}
use Rattle.set_model.specs.declared.reply.Ignored.{Ignored}
use Rattle.set_model.specs.declared.reply.Reply.{Reply}
use Rattle.set_model.specs.declared.reply.Reply.TheVariants as reply
use Rattle.set_model.specs.Deliver.{deliver}
use Rattle.set_model.specs.Node.{Node}
use Rattle.set_model.specs.Stores.{done}
use Rattle.set_model.specs.World.{Step, World, step, takes, task, with_outcome}
use Rattle.safety_laws.specs.Quiet.{IgnoredMessagesBringTerms, QuietRepliesChangeNothing, Stays, is_quiet}
use Rattle.explore_laws.specs.Dead.{is_dead_in, is_untaken}
use Rattle.explore_laws.specs.Laws.{DeadMessagesAreUntaken, DeadMessagesChangeNothing}
use Rattle.explore_laws.proofs.AlikeEvents.{step_at, step_nowhere}
use Rattle.explore_laws.proofs.AlikeWorlds.{dead_at}
use Rattle.explore_laws.proofs.DeadLemmas.{deliver_untaken, is_denied}

denied_quiet : (answer : Reply) → is_denied answer ≡ true → is_quiet answer ≡ true
denied_quiet (reply.Refused why) is = is
denied_quiet (reply.VoteRefused why) is = refl
denied_quiet answer is = absurd (cc is)

denied_untaken : (answer : Reply) → is_denied answer ≡ true → is_untaken answer ≡ true
denied_untaken (reply.Refused why) is = refl
denied_untaken (reply.VoteRefused why) is = refl
denied_untaken answer is = absurd (cc is)

-- at no node, or at one that denies or ignores it
data Handed (world : World) (event : Event) (message : Message) : Type 0 where
  nowhere : slice_get world.nodes message.to ≡ None → Handed world event message
  denied : (node : Node) → slice_get world.nodes message.to ≡ Some node → is_denied (step world event).reply ≡ true → Handed world event message
  ignored :
      (node : Node) → slice_get world.nodes message.to ≡ Some node → (why : Ignored) → (step world event).reply ≡ reply.Ignored why → message.term ≤ node.term
      → Handed world event message

handed : (world : World) (event : Event) (message : Message) → task world event.command ≡ takes message → is_dead_in world message ≡ true → Handed world event message
handed world event message takes_it dead = by (slice_get world.nodes message.to) refl
  where
    by : (found : Option Node) → slice_get world.nodes message.to ≡ found → Handed world event message
    by None none = nowhere none
    by (Some node) there = elim (deliver_untaken node event.failed (length world.messages) message (sym (dead_at world message node there) ∙ dead)) [
      | inl is ↦ denied node there (ap (λ (s : Step). is_denied s.reply) step_is ∙ is)
      | inr untaken ↦ ignored node there untaken.0 (ap (λ (s : Step). s.reply) step_is ∙ untaken.1) untaken.2
    ]
      where
        step_is : step world event ≡ with_outcome world message.to (done (deliver (length world.messages) node message) event.failed)
        step_is = step_at world event (takes message) takes_it node there _ refl

pub change_nothing : QuietRepliesChangeNothing → IgnoredMessagesBringTerms → DeadMessagesChangeNothing
change_nothing quiet bring world event message takes_it dead = by (handed world event message takes_it dead)
  where
    by : Handed world event message → Stays world event
    by (nowhere none) = ap (λ (s : Step). s.world) (step_nowhere world event (takes message) takes_it none)
    by (denied node there is) = quiet world event (denied_quiet (step world event).reply is)
    by (ignored node there why is order) = bring.nothing world event message node why (record { takes_it = takes_it; there = there }) is order

pub are_untaken : DeadMessagesAreUntaken
are_untaken world event message takes_it dead = by (handed world event message takes_it dead)
  where
    by : Handed world event message → is_untaken (step world event).reply ≡ true
    by (nowhere none) = ap (λ (s : Step). is_untaken s.reply) (step_nowhere world event (takes message) takes_it none)
    by (denied node there is) = denied_untaken (step world event).reply is
    by (ignored node there why is order) = ap is_untaken is
