-- What an event does at the one node that it touches.
use Rattle.std.specs.Prelude.{◌≡◌, ◌++◌, ℕ, not, ◌||◌, false, true, Option, None, Some}
use Rattle.set_model.specs.declared.command.Event.{Event}
use Rattle.set_model.specs.Limits.{settles_doubt}
use Rattle.set_model.specs.Stores.{Plan}
use Rattle.set_model.specs.World.{World, event_plan, step}
use Rattle.checker_node.specs.Done.{left_of}
use Rattle.checker_node.specs.declared.answer.Answer.{Answer}

-- if no such message was sent, no store is reached
abbrev pub left_after : Option Plan → Option ℕ → Option ℕ
left_after None failed = failed
left_after (Some plan) failed = left_of plan failed

-- The nodes are those of the world after the event, and the messages still those before it. The reply is the
-- event's, and what is sent makes the messages those after it. `left` is what is left of the number of the
-- store that fails. A doubt is settled only if there is one.
pub record Acts (world : World) (event : Event) (left : Option ℕ) (answer : Answer)
    (new : World) : Type 0 where
  pub nodes : new.nodes ≡ (step world event).world.nodes
  pub messages : new.messages ≡ world.messages
  pub reply : answer.reply ≡ (step world event).reply
  pub sent : world.messages ++ answer.sent.items ≡ (step world event).world.messages
  pub left_is : left ≡ left_after (event_plan world event) event.failed
  pub there : (not event.kept || settles_doubt world event) ≡ true

-- the event finds on disk what isn't in doubt
abbrev pub IsOutOfDoubt : World → Event → Type 0
IsOutOfDoubt world event = (not event.kept || settles_doubt world event) ≡ false
