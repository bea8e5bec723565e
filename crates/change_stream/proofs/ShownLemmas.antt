-- What was shown in a history is shown in each longer one.
use Rattle.std.proofs.Common.{◌≡◌, ◌∙◌, ap, arith, ℕ, zero, suc, Some, List, [], ◌∷◌, ◌++◌, slice_get}
use Rattle.std.proofs.lemmas.List.{take-append-le}
use Rattle.std.proofs.lemmas.Option.{slice_get_within}
use Rattle.set_model.specs.declared.command.Command.{Command}
use Rattle.set_model.specs.declared.command.Command.TheVariants as commands
use Rattle.set_model.specs.declared.command.Event.{Event}
use Rattle.set_model.specs.declared.reply.Reply.{Reply}
use Rattle.set_model.specs.declared.reply.Reply.TheVariants as reply
use Rattle.set_model.specs.Run.{Sizes, run}
use Rattle.set_model.specs.World.{step}
use Rattle.change_stream.specs.Calls.{Call}
use Rattle.change_stream.specs.Shown.{IsAnswered, Shows}

get_left : (events more : List Event) (place : ℕ) (event : Event) → slice_get events place ≡ Some event → slice_get (events ++ more) place ≡ Some event
get_left [] more place event there = absurd (cc there)
get_left (first ∷ events) more zero event there = there
get_left (first ∷ events) more (suc place) event there = get_left events more place event there

module _ (sizes : Sizes) (events more : List Event) where
  answered_later : (place : ℕ) (command : Command) (answer : Reply) → IsAnswered sizes events place command answer → IsAnswered sizes (events ++ more) place command answer
  answered_later place command answer was =
      let within = slice_get_within events place was.event was.there in
      record {
        event = was.event;
        there = get_left events more place was.event was.there;
        command_is = was.command_is;
        reply_is = ap (λ l. (step (run sizes l).world was.event).reply) (take-append-le place events more (omega (arith, within))) ∙ was.reply_is;
      }

  pub shows_later : (call : Call) → Shows sizes events call → Shows sizes (events ++ more) call
  shows_later call shown = record {
    first = shown.first;
    second = shown.second;
    order = shown.order;
    state = shown.state;
    state_is = shown.state_is;
    asked = answered_later shown.first (commands.State call.node) shown.state shown.asked;
    read = answered_later shown.second (commands.Log call.node) (reply.Entries call.log) shown.read;
  }
