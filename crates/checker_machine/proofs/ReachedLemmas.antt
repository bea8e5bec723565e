-- What holds of each node and each message in every run holds of a world that a run leads to.
use Rattle.std.proofs.Common.{◌≡◌, ◌∙◌, ◌<◌, ◌≤◌, ℕ, Some, List, length, ap, sym, subst, arith}
use Rattle.std.specs.Prelude.{Contains, slice_get}
use Rattle.std.proofs.lemmas.List.{take_all}
use Rattle.repl_msg.specs.declared.message.Message.{Message}
use Rattle.set_model.specs.declared.command.Event.{Event}
use Rattle.set_model.specs.Node.{Node}
use Rattle.set_model.specs.Run.{Sizes, run, world_at}
use Rattle.set_model.specs.World.{World}
use Rattle.safety_laws.specs.Bounds.{ConfigsAreLawful, HasLawfulConfigs, IsSmallNode, NumbersStaySmall}
use Rattle.safety_laws.specs.Laws.{InEveryRun}
use Rattle.safety_laws.specs.Sound.{NodesAreSound}
use Rattle.safety_laws.specs.Taking.{MessagesCanBeTaken}
use Rattle.checker_machine.specs.Reached.{AreSound, CanBeTaken, IsReached}
use Rattle.node_commands.proofs.VoterLemmas.{few_members}

-- the world after all events
pub whole_world : (sizes : Sizes) (events : List Event) → world_at sizes events (length events) ≡ (run sizes events).world
whole_world sizes events = ap (λ (es : List Event). (run sizes es).world) (take_all (length events) events (omega arith))

there_at : (world : World) (reached : IsReached world) (number : ℕ) (node : Node) → slice_get world.nodes number ≡ Some node
    → slice_get (world_at reached.sizes reached.events (length reached.events)).nodes number ≡ Some node
there_at world reached number node there =
    ap (λ (w : World). slice_get w.nodes number) (whole_world reached.sizes reached.events ∙ sym reached.is) ∙ there

module _ (small : InEveryRun NumbersStaySmall) (world : World) (reached : IsReached world) where
  numbers : NumbersStaySmall reached.sizes reached.events
  numbers = small reached.sizes reached.events reached.are_sizes reached.is_run

  as_many : length world.nodes ≡ reached.sizes.nodes
  as_many = ap (λ (w : World). length w.nodes) (reached.is ∙ sym (whole_world reached.sizes reached.events)) ∙ numbers.count (length reached.events)

  pub few_nodes : length world.nodes ≤ 50
  few_nodes = omega (arith, as_many, reached.are_sizes.most)

  sent_to : (message : Message) → Contains world.messages message → message.to < length world.nodes
  sent_to message sent =
      let there : Contains (world_at reached.sizes reached.events (length reached.events)).messages message =
      subst (λ (w : World). Contains w.messages message) (reached.is ∙ sym (whole_world reached.sizes reached.events)) sent in
      omega (arith, as_many, (numbers.messages (length reached.events) message there).receiver)

  pub taken : InEveryRun MessagesCanBeTaken → CanBeTaken world
  taken taking message sent = (
    sent_to message sent,
    λ node there up.
        taking reached.sizes reached.events reached.are_sizes reached.is_run message node (omega (arith, reached.few))
        (subst (λ (w : World). Contains w.messages message) reached.is sent) (record { there = there_at world reached message.to node there; up = up }),
  )

pub sound_at : InEveryRun NumbersStaySmall → InEveryRun ConfigsAreLawful → InEveryRun NodesAreSound → (world : World) → IsReached world → AreSound world
sound_at small lawful sound world reached number node there =
    let here = there_at world reached number node there in
    let numbers : IsSmallNode reached.sizes.nodes (length reached.events) number node =
    (small reached.sizes reached.events reached.are_sizes reached.is_run).nodes (length reached.events) number node here in
    let configs : HasLawfulConfigs reached.sizes.nodes node =
    (lawful reached.sizes reached.events reached.are_sizes reached.is_run).nodes (length reached.events) number node here in
    record {
      room = record {
        number = omega (arith, numbers.number, numbers.known, reached.are_sizes.most);
        term = omega (arith, numbers.term, reached.few);
        seen = omega (arith, numbers.seen, reached.few);
        rollback = omega (arith, numbers.rollback, reached.few);
        members = few_members node.config configs.config.rules;
        first = few_members node.first configs.first.rules;
      };
      logs = λ up.
          sound reached.sizes reached.events reached.are_sizes reached.is_run number node (omega (arith, reached.few))
          (record { there = here; up = up });
    }
