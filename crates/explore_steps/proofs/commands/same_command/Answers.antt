use Rattle.std.proofs.Common.{◌∙◌, ap, sym}
use Rattle.question_laws.specs.Meeting.{at_first}
use Rattle.explore_steps.proofs.WordLemmas.{IsActor, actors_same, nodes_same}
use Rattle.explore_steps.proofs.commands.same_command.Goals as goal

pub returns-then-eq : goal.returns-then-eq
returns-then-eq c =
    let own : IsActor c.args.one.now c.actor.result = record { some = c.actor.ensures.some; none = c.actor.ensures.none } in
    let others : IsActor c.args.other.now c.actor-2.result = record { some = c.actor-2.ensures.some; none = c.actor-2.ensures.none } in (
      λ same. nodes_same c.args.one.now c.args.other.now c.actor.result c.actor-2.result own others (sym c.eq.ensures ∙ c.if-eq.true) (c.same_but_node.ensures.0 same),
      λ same. c.same_but_node.ensures.1 (ap at_first same),
    )

pub returns-else-eq : goal.returns-else-eq
returns-else-eq c =
    let own : IsActor c.args.one.now c.actor.result = record { some = c.actor.ensures.some; none = c.actor.ensures.none } in
    let others : IsActor c.args.other.now c.actor-2.result = record { some = c.actor-2.ensures.some; none = c.actor-2.ensures.none } in (
      λ same. cc (c.if-eq.false, same),
      λ same. c.eq.ensures ∙ actors_same c.args.one.now c.args.other.now c.actor.result c.actor-2.result own others same,
    )
