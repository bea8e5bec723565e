use Rattle.std.proofs.Common.{drop}
use Rattle.set_model.specs.declared.command.Command.TheVariants.{DeliverLatest}
use Rattle.explore_steps.specs.Tables.{tables_of}
use Rattle.explore_steps.proofs.LineLemmas.{at_none, may_latest, stayed_there, went_latest}
use Rattle.explore_steps.proofs.course.Course.deliver_latest.Goals as goal

pub latest-requires : goal.latest-requires
latest-requires c = (drop c.requires.may.1 c.requires.may.0.messages, c.requires.may.2.under_way.sent_are)

pub deliver-requires-clause-may : goal.deliver-requires-clause-may
deliver-requires-clause-may c =
    let m = c.requires.may in
    let found = c.in-Some.ensures (drop m.1 m.0.messages) m.2.under_way.sent_are in (
      found.0,
      m.0,
      m.1,
      DeliverLatest c.args.from c.args.to,
      found.1,
      may_latest (tables_of c.args.steps.now) c.args.question.now c.args.self.now c.args.from c.args.to 0 m.1 m.0 found.0 c.requires.of_set m.2 found.2,
    )

pub returns-in_default-clause-goes : goal.returns-in_default-clause-goes
returns-in_default-clause-goes c spare before world stands =
    stayed_there (tables_of c.args.steps.now) c.args.question.now c.args.self.now c.args.from c.args.to spare before world
    (at_none _ _ c.latest.result c.in_default.not-Some (c.latest.ensures (drop before world.messages) stands.under_way.sent_are)) stands

pub returns-clause-goes : goal.returns-clause-goes
returns-clause-goes c spare before world stands =
    let found = c.in-Some.ensures (drop before world.messages) stands.under_way.sent_are in
    went_latest (tables_of c.args.steps.now) (tables_of c.deliver.new.steps) c.args.question.now c.args.self.now c.deliver.new.self c.args.from c.args.to spare before world found.0 found.2
    (c.in_ok-deliver.ensures.goes found.0 found.1 spare before world (DeliverLatest c.args.from c.args.to)
    (may_latest (tables_of c.args.steps.now) c.args.question.now c.args.self.now c.args.from c.args.to spare before world found.0 c.requires.of_set stands found.2))
