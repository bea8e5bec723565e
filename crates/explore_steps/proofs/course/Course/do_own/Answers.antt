use Rattle.std.proofs.Common.{◌∙◌, ◌<◌, ap, sym, subst, arith, length}
use Rattle.std.specs.Prelude.{is_none}
use Rattle.std.proofs.lemmas.Result.{on_ok_weaker}
use Rattle.explore_steps.specs.Causes.{own}
use Rattle.explore_steps.specs.Keeping.{IsLine}
use Rattle.explore_steps.specs.Tables.{tables_of}
use Rattle.explore_steps.proofs.AddLemmas.{cell_at}
use Rattle.explore_steps.proofs.LineLemmas.{at_cell, line_of_set, may_own, not_some, went_own}
use Rattle.explore_steps.proofs.Reach.{reached_less}
use Rattle.explore_steps.proofs.course.Course.do_own.Goals as goal

pub index-cell-requires : goal.index-cell-requires
index-cell-requires c =
    let within : c.in-Some.node < length c.args.self.now.cells.items = at_cell c.args.question.now c.args.act c.args.line c.args.command.now c.requires.put c.requires.line (tables_of c.args.steps.now) c.args.self.now
    c.requires.may.0 c.requires.may.1 0 c.requires.may.2 c.in-Some.node c.in-Some.ensures.known in
    omega (arith, within)

pub of_line-requires-clause-line : goal.of_line-requires-clause-line
of_line-requires-clause-line c = subst (λ k. IsLine c.args.question.now c.args.act k c.args.command.now) (sym c.in_ok-number_of.ensures.same) c.requires.line

pub of_line-requires-clause-come : goal.of_line-requires-clause-come
of_line-requires-clause-come c =
    let m = c.requires.may in
    let there = cell_at c.args.self.now.cells.items c.in-Some.node c.index-cell.result.now
    (at_cell c.args.question.now c.args.act c.args.line c.args.command.now c.requires.put c.requires.line (tables_of c.args.steps.now) c.args.self.now m.0 m.1 0 m.2 c.in-Some.node c.in-Some.ensures.known) c.index-cell.ensures in
    (m.0, c.in-Some.node, reached_less c.args.question.now 1 0 m.0 (omega arith) m.2.reached, m.2.under_way.noted.cells_are.each c.in-Some.node c.index-cell.result.now there)

pub take-requires-clause-may : goal.take-requires-clause-may
take-requires-clause-may c =
    let m = c.requires.may in
    let there = cell_at c.args.self.now.cells.items c.in-Some.node c.index-cell.result.now
    (at_cell c.args.question.now c.args.act c.args.line c.args.command.now c.requires.put c.requires.line (tables_of c.args.steps.now) c.args.self.now m.0 m.1 0 m.2 c.in-Some.node c.in-Some.ensures.known) c.index-cell.ensures in (
      own c.args.command.now,
      c.index-cell.result.now,
      m.0,
      m.1,
      c.args.command.now,
      there,
      c.in_ok-step.ensures.step,
      may_own (tables_of c.args.steps.now) (tables_of c.of_line.new.self) c.in_ok-step.ensures.grown.tables c.args.question.now c.args.self.now c.in-Some.node 0 m.1 m.0 c.args.command.now c.requires.own
          (c.in-Some.ensures.some m.0) (line_of_set c.args.question.now c.args.act c.args.line c.args.command.now c.requires.put c.requires.line) m.2,
    )

pub returns-in_default-clause-goes : goal.returns-in_default-clause-goes
returns-in_default-clause-goes c = absurd (cc (sym c.requires.own ∙ c.actor.ensures.none ∙ ap is_none (not_some c.actor.result c.in_default.not-Some)))

pub returns-clause-goes : goal.returns-clause-goes
returns-clause-goes c = on_ok_weaker c.take.result
    (λ goes spare before world stands.
    (let there = cell_at c.args.self.now.cells.items c.in-Some.node c.index-cell.result.now
    (at_cell c.args.question.now c.args.act c.args.line c.args.command.now c.requires.put c.requires.line (tables_of c.args.steps.now) c.args.self.now world before spare stands c.in-Some.node c.in-Some.ensures.known) c.index-cell.ensures in
    went_own (tables_of c.args.steps.now) (tables_of c.take.new.steps) c.args.question.now c.args.self.now c.take.new.self spare before world c.args.command.now c.requires.own
    (goes (own c.args.command.now) c.index-cell.result.now there c.in_ok-step.ensures.step spare before world c.args.command.now
    (may_own (tables_of c.args.steps.now) (tables_of c.of_line.new.self) c.in_ok-step.ensures.grown.tables c.args.question.now c.args.self.now c.in-Some.node spare before world c.args.command.now c.requires.own
    (c.in-Some.ensures.some world) (line_of_set c.args.question.now c.args.act c.args.line c.args.command.now c.requires.put c.requires.line) stands))))
    c.take.ensures.goes
