use Rattle.std.proofs.Common.{◌≡◌, ◌∙◌, sym, subst, true, Bool}
use Rattle.std.proofs.lemmas.Result.{IfOk-weaker}
use Rattle.set_model.specs.declared.command.Command.{Command}
use Rattle.set_model.specs.declared.command.Command.TheVariants.{DeliverLatest}
use Rattle.explore_steps.specs.Courses.{GoesOver}
use Rattle.explore_steps.specs.Keeping.{IsLine}
use Rattle.explore_steps.specs.Reaching.{IsOfSet}
use Rattle.explore_steps.specs.Tables.{tables_of}
use Rattle.explore_steps.proofs.LineLemmas.{line_of_set, line_read, line_unnumbered, own_line}
use Rattle.explore_steps.proofs.course.Course.go_over.Goals as goal

pub deliver_latest-requires-clause-of_set : goal.deliver_latest-requires-clause-of_set
deliver_latest-requires-clause-of_set c =
    let line = c.requires.line in
    let same : line.0 ≡ c.index-as_slice-line.result = line_read c.args.question.now c.args.act c.args.line c.as_slice.result.now c.index-as_slice-act.result c.as_slice-2.result.now c.index-as_slice-line.result line.0 c.as_slice.ensures c.index-as_slice-act.is c.as_slice-2.ensures c.index-as_slice-line.is line.1 in
    subst (IsOfSet c.args.question.now) (same ∙ c.in-DeliverLatest.is) (line_of_set c.args.question.now c.args.act c.args.line line.0 c.requires.put line.1)

pub returns-in-DeliverLatest-clause-goes : goal.returns-in-DeliverLatest-clause-goes
returns-in-DeliverLatest-clause-goes c = IfOk-weaker c.deliver_latest.result
    (λ (done : Bool). GoesOver (tables_of c.args.steps.now) (tables_of c.deliver_latest.new.steps) c.args.question.now c.args.self.now c.deliver_latest.new.self done
    (DeliverLatest c.in-DeliverLatest.from c.in-DeliverLatest.to))
    (λ (done : Bool). (command : Command) → IsLine c.args.question.now c.args.act c.args.line command
    → GoesOver (tables_of c.args.steps.now) (tables_of c.deliver_latest.new.steps) c.args.question.now c.args.self.now c.deliver_latest.new.self done command)
    (λ done goes command is. subst (λ (d : Command). GoesOver (tables_of c.args.steps.now) (tables_of c.deliver_latest.new.steps) c.args.question.now c.args.self.now c.deliver_latest.new.self done d)
    (sym (line_read c.args.question.now c.args.act c.args.line c.as_slice.result.now c.index-as_slice-act.result c.as_slice-2.result.now c.index-as_slice-line.result command c.as_slice.ensures c.index-as_slice-act.is c.as_slice-2.ensures c.index-as_slice-line.is is ∙ c.in-DeliverLatest.is)) goes)
    c.deliver_latest.ensures.goes

pub do_own-requires : goal.do_own-requires
do_own-requires c =
    let line = c.requires.line in
    let same : line.0 ≡ c.index-as_slice-line.result = line_read c.args.question.now c.args.act c.args.line c.as_slice.result.now c.index-as_slice-act.result c.as_slice-2.result.now c.index-as_slice-line.result line.0 c.as_slice.ensures c.index-as_slice-act.is c.as_slice-2.ensures c.index-as_slice-line.is line.1 in
    let here : IsLine c.args.question.now c.args.act c.args.line c.index-as_slice-line.result = subst (λ (d : Command). IsLine c.args.question.now c.args.act c.args.line d) same line.1 in
    record {
      put = c.requires.put;
      kept = c.requires.kept;
      line = here;
      own = own_line c.index-as_slice-line.result (line_unnumbered c.args.question.now c.args.act c.args.line c.index-as_slice-line.result c.requires.put here) c.in_default.not-DeliverLatest;
      may = c.requires.may;
    }

pub returns : goal.returns
returns c = record {
  grown = c.in_ok-do_own.ensures.grown;
  notes = c.in_ok-do_own.ensures.notes;
  goes = λ command is. subst (λ (d : Command). GoesOver (tables_of c.args.steps.now) (tables_of c.do_own.new.steps) c.args.question.now c.args.self.now c.do_own.new.self true d)
      (sym (line_read c.args.question.now c.args.act c.args.line c.as_slice.result.now c.index-as_slice-act.result c.as_slice-2.result.now c.index-as_slice-line.result command c.as_slice.ensures c.index-as_slice-act.is c.as_slice-2.ensures c.index-as_slice-line.is is)) c.in_ok-do_own.ensures.goes;
}
