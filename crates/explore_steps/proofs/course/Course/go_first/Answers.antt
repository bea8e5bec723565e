use Rattle.std.proofs.Common.{sym, subst, refl}
use Rattle.std.proofs.lemmas.Result.{on_ok_weaker}
use Rattle.explore_steps.specs.declared.doing.First.{First}
use Rattle.explore_steps.specs.Courses.{GoesFirst}
use Rattle.explore_steps.specs.Tables.{tables_of}
use Rattle.explore_steps.proofs.Growth.{grow_itself}
use Rattle.explore_steps.proofs.LineLemmas.{deliver_first, first_idle, first_live}
use Rattle.explore_steps.proofs.course.Course.go_first.Goals as goal

pub deliver-requires-clause-may : goal.deliver-requires-clause-may
deliver-requires-clause-may c =
    let m = c.requires.may in
    deliver_first (tables_of c.args.steps.now) c.args.question.now c.args.self.now c.args.first c.in-Live.message m.0 m.1 c.in-Live.is m.2 m.3

pub returns-in-Live-clause-goes : goal.returns-in-Live-clause-goes
returns-in-Live-clause-goes c = on_ok_weaker c.deliver.result
    (λ goes. subst (λ (f : First). GoesFirst (tables_of c.args.steps.now) (tables_of c.deliver.new.steps) c.args.question.now c.args.self.now c.deliver.new.self f) (sym c.in-Live.is)
    (first_live (tables_of c.args.steps.now) (tables_of c.deliver.new.steps) c.args.question.now c.args.self.now c.deliver.new.self c.in-Live.message goes))
    c.deliver.ensures.goes

pub returns : goal.returns
returns c = record {
  grown = record { tables = grow_itself (tables_of c.args.steps.now); kept = c.requires.kept };
  notes = refl;
  goes = first_idle c.dead_messages_change_nothing.ensures.stays (tables_of c.args.steps.now) c.args.question.now c.requires.put c.args.self.now c.args.first c.in_default.not-Live;
}
