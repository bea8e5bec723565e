use Rattle.std.proofs.Common.{◌+◌, arith, length, suc}
use Rattle.std.proofs.lemmas.Result.{on_ok_weaker}
use Rattle.question_laws.specs.Doing.{world_after}
use Rattle.explore_steps.specs.Courses.{first_events}
use Rattle.explore_steps.specs.Tables.{tables_of}
use Rattle.explore_steps.proofs.Growth.{grow_on}
use Rattle.explore_steps.proofs.LineLemmas.{act_gone, stands_less}
use Rattle.explore_steps.proofs.course.Course.go.Goals as goal

pub go_lines-requires-clause-may : goal.go_lines-requires-clause-may
go_lines-requires-clause-may c =
    let m = c.requires.may in
    let led = c.in_ok-go_first.ensures.goes (length m.0.commands) m.1 m.2
    (stands_less (suc (length m.0.commands) + 0) (suc (length m.0.commands)) (tables_of c.args.steps.now) c.args.question.now c.args.self.now m.1 (length m.1.messages) (omega arith) m.4.stands) m.4.first_is in
    (m.0, world_after m.1 (first_events m.2), length m.1.messages, m.3, led.stands)

pub returns-clause-grown : goal.returns-clause-grown
returns-clause-grown c = on_ok_weaker c.go_lines.result
    (λ grown. record {
      tables = grow_on (tables_of c.args.steps.now) (tables_of c.go_first.new.steps) (tables_of c.go_lines.new.steps) c.in_ok-go_first.ensures.grown.tables grown.tables;
      kept = grown.kept;
    })
    c.go_lines.ensures.grown

pub returns-clause-goes : goal.returns-clause-goes
returns-clause-goes c = on_ok_weaker c.go_lines.result
    (λ along act there. act_gone (tables_of c.args.steps.now) (tables_of c.go_first.new.steps) (tables_of c.go_lines.new.steps) c.args.question.now c.args.self.now c.go_first.new.self c.go_lines.new.self
    c.args.doing.first act c.in_ok-go_first.ensures.goes (along act there))
    c.go_lines.ensures.goes
