use Rattle.std.proofs.Common.{◌≡◌, ◌∙◌, ◌<◌, ◌≤◌, ap, subst, arith, length, Bool, List}
use Rattle.set_model.specs.declared.command.Command.{Command}
use Rattle.explore_steps.specs.Courses.{GoesOver}
use Rattle.explore_steps.specs.Tables.{tables_of}
use Rattle.explore_steps.proofs.Growth.{grow_on}
use Rattle.explore_steps.proofs.LineLemmas.{all_gone, lines_read, may_go_on, no_more, one_more}
use Rattle.explore_steps.proofs.Numbers.{there_at}
use Rattle.explore_steps.proofs.course.Course.go_lines.Goals as goal

pub go_over-requires-clause-line : goal.go_over-requires-clause-line
go_over-requires-clause-line c =
    let m = c.requires.may in
    let lines : c.as_slice-lines.result.now ≡ m.0.commands = lines_read c.args.question.now.acts c.as_slice.result.now c.args.act m.0 c.index-as_slice-act.result c.as_slice-lines.result.now c.as_slice.ensures c.index-as_slice-act.is
    c.as_slice-lines.ensures m.3 in
    let many : length c.as_slice-lines.result.now ≡ length m.0.commands = ap (λ (l : List Command). length l) lines in
    let test = c.loop-line-test.true in
    let within : c.loop-line.line < length m.0.commands = omega (arith, many, test) in
    let at = there_at m.0.commands c.loop-line.line within in
    (at.0, (m.0, m.3, at.1))

pub go_over-requires-clause-may : goal.go_over-requires-clause-may
go_over-requires-clause-may c =
    let m = c.requires.may in
    let lines : c.as_slice-lines.result.now ≡ m.0.commands = lines_read c.args.question.now.acts c.as_slice.result.now c.args.act m.0 c.index-as_slice-act.result c.as_slice-lines.result.now c.as_slice.ensures c.index-as_slice-act.is
    c.as_slice-lines.ensures m.3 in
    let many : length c.as_slice-lines.result.now ≡ length m.0.commands = ap (λ (l : List Command). length l) lines in
    let test = c.loop-line-test.true in
    let within : c.loop-line.line < length m.0.commands = omega (arith, many, test) in
    may_go_on c.loop-line.line (tables_of c.args.steps.now) (tables_of c.loop-line.steps) c.args.question.now c.args.self.now c.loop-line.self m.0.commands (c.loop-line.invariant.goes m.0 m.3) within m.1 m.2 m.4

pub returns-then-not-branch-clause-goes : goal.returns-then-not-branch-clause-goes
returns-then-not-branch-clause-goes c of there =
    let lines : c.as_slice-lines.result.now ≡ of.commands = lines_read c.args.question.now.acts c.as_slice.result.now c.args.act of c.index-as_slice-act.result c.as_slice-lines.result.now c.as_slice.ensures c.index-as_slice-act.is
    c.as_slice-lines.ensures there in
    let many : length c.as_slice-lines.result.now ≡ length of.commands = ap (λ (l : List Command). length l) lines in
    let test = c.loop-line-test.true in
    let within : c.loop-line.line < length of.commands = omega (arith, many, test) in
    let at = there_at of.commands c.loop-line.line within in
    no_more c.loop-line.line (tables_of c.args.steps.now) (tables_of c.loop-line.steps) (tables_of c.go_over.new.steps) c.args.question.now c.args.self.now c.loop-line.self c.go_over.new.self of.commands (c.loop-line.invariant.goes of there) at.0 at.1
    (subst (λ (d : Bool). GoesOver (tables_of c.loop-line.steps) (tables_of c.go_over.new.steps) c.args.question.now c.loop-line.self c.go_over.new.self d at.0) c.if-not-branch.true (c.in_ok-go_over.ensures.goes at.0 (of, there, at.1)))

pub loop-line-preserved : goal.loop-line-preserved
loop-line-preserved c = record {
  grown = record {
    tables = grow_on (tables_of c.args.steps.now) (tables_of c.loop-line.steps) (tables_of c.go_over.new.steps) c.loop-line.invariant.grown.tables c.in_ok-go_over.ensures.grown.tables;
    kept = c.in_ok-go_over.ensures.grown.kept;
  };
  notes = c.in_ok-go_over.ensures.notes ∙ c.loop-line.invariant.notes;
  goes = λ of there.
      (let lines : c.as_slice-lines.result.now ≡ of.commands = lines_read c.args.question.now.acts c.as_slice.result.now c.args.act of c.index-as_slice-act.result c.as_slice-lines.result.now c.as_slice.ensures c.index-as_slice-act.is
      c.as_slice-lines.ensures there in
      let many : length c.as_slice-lines.result.now ≡ length of.commands = ap (λ (l : List Command). length l) lines in
      let test = c.loop-line-test.true in
      let within : c.loop-line.line < length of.commands = omega (arith, many, test) in
      let at = there_at of.commands c.loop-line.line within in
      one_more c.loop-line.line (tables_of c.args.steps.now) (tables_of c.loop-line.steps) (tables_of c.go_over.new.steps) c.args.question.now c.args.self.now c.loop-line.self c.go_over.new.self of.commands (c.loop-line.invariant.goes of there) at.0 at.1
      (subst (λ (d : Bool). GoesOver (tables_of c.loop-line.steps) (tables_of c.go_over.new.steps) c.args.question.now c.loop-line.self c.go_over.new.self d at.0) c.if-not-branch.false (c.in_ok-go_over.ensures.goes at.0 (of, there, at.1))));
}

pub returns-clause-goes : goal.returns-clause-goes
returns-clause-goes c of there =
    let lines : c.as_slice-lines.result.now ≡ of.commands = lines_read c.args.question.now.acts c.as_slice.result.now c.args.act of c.index-as_slice-act.result c.as_slice-lines.result.now c.as_slice.ensures c.index-as_slice-act.is
    c.as_slice-lines.ensures there in
    let many : length c.as_slice-lines.result.now ≡ length of.commands = ap (λ (l : List Command). length l) lines in
    let test = c.loop-line-test.false in
    let past : length of.commands ≤ c.loop-line.line = omega (arith, many, test) in
    all_gone c.loop-line.line (tables_of c.args.steps.now) (tables_of c.loop-line.steps) c.args.question.now c.args.self.now c.loop-line.self of.commands past (c.loop-line.invariant.goes of there)
