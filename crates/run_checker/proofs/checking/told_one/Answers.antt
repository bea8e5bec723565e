use Rattle.std.proofs.Common.{◌≡◌, None, Some, sym, ap, ◌∙◌, arith}
use Rattle.std.specs.Option.{option_copied}
use Rattle.std.proofs.lemmas.Result.{err_from_is_err_and}
use Rattle.run_checker.specs.Reading.{after_line}
use Rattle.run_checker.proofs.CheckedLemmas.{shorter}
use Rattle.run_checker.proofs.TellingLemmas.{goes, no_line, no_reply, other_reply}
use Rattle.run_checker.proofs.checking.told_one.Goals as goal

pub returns-in_err-done_line-clause-err : goal.returns-in_err-done_line-clause-err
returns-in_err-done_line-clause-err c =
    let p = err_from_is_err_and c.from_residual.result c.from_residual.ensures.1 in
    rw (p.1, p.2) (no_line c.args.nodes c.args.machine.now c.args.line c.args.bytes.now c.next_line.result.0.now c.next_line.ensures.line c.in_err-done_line.field-0.0 c.in_err-done_line.ensures.err)

pub returns-in_default-clause-err : goal.returns-in_default-clause-err
returns-in_default-clause-err c =
    let none : after_line c.args.bytes.now ≡ None = sym c.next_line.ensures.rest ∙ ap option_copied c.in_default.is in
    no_reply c.args.nodes c.args.machine.now c.args.line c.args.bytes.now c.next_line.result.0.now c.next_line.ensures.line c.done_line.new.machine _ c.in_ok-done_line.ensures.ok none

pub passed-requires : goal.passed-requires
passed-requires c =
    let some : after_line c.args.bytes.now ≡ Some c.in-Some.after.now = sym c.next_line.ensures.rest ∙ ap option_copied c.in-Some.is in
    let short = shorter c.args.bytes.now c.in-Some.after.now some in
    omega (arith, short, c.requires.room)

pub returns-clause-ok : goal.returns-clause-ok
returns-clause-ok c =
    let some : after_line c.args.bytes.now ≡ Some c.in-Some.after.now = sym c.next_line.ensures.rest ∙ ap option_copied c.in-Some.is in
    goes c.args.nodes c.args.machine.now c.args.line c.args.bytes.now c.next_line.result.0.now c.next_line.ensures.line c.done_line.new.machine _ c.in_ok-done_line.ensures.ok c.in-Some.after.now some
    (λ x. x.0.now) (λ x. x.1) c.passed.result (rw c.as_bytes.ensures.value at c.passed.ensures)

pub returns-clause-err : goal.returns-clause-err
returns-clause-err c =
    let some : after_line c.args.bytes.now ≡ Some c.in-Some.after.now = sym c.next_line.ensures.rest ∙ ap option_copied c.in-Some.is in
    other_reply c.args.nodes c.args.machine.now c.args.line c.args.bytes.now c.next_line.result.0.now c.next_line.ensures.line c.done_line.new.machine _ c.in_ok-done_line.ensures.ok c.in-Some.after.now some
    (λ x. x.0.now) (λ x. x.1) c.passed.result (rw c.as_bytes.ensures.value at c.passed.ensures)
