use Rattle.std.proofs.Common.{arith}
use Rattle.linear_tell.proofs.TellLemmas.{breaks_off, result_is}
use Rattle.linear_tell.proofs.telling.read.Goals as goal

pub returns-clause-ok : goal.returns-clause-ok
returns-clause-ok g c =
    rw c.told_of.ensures
    (result_is g.S.Stepper.is_alone (g.S.Stepper.sizes c.args.set.now) c.args.linear.now (g.S.Stepper.known c.args.set.now) (g.S.Stepper.known c.linear_read.new.set) c.in_ok-answer.answer
    (omega (arith, c.if-linear-size.false, c.requires.size), rw (c.requires.size, c.as_str-name.ensures.value) at c.in_ok-answer.ensures.ok.0, rw c.as_str-name.ensures.value at c.in_ok-answer.ensures.shown))

pub returns-in_err-answer-clause-err : goal.returns-in_err-answer-clause-err
returns-in_err-answer-clause-err g c =
    breaks_off g.S.Stepper.is_alone (g.S.Stepper.sizes c.args.set.now) c.args.linear.now (g.S.Stepper.known c.args.set.now) (g.S.Stepper.known c.linear_read.new.set) c.from_residual.result
    (omega (arith, c.if-linear-size.false, c.requires.size), rw (c.requires.size, c.as_str-name.ensures.value) at c.in_err-answer.ensures.err.0)
