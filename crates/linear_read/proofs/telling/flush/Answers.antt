use Rattle.std.proofs.Common.{rules}
use Rattle.linear_read.specs.Points.{flushes}
use Rattle.linear_read.proofs.Loops.{flushes_repeat, repeat_begins, repeat_breaks, repeat_done, repeat_ends, repeat_next}
use Rattle.linear_read.proofs.telling.flush.Goals as goal

pub returns-in_err-ask : goal.returns-in_err-ask
returns-in_err-ask g c =
    repeat_breaks (flushes_repeat c.args.node) c.args.most c.loop.counter c.loop.invariant c.loop-test.true c.in_err-ask.ensures.went c.from_residual.result c.from_residual.ensures

pub returns-then-not-is_flushed : goal.returns-then-not-is_flushed
returns-then-not-is_flushed g c =
    repeat_ends (flushes_repeat c.args.node) c.args.most c.loop.counter c.loop.invariant c.loop-test.true c.in_ok-ask.field-0 c.in_ok-ask.ensures.went (search rules)

pub loop-preserved : goal.loop-preserved
loop-preserved g c =
    repeat_next (flushes_repeat c.args.node) c.args.most c.loop.counter c.loop.invariant c.loop-test.true c.in_ok-ask.field-0 c.in_ok-ask.ensures.went (search rules)

pub returns : goal.returns
returns g c = repeat_done (flushes_repeat c.args.node) c.args.most c.loop.counter c.loop.invariant c.loop-test.false

pub loop-init : goal.loop-init
loop-init g c = repeat_begins (flushes c.args.node) c.args.most
