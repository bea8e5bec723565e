use Rattle.std.proofs.Common.{rules}
use Rattle.linear_read.proofs.Loops.{repeat_breaks, repeat_done, repeat_ends, repeat_next, rounds_repeat}
use Rattle.linear_read.proofs.telling.repeat_rounds.Goals as goal

pub returns-in_err-has_round : goal.returns-in_err-has_round
returns-in_err-has_round g c =
    repeat_breaks (rounds_repeat c.args.node c.args.other c.args.at) 50 c.loop.counter c.loop.invariant c.loop-test.true c.in_err-has_round.ensures c.from_residual.result c.from_residual.ensures

pub returns-then-not-branch : goal.returns-then-not-branch
returns-then-not-branch g c =
    repeat_ends (rounds_repeat c.args.node c.args.other c.args.at) 50 c.loop.counter c.loop.invariant c.loop-test.true c.in_ok-has_round.field-0 c.in_ok-has_round.ensures (search rules)

pub loop-preserved : goal.loop-preserved
loop-preserved g c =
    repeat_next (rounds_repeat c.args.node c.args.other c.args.at) 50 c.loop.counter c.loop.invariant c.loop-test.true c.in_ok-has_round.field-0 c.in_ok-has_round.ensures (search rules)

pub returns : goal.returns
returns g c = repeat_done (rounds_repeat c.args.node c.args.other c.args.at) 50 c.loop.counter c.loop.invariant c.loop-test.false
