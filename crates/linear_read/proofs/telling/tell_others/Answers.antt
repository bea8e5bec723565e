use Rattle.linear_read.specs.Points.{others_told}
use Rattle.linear_read.proofs.Loops.{others_break, others_done, others_next, repeat_begins}
use Rattle.linear_read.proofs.telling.tell_others.Goals as goal

pub returns-in_err-tell : goal.returns-in_err-tell
returns-in_err-tell g c =
    others_break c.args.node c.loop-other.other c.args.nodes c.args.at c.loop-other-test.true c.loop-other.invariant c.in_err-tell.ensures c.from_residual.result c.from_residual.ensures

pub loop-other-preserved : goal.loop-other-preserved
loop-other-preserved g c =
    others_next c.args.node c.loop-other.other c.args.nodes c.args.at c.loop-other-test.true c.loop-other.invariant c.in_ok-tell.ensures

pub returns : goal.returns
returns g c = others_done c.args.node c.loop-other.other c.args.nodes c.args.at c.loop-other-test.false c.loop-other.invariant

pub loop-other-init : goal.loop-other-init
loop-other-init g c = repeat_begins (others_told c.args.node c.args.at 0) c.args.nodes
