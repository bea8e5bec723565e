use Rattle.std.proofs.Common.{rules}
use Rattle.linear_read.proofs.Exits.{ack_breaks, ack_ends, flushing_breaks, telling_breaks}
use Rattle.linear_read.proofs.reading.acknowledge.Goals as goal

pub returns-in_err-flush : goal.returns-in_err-flush
returns-in_err-flush g c =
    flushing_breaks c.args.node c.args.nodes c.args.at c.in_err-flush.ensures c.from_residual.result c.from_residual.ensures

pub returns-in_err-tell_others : goal.returns-in_err-tell_others
returns-in_err-tell_others g c =
    telling_breaks c.args.node c.args.nodes c.args.at c.in_ok-flush.ensures c.in_err-tell_others.ensures c.from_residual-in_err-tell_others.result c.from_residual-in_err-tell_others.ensures

pub returns-in_err-ask : goal.returns-in_err-ask
returns-in_err-ask g c =
    ack_breaks c.args.node c.args.nodes c.args.at c.in_ok-flush.ensures c.in_ok-tell_others.ensures c.in_err-ask.ensures.went (search rules) c.from_residual-in_err-ask.result c.from_residual-in_err-ask.ensures

pub returns : goal.returns
returns g c =
    ack_ends c.args.node c.args.nodes c.args.at c.in_ok-flush.ensures c.in_ok-tell_others.ensures c.in_ok-ask.ensures.went (search rules) c.refusal_of.result c.refusal_of.ensures
