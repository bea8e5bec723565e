use Rattle.std.proofs.Common.{rules}
use Rattle.linear_read.proofs.Exits.{acks_went, note_breaks, note_refused}
use Rattle.linear_read.proofs.reading.confirm.Goals as goal

pub returns-in-Ok : goal.returns-in-Ok
returns-in-Ok g c =
    acks_went c.args.node c.args.nodes c.args.term c.in_ok-ask.ensures.went (search rules) c.acknowledge.new.set c.in-Ok.at c.in-Ok.ensures c.acknowledge.result c.acknowledge.ensures

pub returns : goal.returns
returns g c = note_refused c.args.node c.args.nodes c.args.term c.in_ok-ask.ensures.went (search rules) c.in-Err.why c.in-Err.ensures _ (search rules)

pub returns-in_err-ask : goal.returns-in_err-ask
returns-in_err-ask g c =
    note_breaks c.args.node c.args.nodes c.args.term c.in_err-ask.ensures.went (search rules) c.from_residual.result c.from_residual.ensures
