use Rattle.std.proofs.Common.{rules}
use Rattle.linear_read.proofs.Loops.{report_breaks, reported, rounds_break}
use Rattle.linear_read.proofs.telling.tell.Goals as goal

pub returns-in_err-repeat_rounds : goal.returns-in_err-repeat_rounds
returns-in_err-repeat_rounds g c =
    rounds_break c.args.node c.args.other c.args.at (search rules) c.in_err-repeat_rounds.ensures c.from_residual.result c.from_residual.ensures

pub returns-in_err-carry : goal.returns-in_err-carry
returns-in_err-carry g c =
    report_breaks c.args.node c.args.other c.args.at (search rules) c.in_ok-repeat_rounds.ensures c.in_err-carry.ensures c.from_residual-in_err-carry.result c.from_residual-in_err-carry.ensures

pub returns : goal.returns
returns g c =
    reported c.args.node c.args.other c.args.at (search rules) c.in_ok-repeat_rounds.ensures c.in_ok-carry.field-0 c.in_ok-carry.ensures
