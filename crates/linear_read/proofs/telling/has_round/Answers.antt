use Rattle.std.proofs.Common.{rules}
use Rattle.linear_read.proofs.Loops.{delivery_breaks, fetch_breaks, flushes_break, heartbeat_breaks, round_heard, round_unheard}
use Rattle.linear_read.proofs.telling.has_round.Goals as goal

pub returns-in_err-carry-2 : goal.returns-in_err-carry-2
returns-in_err-carry-2 g c =
    fetch_breaks c.args.node c.args.other c.args.at c.in_ok-carry.ensures c.in_err-carry-2.ensures c.from_residual-in_err-carry-2.result c.from_residual-in_err-carry-2.ensures

pub returns-in_err-deliver : goal.returns-in_err-deliver
returns-in_err-deliver g c =
    delivery_breaks c.args.node c.args.other c.args.at c.in_ok-carry.ensures c.in_ok-carry-2.ensures (rw c.message_replied-found.ensures at c.in_err-deliver.ensures)
    c.from_residual-in_err-deliver.result c.from_residual-in_err-deliver.ensures

pub returns-in_err-flush : goal.returns-in_err-flush
returns-in_err-flush g c =
    flushes_break c.args.node c.args.other c.args.at c.in_ok-carry.ensures c.in_ok-carry-2.ensures (rw c.message_replied-found.ensures at c.in_ok-deliver.ensures)
    c.in_err-flush.ensures c.from_residual-in_err-flush.result c.from_residual-in_err-flush.ensures

pub returns-then-is_heard : goal.returns-then-is_heard
returns-then-is_heard g c =
    round_heard c.args.node c.args.other c.args.at c.in_ok-carry.ensures c.in_ok-carry-2.ensures (rw c.message_replied-found.ensures at c.in_ok-deliver.ensures)
    c.in_ok-flush.ensures (search rules) c.took_some-took.result c.took_some-took.ensures

pub returns-else-is_heard : goal.returns-else-is_heard
returns-else-is_heard g c =
    round_unheard c.args.node c.args.other c.args.at c.in_ok-carry.ensures c.in_ok-carry-2.ensures (rw c.message_replied-found.ensures at c.in_ok-deliver.ensures)
    c.in_ok-flush.ensures (search rules) c.is_some-is_heard.result (search rules)

pub returns-in_err-carry : goal.returns-in_err-carry
returns-in_err-carry g c = heartbeat_breaks c.args.node c.args.other c.args.at c.in_err-carry.ensures c.from_residual.result c.from_residual.ensures
