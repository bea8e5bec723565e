use Rattle.std.proofs.lemmas.Result.{err_from_is_err_and}
use Rattle.set_program.proofs.PlayLemmas.{reply_stops}
use Rattle.set_program.proofs.replies.put_replies.Goals as goal

pub returns-in_err-put_reply-clause-puts : goal.returns-in_err-put_reply-clause-puts
returns-in_err-put_reply-clause-puts g c =
    let p = err_from_is_err_and c.from_residual.result c.from_residual.ensures.1 in
    rw (p.1, p.2) (reply_stops c.in_err-put_reply.field-0.0 c.args.replies.now c.loop-line.line-index c.loop-line-item.result (g.K.Sink.held c.args.sink.now) (g.K.Sink.held c.loop-line.sink) (g.K.Sink.held c.put_reply.new.sink)
    c.loop-line-test.true c.loop-line-item.is c.loop-line.invariant.put c.in_err-put_reply.ensures.puts)
