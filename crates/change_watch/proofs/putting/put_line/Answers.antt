use Rattle.std.proofs.lemmas.Result.{err_from_is_err_and}
use Rattle.change_watch.proofs.LineLemmas.{line_put, line_stops}
use Rattle.change_watch.proofs.putting.put_line.Goals as goal

pub returns-clause-puts : goal.returns-clause-puts
returns-clause-puts g c = line_put (g.K.Sink.held c.args.sink.now) (g.K.Sink.held c.put.new.self) c.args.line.now c.in_ok-put.ensures.bytes

pub returns-in_err-put-clause-puts : goal.returns-in_err-put-clause-puts
returns-in_err-put-clause-puts g c =
    let p = err_from_is_err_and c.from_residual.result c.from_residual.ensures.1 in
    rw (p.1, p.2) (line_stops (g.K.Sink.held c.args.sink.now) (g.K.Sink.held c.put.new.self) c.args.line.now c.in_err-put.field-0.0 c.in_err-put.ensures.bytes)
