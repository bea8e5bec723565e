use Rattle.std.proofs.Common.{subst}
use Rattle.std.proofs.lemmas.Result.{err_from_is_err_and}
use Rattle.trace_check.specs.Ends.{IsCounted}
use Rattle.trace_check.proofs.EndLemmas.{count_ends, is_read, read_ends}
use Rattle.trace_check.proofs.checking.check_source.Goals as goal

pub returns-in_err-bytes-clause-ends : goal.returns-in_err-bytes-clause-ends
returns-in_err-bytes-clause-ends g c =
    let p = err_from_is_err_and c.from_residual.result c.from_residual.ensures.1 in
    rw (p.1, p.2) (read_ends (g.S.Source.left c.args.source.now) (g.S.Source.left c.read_all.new.source) (g.K.Sink.held c.args.sink.now) c.in_err-bytes.field-0.0 c.in_err-bytes.ensures.bytes)

pub returns-in-Ok-clause-ends : goal.returns-in-Ok-clause-ends
returns-in-Ok-clause-ends g c =
    count_ends (g.S.Source.left c.args.source.now) (g.S.Source.left c.read_all.new.source) (g.K.Sink.held c.args.sink.now) (g.K.Sink.held c.put_count.new.sink) c.in-Ok.count c.put_count.result
    (is_read (g.S.Source.left c.args.source.now) (g.S.Source.left c.read_all.new.source) c.in_ok-bytes.bytes (IsCounted c.in-Ok.count) c.in_ok-bytes.ensures.bytes
    (subst (IsCounted c.in-Ok.count) c.deref.ensures.value (c.in-Ok.ensures.says, c.in-Ok.ensures.ok)))
    c.put_count.ensures.puts
