use Rattle.std.proofs.Common.{sym, ◌∙◌}
use Rattle.std.proofs.lemmas.Result.{err_from_is_err_and}
use Rattle.set_program.proofs.EndLemmas.{usage_stops}
use Rattle.set_program.proofs.asking.read_script.Goals as goal

pub returns-in_ok-put-in-None-clause-reads : goal.returns-in_ok-put-in-None-clause-reads
returns-in_ok-put-in-None-clause-reads g c = (sym c.in_ok-asked.ensures.asked ∙ c.in-None.is, rw c.as_bytes.ensures.value at c.in_ok-put-in-None.ensures.bytes)

pub returns-in_err-put-in-None-clause-reads : goal.returns-in_err-put-in-None-clause-reads
returns-in_err-put-in-None-clause-reads g c =
    let p = err_from_is_err_and c.from_residual-in_err-put-in-None.result c.from_residual-in_err-put-in-None.ensures.1 in
    rw (p.1, p.2) (usage_stops c.args.words.now (g.S.Source.left c.args.source.now) (g.S.Source.left c.args.source.now) (g.K.Sink.held c.args.sink.now) (g.K.Sink.held c.put.new.self)
    c.in_err-put-in-None.field-0.0 (sym c.in_ok-asked.ensures.asked ∙ c.in-None.is) (rw c.as_bytes.ensures.value at c.in_err-put-in-None.ensures.bytes))
