use Rattle.std.proofs.Common.{arith, ◌+◌, refl}
use Rattle.std.proofs.lemmas.Result.{err_from_is_err_and}
use Rattle.change_watch.proofs.LineLemmas.{all_put, entry_put, entry_stops}
use Rattle.change_watch.proofs.putting.put_changes.Goals as goal

pub loop-entry-preserved : goal.loop-entry-preserved
loop-entry-preserved g c = record {
  put = entry_put c.args.collection.now c.args.entries.now c.loop-entry.entry-index c.entry-item.result (g.K.Sink.held c.args.sink.now) (g.K.Sink.held c.loop-entry.sink) (g.K.Sink.held c.put_entry.new.sink)
      c.loop-entry-test.true c.entry-item.is c.loop-entry.invariant.put (c.loop-entry.entry-index + 1) refl c.in_ok-put_entry.ensures.puts;
  later = omega (arith, c.loop-entry.invariant.later, c.put_entry.ensures.cause.later);
  steady_still = λ steady. (c.put_entry.ensures.steady (c.loop-entry.invariant.steady_still steady)).0;
}

pub returns-in_err-put_entry-clause-puts : goal.returns-in_err-put_entry-clause-puts
returns-in_err-put_entry-clause-puts g c =
    let p = err_from_is_err_and c.from_residual.result c.from_residual.ensures.1 in
    rw (p.1, p.2) (entry_stops c.args.collection.now c.args.entries.now c.loop-entry.entry-index c.entry-item.result (g.K.Sink.held c.args.sink.now) (g.K.Sink.held c.loop-entry.sink) (g.K.Sink.held c.put_entry.new.sink)
    c.loop-entry-test.true c.entry-item.is c.loop-entry.invariant.put c.in_err-put_entry.field-0.0 c.in_err-put_entry.ensures.puts)

pub returns-clause-puts : goal.returns-clause-puts
returns-clause-puts g c =
    all_put c.args.collection.now c.args.entries.now c.loop-entry.entry-index (g.K.Sink.held c.args.sink.now) (g.K.Sink.held c.loop-entry.sink) c.loop-entry-test.false c.loop-entry.invariant.put
