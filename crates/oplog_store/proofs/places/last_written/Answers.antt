use Rattle.std.proofs.Common.{◌++◌, arith, take}
use Rattle.oplog_store.specs.Places.{written}
use Rattle.oplog_store.proofs.PlaceLemmas.{last_more}
use Rattle.oplog_store.proofs.places.last_written.Goals as goal

pub loop-place-preserved : goal.loop-place-preserved
loop-place-preserved c = λ settled is.
    last_more settled c.args.beyond.now.items c.loop-place.place c.index.result.now c.written_or-last.result (omega (arith, c.loop-place-test.true, c.requires)) c.index.ensures
    (c.written_or-last.ensures (settled ++ written (take c.loop-place.place c.args.beyond.now.items)) (c.loop-place.invariant settled is))
