use Rattle.std.proofs.Common.{ap, ◌∙◌}
use Rattle.std.proofs.lemmas.List.{take_rest}
use Rattle.rs_io.proofs.PutSoFar.{put_more, put_still}
use Rattle.rs_io.proofs.standard.StdSinkSink.put.Goals as goal
use Rattle.rs_io.proofs.standard.StdSinkSink.put.Goals.{in-Ok, in-Err}

pub tries-preserved : goal.tries-preserved
tries-preserved g c =
    elim c.match-write.branch [
      | in-Ok w ↦ (put_more _ _ _ _ _ _ w.in-Ok.count c.tries.invariant.0 w.in-Ok.ensures.bytes (ap (λ r. r.now) w.rest-is ∙ take_rest c.tries.rest.now w.in-Ok.count), c.tries.invariant.1)
      | in-Err w ↦ (rw w.rest-is (put_still _ _ _ _ _ c.tries.invariant.0 w.in-Err.ensures.bytes), c.tries.invariant.1)
    ]
