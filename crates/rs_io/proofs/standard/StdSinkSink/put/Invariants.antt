use Rattle.std.proofs.Common.{◌≡◌}
use Rattle.rs_io.proofs.PutSoFar.{PutSoFar}
use Rattle.rs_io.proofs.standard.StdSinkSink.put.Given as goal

abbrev pub invariant-tries : goal.invariant-tries
invariant-tries g l =
    PutSoFar (g.W.Write.contents l.initial.self.writer) (g.W.Write.contents l.self.writer) l.piece l.rest × (l.self.faults ≡ l.initial.self.faults)
