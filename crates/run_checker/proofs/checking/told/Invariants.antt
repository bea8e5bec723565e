use Rattle.std.proofs.Common.{length}
use Rattle.run_checker.proofs.TellingLemmas.{SoFar}
use Rattle.run_checker.proofs.checking.told.Given as goal

abbrev pub invariant-loop-rest : goal.invariant-loop-rest
invariant-loop-rest l = SoFar l.fn.sizes l.bytes l.machine l.rest l.line l.count

abbrev pub decreases-loop-rest : goal.decreases-loop-rest
decreases-loop-rest l = length l.rest
