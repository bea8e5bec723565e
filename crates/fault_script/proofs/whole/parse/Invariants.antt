use Rattle.std.proofs.Common.{length}
use Rattle.fault_script.proofs.WholeRead.{ReadSoFar}
use Rattle.fault_script.proofs.whole.parse.Given as goal

abbrev pub invariant-loop-rest : goal.invariant-loop-rest
invariant-loop-rest l = ReadSoFar l.bytes l.reading l.number l.rest

abbrev pub decreases-loop-rest : goal.decreases-loop-rest
decreases-loop-rest l = length l.rest
