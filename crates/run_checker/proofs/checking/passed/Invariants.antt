use Rattle.run_checker.proofs.PassingLemmas.{PassedSoFar}
use Rattle.run_checker.proofs.checking.passed.Given as goal

abbrev pub invariant-loop-place : goal.invariant-loop-place
invariant-loop-place l = PassedSoFar l.fn.line l.reply l.rest l.next l.place
