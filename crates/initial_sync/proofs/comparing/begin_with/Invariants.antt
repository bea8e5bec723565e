use Rattle.initial_sync.proofs.EntryLemmas.{Agree}
use Rattle.initial_sync.proofs.comparing.begin_with.Given as goal

abbrev pub invariant-loop-place : goal.invariant-loop-place
invariant-loop-place l = Agree l.front l.entries l.place
