use Rattle.sync_copy.proofs.TellLemmas.{ListedSoFar}
use Rattle.sync_copy.proofs.telling.documents_of.Given as goal

abbrev pub invariant-loop-place : goal.invariant-loop-place
invariant-loop-place l = ListedSoFar l.initial.place-iterator l.place-iterator l.documents
