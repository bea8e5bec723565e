use Rattle.node_data.proofs.RestoreLemmas.{StoredSoFar}
use Rattle.node_data.proofs.restoring.stored.Given as goal

abbrev pub invariant-loop-ns : goal.invariant-loop-ns
invariant-loop-ns l = StoredSoFar l.fn.at l.fn.documents.entries l.ns-iterator l.store
