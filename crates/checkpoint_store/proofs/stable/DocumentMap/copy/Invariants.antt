use Rattle.checkpoint_store.proofs.CopyLemmas.{CopiedSoFar}
use Rattle.checkpoint_store.proofs.stable.DocumentMap.copy.Given as goal

abbrev pub invariant-loop-ns : goal.invariant-loop-ns
invariant-loop-ns l = CopiedSoFar l.initial.ns-iterator l.ns-iterator l.copies
