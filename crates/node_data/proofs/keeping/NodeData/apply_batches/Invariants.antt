use Rattle.node_data.proofs.BatchesLemmas.{AppliedSoFar}
use Rattle.node_data.proofs.keeping.NodeData.apply_batches.Given as goal

-- all but those that are left are applied
abbrev pub invariant-loop-left : goal.invariant-loop-left
invariant-loop-left g l = AppliedSoFar l.fn.self l.self l.fn.count l.left

abbrev pub decreases-loop-left : goal.decreases-loop-left
decreases-loop-left g l = l.left
