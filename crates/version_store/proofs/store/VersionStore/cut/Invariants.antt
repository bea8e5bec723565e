use Rattle.version_store.specs.Cuts.{left_by}
use Rattle.version_store.proofs.StoreLemmas.{ChangedUpTo}
use Rattle.version_store.proofs.store.VersionStore.cut.Given as goal

-- the shards so far are changed, and the others are as they were
abbrev pub invariant-loop-shard : goal.invariant-loop-shard
invariant-loop-shard l = ChangedUpTo l.initial.shard-items l.shard-items (left_by l.cut) l.shard-index
