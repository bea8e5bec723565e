use Rattle.std.proofs.Common.{◌≡◌}
use Rattle.version_store.proofs.store.VersionStore.list_at.Given as goal

-- the shards are as they were
abbrev pub invariant-loop-shard : goal.invariant-loop-shard
invariant-loop-shard l = l.shard-items ≡ l.initial.shard-items
