use Rattle.std.proofs.Common.{◌≡◌, ◌≤◌, ℕ, Some, length, take}
use Rattle.std.specs.Prelude.{slice_index_or}
use mathlib.Core.Option.{some}
use lib.ListN.{get_elem?}
use Rattle.version_store.specs.Shards.{Shard}
use Rattle.batch_applier.specs.declared.shard_job.ShardJob.{ShardJob}
use Rattle.batch_applier.proofs.shard_job.give_back.Given as goal

abbrev pub invariant-loop-job : goal.invariant-loop-job
invariant-loop-job l = (l.jobs.items ≡ take l.jobs.len l.fn.jobs.items) × (length l.shards ≡ length l.fn.shards)
    × ((k : ℕ) (job : ShardJob) (s : Shard) → l.jobs.len ≤ k → get_elem? l.fn.jobs.items k ≡ some (Some job) → slice_index_or l.shards k s ≡ job.shard)

abbrev pub decreases-loop-job : goal.decreases-loop-job
decreases-loop-job l = goal.left-loop-job l
