-- The jobs of a batch: each shard with the entries on its documents.
use Rattle.std.specs.Prelude.{◌≡◌, ◌<◌, ℕ, List, Option, Some, length, slice_index_or}
use Rattle.std.specs.Result.{IsOk}
use mathlib.Core.Option.{some}
use lib.ListN.{get_elem?}
use Rattle.oplog_entry.specs.declared.entry.Entry.{Entry}
use Rattle.version_store.specs.Shards.{Shard}
use Rattle.batch_applier.specs.declared.shard_job.ShardJob.{ShardJob}

-- each shard is in the job of its number, with its part
abbrev pub AreJobs : List Shard → List (List Entry) → List (Option ShardJob) → Type 0
AreJobs shards parts jobs = (length jobs ≡ length shards)
    × ((k : ℕ) (s : Shard) (p : List Entry) → k < length shards
    → (job : ShardJob) × (get_elem? jobs k ≡ some (Some job)) × (job.shard ≡ slice_index_or shards k s)
    × (job.part.now ≡ slice_index_or parts k p))

-- each slot has a job
abbrev pub AreAllJobs : List (Option ShardJob) → Type 0
AreAllJobs jobs = (k : ℕ) → k < length jobs → (job : ShardJob) × (get_elem? jobs k ≡ some (Some job))

-- each shard is that of the job of its number
abbrev pub AreBack : List (Option ShardJob) → List Shard → Type 0
AreBack jobs shards = (length shards ≡ length jobs)
    × ((k : ℕ) (job : ShardJob) (s : Shard) → get_elem? jobs k ≡ some (Some job)
    → slice_index_or shards k s ≡ job.shard)

-- no job ran out of memory
abbrev pub AreAllApplied : List (Option ShardJob) → Type 0
AreAllApplied jobs = (k : ℕ) (job : ShardJob) → get_elem? jobs k ≡ some (Some job) → IsOk job.applied
