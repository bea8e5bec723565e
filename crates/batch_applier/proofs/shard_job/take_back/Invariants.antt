use Rattle.std.proofs.Common.{◌≡◌, ◌<◌, ◌≤◌, ℕ, Some, length, true, false}
use Rattle.std.specs.Prelude.{slice_index_or, OnOk}
use Rattle.std.specs.Result.{IsOk}
use Rattle.std.specs.Mem.Slots.{slots_items, slots_len, slots_filled}
use mathlib.Core.Option.{some}
use lib.ListN.{get_elem?}
use Rattle.version_store.specs.Shards.{Shard}
use Rattle.batch_applier.specs.declared.shard_job.ShardJob.{ShardJob}
use Rattle.batch_applier.proofs.shard_job.take_back.Given as goal

abbrev pub invariant-loop-place : goal.invariant-loop-place
invariant-loop-place l = (slots_items l.closed.slots ≡ slots_items l.fn.closed.slots) × (slots_len l.closed.slots ≡ slots_len l.fn.closed.slots) × (length l.shards ≡ length l.fn.shards)
    × ((k : ℕ) → l.place ≤ k → k < slots_len l.fn.closed.slots → slice_index_or (slots_filled l.closed.slots) k false ≡ true)
    × ((k : ℕ) → k < l.place → slice_index_or (slots_filled l.closed.slots) k false ≡ false)
    × ((k : ℕ) (job : ShardJob) (s : Shard) → k < l.place → get_elem? (slots_items l.fn.closed.slots) k ≡ some (Some job) → slice_index_or l.shards k s ≡ job.shard)
    × OnOk l.all ((k : ℕ) (job : ShardJob) → k < l.place → get_elem? (slots_items l.fn.closed.slots) k ≡ some (Some job) → IsOk job.applied)
