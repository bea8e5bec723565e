use Rattle.std.proofs.Common.{◌≡◌, ◌<◌, ℕ, List, [], vec_len, slice_index_or}
use Rattle.oplog_entry.specs.declared.entry.Entry.{Entry}
use Rattle.batch_applier.proofs.touches.empty_parts.Given as goal

abbrev pub invariant-loop : goal.invariant-loop
invariant-loop l = (vec_len l.parts ≡ l.counter) × ((k : ℕ) (d : List Entry) → k < l.counter → slice_index_or l.parts.items k d ≡ [])
