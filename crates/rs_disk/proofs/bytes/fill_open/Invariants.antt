use Rattle.std.proofs.Common.{◌≡◌, ℕ, ◌+◌, ◌-◌, ◌%◌, false}
use Rattle.std.specs.Prelude.{◌&&◌, ◌||◌, nat_le, nat_lt, if◌then◌else◌, slice_index, slice_index_or, vec_len, vec_capacity}
use Rattle.rs_disk.proofs.bytes.fill_open.Given as goal

abbrev pub invariant-loop-place : goal.invariant-loop-place
invariant-loop-place l = record {
  len : vec_len l.bytes ≡ vec_len l.initial.bytes;
  capacity : vec_capacity l.bytes ≡ vec_capacity l.initial.bytes;
  bytes : (k : ℕ) → slice_index l.bytes.items k
      ≡ (if nat_le l.start k && nat_lt k l.place && (nat_le l.least k || slice_index_or l.marks (k - l.start) false) then (l.pick + k) % 256 else slice_index l.initial.bytes.items k);
}
