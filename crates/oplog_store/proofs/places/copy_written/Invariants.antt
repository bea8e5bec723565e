use Rattle.std.proofs.Common.{◌≡◌, ◌++◌, take}
use Rattle.oplog_store.specs.Places.{written}
use Rattle.oplog_store.proofs.places.copy_written.Given as goal

abbrev pub invariant-loop-place : goal.invariant-loop-place
invariant-loop-place l = l.copies.items ≡ l.initial.copies.items ++ written (take l.place l.beyond.items)
