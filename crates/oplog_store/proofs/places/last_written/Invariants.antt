use Rattle.std.proofs.Common.{◌≡◌, ◌++◌, List, take}
use Rattle.oplog_entry.specs.Visible.{last_of}
use Rattle.oplog_entry.specs.declared.entry.Entry.{Entry}
use Rattle.oplog_store.specs.Places.{written}
use Rattle.oplog_store.proofs.places.last_written.Given as goal

abbrev pub invariant-loop-place : goal.invariant-loop-place
invariant-loop-place l = (settled : List Entry) → l.fn.other ≡ last_of settled → l.last ≡ last_of (settled ++ written (take l.place l.beyond.items))
