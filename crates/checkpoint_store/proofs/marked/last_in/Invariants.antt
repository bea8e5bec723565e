use Rattle.std.proofs.Common.{◌≡◌, List, map}
use Rattle.std.specs.Prelude.{All}
use Rattle.record_file.specs.Records.{lists}
use Rattle.checkpoint_store.specs.Layout.{Record, record_bytes}
use Rattle.checkpoint_store.specs.Marked.{Marks}
use Rattle.checkpoint_store.specs.Spelled.{IsRecord}
use Rattle.checkpoint_store.proofs.marked.last_in.Given as goal

abbrev pub invariant-loop-place : goal.invariant-loop-place
invariant-loop-place l =
    (records : List Record) → All IsRecord records → lists l.pieces ≡ map record_bytes records → Marks records l.place l.found.from l.found.to l.found.begun
