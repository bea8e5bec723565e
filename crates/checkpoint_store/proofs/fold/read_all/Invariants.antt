use Rattle.std.proofs.Common.{◌≡◌, List, map, take}
use Rattle.std.specs.Prelude.{All}
use Rattle.record_file.specs.Records.{lists}
use Rattle.checkpoint_store.specs.Folded.{so_far}
use Rattle.checkpoint_store.specs.Layout.{Record, record_bytes}
use Rattle.checkpoint_store.specs.Spelled.{IsRecord}
use Rattle.checkpoint_store.specs.Marked.{come_to}
use Rattle.checkpoint_store.proofs.fold.read_all.Given as goal

abbrev pub invariant-loop-piece : goal.invariant-loop-piece
invariant-loop-piece l =
    (records : List Record) → All IsRecord records → lists l.pieces ≡ map record_bytes records → so_far l.fold ≡ come_to (take l.piece-index records)
