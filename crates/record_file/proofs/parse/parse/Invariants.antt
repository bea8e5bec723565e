use Rattle.std.proofs.Common.{◌≡◌, ℕ, List, ◌++◌, length}
use Rattle.record_file.specs.Records.{AreOpen, AreInFront, lists}
use Rattle.record_file.proofs.parse.parse.Given as goal

abbrev pub invariant-loop-piece : goal.invariant-loop-piece
invariant-loop-piece l = record {
  read : (front : List ℕ) × AreOpen (lists l.records.items) front × (l.bytes ≡ front ++ l.rest);
  left : (records : List (List ℕ)) × AreInFront l.rest records;
}

abbrev pub decreases-loop-piece : goal.decreases-loop-piece
decreases-loop-piece l = length l.rest
