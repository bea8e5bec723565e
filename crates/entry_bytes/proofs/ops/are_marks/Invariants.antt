use Rattle.std.proofs.Common.{◌≡◌}
use Rattle.bson_doc.specs.Tree.{fields_from}
use Rattle.entry_bytes.specs.Parts.{are_marks}
use Rattle.entry_bytes.proofs.ops.are_marks.Given as goal

abbrev pub invariant-loop-place : goal.invariant-loop-place
invariant-loop-place l = are_marks (fields_from l.place l.unsets) ≡ are_marks l.unsets
