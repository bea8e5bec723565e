use Rattle.std.proofs.Common.{◌≡◌}
use Rattle.bson_doc.specs.Tree.{fields_from}
use Rattle.oplog_entry.specs.Walk.{join, staying}
use Rattle.oplog_entry.proofs.change.staying.Given as goal

abbrev pub invariant-loop-place : goal.invariant-loop-place
invariant-loop-place l =
    join l.out (staying l.gone l.sets (fields_from l.place l.document)) ≡ staying l.gone l.sets l.document
