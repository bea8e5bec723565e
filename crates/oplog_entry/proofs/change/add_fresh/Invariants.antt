use Rattle.std.proofs.Common.{◌≡◌}
use Rattle.bson_doc.specs.Tree.{fields_from}
use Rattle.oplog_entry.specs.Walk.{join, fresh}
use Rattle.oplog_entry.proofs.change.add_fresh.Given as goal

abbrev pub invariant-loop-place : goal.invariant-loop-place
invariant-loop-place l =
    join l.out (fresh l.gone l.document (fields_from l.place l.sets)) ≡ join l.initial.out (fresh l.gone l.document l.sets)
