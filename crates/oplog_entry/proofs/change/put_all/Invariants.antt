use Rattle.std.proofs.Common.{◌≡◌}
use Rattle.bson_doc.specs.Tree.{fields_from}
use Rattle.oplog_entry.specs.Step.{with_sets}
use Rattle.oplog_entry.proofs.change.put_all.Given as goal

abbrev pub invariant-loop-place : goal.invariant-loop-place
invariant-loop-place l = with_sets l.out (fields_from l.place l.sets) ≡ with_sets l.initial.out l.sets
