use Rattle.std.proofs.Common.{◌≡◌}
use Rattle.bson_doc.specs.Tree.{fields_from}
use Rattle.doc_update.specs.Ordered.{placed_all}
use Rattle.doc_update.proofs.preparing.put_all.Given as goal

abbrev pub invariant-loop-place : goal.invariant-loop-place
invariant-loop-place l = l.sets ≡ placed_all (fields_from l.place l.fields) l.initial.sets
