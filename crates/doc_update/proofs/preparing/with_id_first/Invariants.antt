use Rattle.std.proofs.Common.{◌≡◌, [], ◌∷◌, codes}
use Rattle.bson_doc.specs.Tree.{no_fields, field, fields_from}
use Rattle.bson_doc.specs.View.{tree_of}
use Rattle.oplog_entry.specs.Walk.{join, staying}
use Rattle.doc_update.proofs.preparing.with_id_first.Given as goal

abbrev pub invariant-loop-place : goal.invariant-loop-place
invariant-loop-place l =
    join l.whole (staying (codes "_id" ∷ []) no_fields (fields_from l.place l.doc)) ≡ field (codes "_id") (tree_of l.id) (staying (codes "_id" ∷ []) no_fields l.doc)
