use Rattle.std.proofs.Common.{◌≡◌, false}
use Rattle.bson_doc.specs.Tree.{fields_from}
use Rattle.bson_doc.specs.Same.{same_fields}
use Rattle.bson_doc.proofs.same.documents_differ_at_a_glance.Given as goal

abbrev pub invariant-loop-place : goal.invariant-loop-place
invariant-loop-place l =
    same_fields (fields_from l.place l.one) (fields_from l.place l.two) ≡ false → same_fields l.one l.two ≡ false
