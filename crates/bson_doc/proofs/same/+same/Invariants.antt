use Rattle.std.proofs.Common.{◌≡◌, ◌≤◌, ◌+◌, ◌*◌}
use Rattle.bson_doc.specs.Tree.{fields_from, trees_from, tree_size, fields_size, trees_size}
use Rattle.bson_doc.specs.View.{tree_of}
use Rattle.bson_doc.specs.Same.{same_fields, same_items}
use Rattle.bson_doc.proofs.same.+same.Given as goal

abbrev pub decreases-same_value : goal.decreases-same_value
decreases-same_value l = 2 * tree_size (tree_of l.one.now) + 1

abbrev pub decreases-same_array : goal.decreases-same_array
decreases-same_array l = 2 * trees_size l.one.now

abbrev pub decreases-same_document : goal.decreases-same_document
decreases-same_document l = 2 * fields_size l.one.now

abbrev pub invariant-same_array-loop-place : goal.invariant-same_array-loop-place
invariant-same_array-loop-place l =
    record {
      same : same_items (trees_from l.place l.one) (trees_from l.place l.two) ≡ same_items l.one l.two;
      within : trees_size (trees_from l.place l.one) ≤ trees_size l.one;
    }

abbrev pub invariant-same_document-loop-place : goal.invariant-same_document-loop-place
invariant-same_document-loop-place l =
    record {
      same : same_fields (fields_from l.place l.one) (fields_from l.place l.two) ≡ same_fields l.one l.two;
      within : fields_size (fields_from l.place l.one) ≤ fields_size l.one;
    }
