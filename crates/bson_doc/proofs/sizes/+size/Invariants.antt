use Rattle.std.proofs.Common.{◌≡◌, ◌+◌, ◌*◌, ◌^◌, ◌<◌, ◌≤◌, min}
use Rattle.bson_doc.specs.Tree.{fields_from, fields_size, trees_from, trees_size, tree_size}
use Rattle.bson_doc.specs.View.{tree_of}
use Rattle.bson_doc.specs.Length.{fields_length, items_length, document_length}
use Rattle.bson_doc.proofs.sizes.+size.Given as goal

abbrev pub decreases-size_up_to : goal.decreases-size_up_to
decreases-size_up_to l = 2 * fields_size l.document.now

abbrev pub decreases-items_size : goal.decreases-items_size
decreases-items_size l = 2 * trees_size l.items.now

abbrev pub decreases-value_size : goal.decreases-value_size
decreases-value_size l = 2 * tree_size (tree_of l.value.now) + 1

abbrev pub invariant-size_up_to-loop-place : goal.invariant-size_up_to-loop-place
invariant-size_up_to-loop-place l =
    (min (l.total + fields_length (fields_from l.place l.document)) l.most ≡ min (document_length l.document) l.most)
    × (fields_size (fields_from l.place l.document) ≤ fields_size l.document)
    × (l.total < 2 ^ 64)

abbrev pub invariant-items_size-loop-place : goal.invariant-items_size-loop-place
invariant-items_size-loop-place l =
    (min (l.total + items_length l.place (trees_from l.place l.items)) l.most ≡ min (5 + items_length 0 l.items) l.most)
    × (trees_size (trees_from l.place l.items) ≤ trees_size l.items)
    × (l.total < 2 ^ 64)
