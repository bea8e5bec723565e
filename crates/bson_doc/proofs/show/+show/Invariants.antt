use Rattle.std.proofs.Common.{◌≤◌, ◌+◌, ◌*◌}
use Rattle.bson_doc.specs.Tree.{fields_from, trees_from, tree_size, fields_size, trees_size}
use Rattle.bson_doc.specs.View.{tree_of}
use Rattle.bson_doc.proofs.show.+show.Given as goal

abbrev pub decreases-show_value : goal.decreases-show_value
decreases-show_value g l = 2 * tree_size (tree_of l.value.now) + 1

abbrev pub decreases-show_array : goal.decreases-show_array
decreases-show_array g l = 2 * trees_size l.items.now

abbrev pub decreases-show_document : goal.decreases-show_document
decreases-show_document g l = 2 * fields_size l.document.now

abbrev pub invariant-show_array-loop-place : goal.invariant-show_array-loop-place
invariant-show_array-loop-place g l = trees_size (trees_from l.place l.items) ≤ trees_size l.items

abbrev pub invariant-show_document-loop-place : goal.invariant-show_document-loop-place
invariant-show_document-loop-place g l = fields_size (fields_from l.place l.document) ≤ fields_size l.document
