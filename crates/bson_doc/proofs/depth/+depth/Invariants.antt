use Rattle.std.proofs.Common.{◌≡◌, ◌+◌, ◌-◌, ◌*◌, ◌≤◌, min, max}
use Rattle.bson_doc.specs.Tree.{fields_from, fields_size, trees_from, trees_size, tree_size}
use Rattle.bson_doc.specs.View.{tree_of}
use Rattle.bson_doc.specs.Length.{fields_levels, items_levels}
use Rattle.bson_doc.proofs.depth.+depth.Given as goal

abbrev pub decreases-item_levels : goal.decreases-item_levels
decreases-item_levels l = 2 * trees_size l.items.now

abbrev pub decreases-levels : goal.decreases-levels
decreases-levels l = 2 * fields_size l.document.now

abbrev pub decreases-levels_of : goal.decreases-levels_of
decreases-levels_of l = 2 * tree_size (tree_of l.value.now) + 1

abbrev pub invariant-item_levels-loop-place : goal.invariant-item_levels-loop-place
invariant-item_levels-loop-place l =
    (min (max l.deepest (items_levels (trees_from l.place l.items))) (l.most - 1) ≡ min (items_levels l.items) (l.most - 1))
    × (l.deepest ≤ l.most - 1)
    × (trees_size (trees_from l.place l.items) ≤ trees_size l.items)

abbrev pub invariant-levels-loop-place : goal.invariant-levels-loop-place
invariant-levels-loop-place l =
    (min (max l.deepest (fields_levels (fields_from l.place l.document))) (l.most - 1) ≡ min (fields_levels l.document) (l.most - 1))
    × (l.deepest ≤ l.most - 1)
    × (fields_size (fields_from l.place l.document) ≤ fields_size l.document)
