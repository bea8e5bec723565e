use Rattle.std.proofs.Common.{◌≡◌, ◌+◌, ◌*◌, ◌≤◌, ◌++◌, vec_capacity}
use Rattle.bson_doc.specs.Tree.{fields_from, fields_size, trees_from, trees_size, tree_size}
use Rattle.bson_doc.specs.View.{tree_of}
use Rattle.bson_doc.specs.Length.{fields_length, items_length}
use Rattle.bson_codec.specs.Spelling.{fields_bytes, items_bytes}
use Rattle.bson_codec.proofs.writing.+write.Given as goal

abbrev pub decreases-write : goal.decreases-write
decreases-write l = 3 * fields_size l.document.now

abbrev pub decreases-write_items : goal.decreases-write_items
decreases-write_items l = 3 * trees_size l.items.now

abbrev pub decreases-write_value : goal.decreases-write_value
decreases-write_value l = 3 * tree_size (tree_of l.value.now) + 1

abbrev pub decreases-put_field : goal.decreases-put_field
decreases-put_field l = 3 * tree_size (tree_of l.value.now) + 2

abbrev pub invariant-write-loop-place : goal.invariant-write-loop-place
invariant-write-loop-place l =
    (l.out.items ++ fields_bytes (fields_from l.place l.document) ≡ l.initial.out.items ++ fields_bytes l.document)
    × (fields_size (fields_from l.place l.document) ≤ fields_size l.document)
    × (fields_length (fields_from l.place l.document) ≤ fields_length l.document)
    × (vec_capacity l.initial.out ≤ vec_capacity l.out)

abbrev pub invariant-write_items-loop-place : goal.invariant-write_items-loop-place
invariant-write_items-loop-place l =
    (l.out.items ++ items_bytes l.place (trees_from l.place l.items) ≡ l.initial.out.items ++ items_bytes 0 l.items)
    × (trees_size (trees_from l.place l.items) ≤ trees_size l.items)
    × (items_length l.place (trees_from l.place l.items) ≤ items_length 0 l.items)
    × (vec_capacity l.initial.out ≤ vec_capacity l.out)
