use Rattle.std.proofs.Common.{◌≡◌, ◌+◌, ◌*◌, ◌++◌}
use Rattle.std.specs.Prelude.{string_bytes, codes}
use Rattle.bson_doc.specs.Tree.{fields_from, trees_from, tree_size, fields_size, trees_size}
use Rattle.bson_doc.specs.View.{tree_of}
use Rattle.doc_text.specs.Printing.{printed_fields, printed_items}
use Rattle.doc_text.specs.Spelling.{AreLawful, AreAllLawful}
use Rattle.doc_text.proofs.Printed.{items_left, fields_left}
use Rattle.doc_text.proofs.writing.+write.Given as goal

abbrev pub decreases-write : goal.decreases-write
decreases-write l = 2 * tree_size (tree_of l.value.now) + 1

abbrev pub decreases-write_items : goal.decreases-write_items
decreases-write_items l = 2 * trees_size l.items.now

abbrev pub decreases-write_fields : goal.decreases-write_fields
decreases-write_fields l = 2 * fields_size l.fields.now

-- what is written, and what is still to be written, make the whole array; and it is lawful if what is left is
abbrev pub invariant-write_items-loop-place : goal.invariant-write_items-loop-place
invariant-write_items-loop-place l = record {
  written : string_bytes l.out ++ items_left l.place (trees_from l.place l.items) ≡ (string_bytes l.fn.out ++ codes "[") ++ printed_items l.items;
  lawful : AreAllLawful (trees_from l.place l.items) → AreAllLawful l.items;
}

abbrev pub invariant-write_fields-loop-place : goal.invariant-write_fields-loop-place
invariant-write_fields-loop-place l = record {
  written : string_bytes l.out ++ fields_left l.place (fields_from l.place l.fields) ≡ (string_bytes l.fn.out ++ codes "{") ++ printed_fields l.fields;
  lawful : AreLawful (fields_from l.place l.fields) → AreLawful l.fields;
}
