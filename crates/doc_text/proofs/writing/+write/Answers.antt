use Rattle.std.proofs.Common.{◌+◌, ◌++◌, arith}
use Rattle.std.specs.Prelude.{string_bytes, codes}
use Rattle.std.proofs.lemmas.Grind.{common_steps}
use Rattle.bson_doc.specs.Tree.{document, fields_from, trees_from}
use Rattle.bson_doc.specs.View.{tree_of}
use Rattle.bson_doc.proofs.DocLemmas.{fields_from-end, trees_from-end}
use Rattle.doc_text.specs.Printing.{printed_fields, printed_items}
use Rattle.doc_text.specs.Spelling.{IsLawful, AreAllLawful}
use Rattle.doc_text.proofs.Printed.{item_written, field_written, array_written, document_written, item_smaller, field_smaller}
use Rattle.doc_text.proofs.Results.{always}
use Rattle.doc_text.proofs.writing.+write.Goals as goal

pub write_items-write-requires : goal.write_items-write-requires
write_items-write-requires t c =
    (omega (arith, c.decreases, item_smaller c.loop-place.place c.args.items.now (trees_from (c.loop-place.place + 1) c.args.items.now) (tree_of c.in-Some.value.now) c.in-Some.ensures), tt)

pub write_items-loop-place-preserved : goal.write_items-loop-place-preserved
write_items-loop-place-preserved t c =
    record {
      written = rw (c.in_ok-write.ensures.written, c.in_ok-write_separator.ensures) (item_written c.loop-place.place c.args.items.now (trees_from (c.loop-place.place + 1) c.args.items.now) (tree_of c.in-Some.value.now) (string_bytes c.loop-place.out) ((string_bytes c.args.out.now ++ codes "[") ++ printed_items c.args.items.now) c.in-Some.ensures c.loop-place.invariant.written);
      lawful = λ later. c.loop-place.invariant.lawful (rw c.in-Some.ensures (c.in_ok-write.ensures.lawful, later));
    }

pub write_items-returns-clause-written : goal.write_items-returns-clause-written
write_items-returns-clause-written t c =
    let end = trees_from-end c.args.items.now c.loop-place.place (omega (arith, c.loop-place-test.false, c.len-place-end.ensures)) in
    let whole = array_written c.loop-place.place c.args.items.now (string_bytes c.loop-place.out) (string_bytes c.args.out.now) end c.loop-place.invariant.written in
    grind (arith, common_steps)

pub write_items-returns-clause-lawful : goal.write_items-returns-clause-lawful
write_items-returns-clause-lawful t c =
    let end = trees_from-end c.args.items.now c.loop-place.place (omega (arith, c.loop-place-test.false, c.len-place-end.ensures)) in
    always c.push_str-2.result (AreAllLawful c.args.items.now) (c.loop-place.invariant.lawful (rw end tt))

pub write_fields-write-requires : goal.write_fields-write-requires
write_fields-write-requires t c =
    (omega (arith, c.decreases, field_smaller c.loop-place.place c.args.fields.now (fields_from (c.loop-place.place + 1) c.args.fields.now) c.in-Some.name.now (tree_of c.in-Some.value.now) c.in-Some.ensures), tt)

pub write_fields-loop-place-preserved : goal.write_fields-loop-place-preserved
write_fields-loop-place-preserved t c =
    record {
      written = rw (c.in_ok-write.ensures.written, c.in_ok-write_key.ensures, c.in_ok-write_separator.ensures) (field_written c.loop-place.place c.args.fields.now (fields_from (c.loop-place.place + 1) c.args.fields.now) c.in-Some.name.now (tree_of c.in-Some.value.now) (string_bytes c.loop-place.out) ((string_bytes c.args.out.now ++ codes "{") ++ printed_fields c.args.fields.now) c.in-Some.ensures c.loop-place.invariant.written);
      lawful = λ later. c.loop-place.invariant.lawful (rw c.in-Some.ensures (c.in_ok-write.ensures.lawful, later));
    }

pub write_fields-returns-clause-written : goal.write_fields-returns-clause-written
write_fields-returns-clause-written t c =
    let end = fields_from-end c.args.fields.now c.loop-place.place (omega (arith, c.loop-place-test.false, c.len-place-end.ensures)) in
    let whole = document_written c.loop-place.place c.args.fields.now (string_bytes c.loop-place.out) (string_bytes c.args.out.now) end c.loop-place.invariant.written in
    grind (arith, common_steps)

pub write_fields-returns-clause-lawful : goal.write_fields-returns-clause-lawful
write_fields-returns-clause-lawful t c =
    let end = fields_from-end c.args.fields.now c.loop-place.place (omega (arith, c.loop-place-test.false, c.len-place-end.ensures.count)) in
    always c.push_str-2.result (IsLawful (document c.args.fields.now)) (c.recall_sound.ensures.0, c.loop-place.invariant.lawful (rw end tt))
