use Rattle.std.proofs.Common.{◌-◌, length, suc, arith, rules}
use Rattle.std.proofs.lemmas.Result.{err_from_is_err_and}
use Rattle.bson_doc.specs.Tree.{no_fields, no_items, with_field, with_item}
use Rattle.bson_doc.specs.View.{tree_of}
use Rattle.doc_text.specs.Values.{field_at, item_at, document_at, array_at, value_at}
use Rattle.doc_text.proofs.Members.{opened, nothing, failed, ended, uncommaed, further, item_failed, item_read, field_unnamed, field_unvalued, field_read}
use Rattle.doc_text.proofs.values.+value.Goals as goal

pub array-returns-in-Some-clause-gives : goal.array-returns-in-Some-clause-gives
array-returns-in-Some-clause-gives t c =
    rw c.new-items.ensures (nothing (item_at (value_at c.args.levels)) 91 93 no_items c.args.text.now c.in_ok-inside.inside.now c.in-Some.rest.now c.in_ok-inside.ensures.gives c.in-Some.ensures.gives)

pub array-loop-items-init : goal.array-loop-items-init
array-loop-items-init t c =
    (c.spaces-rest.utf8, omega (arith, c.spaces-rest.ensures.shorter, c.in_ok-inside.ensures.shorter), (suc (length c.spaces-rest.result.now), omega arith, rw c.new-items.ensures (opened (item_at (value_at c.args.levels)) 91 93 no_items c.args.text.now c.in_ok-inside.inside.now c.spaces-rest.result.now c.in_ok-inside.ensures.gives c.in_default.ensures.gives c.spaces-rest.ensures.gives)))

pub array-returns-in_err-value-clause-gives : goal.array-returns-in_err-value-clause-gives
array-returns-in_err-value-clause-gives t c =
    let p = err_from_is_err_and c.from_residual-in_err-value.result c.from_residual-in_err-value.ensures.1 in
    let kept = c.loop-items.invariant.2 in
    rw (p.1, p.2) (failed (item_at (value_at c.args.levels)) 93 kept.0 c.loop-items.items c.loop-items.rest.now c.in_err-value.field-0.0 (array_at (value_at c.args.levels) c.args.text.now) kept.1 kept.2 (item_failed (value_at c.args.levels) c.loop-items.items c.loop-items.rest.now c.in_err-value.field-0.0 c.in_err-value.ensures.gives))

pub array-returns-in-Some-end-clause-gives : goal.array-returns-in-Some-end-clause-gives
array-returns-in-Some-end-clause-gives t c =
    let kept = c.loop-items.invariant.2 in
    rw c.in_ok-push.ensures.ok (ended (item_at (value_at c.args.levels)) 93 kept.0 c.loop-items.items (with_item c.loop-items.items (tree_of c.in_ok-value.value)) c.loop-items.rest.now c.in_ok-value.after.now c.in-Some-end.rest.now (array_at (value_at c.args.levels) c.args.text.now) kept.1 kept.2 (item_read (value_at c.args.levels) c.loop-items.items c.loop-items.rest.now (tree_of c.in_ok-value.value) c.in_ok-value.after.now c.in_ok-value.ensures.gives) c.in-Some-end.ensures.gives)

pub array-returns-in_err-rest-clause-gives : goal.array-returns-in_err-rest-clause-gives
array-returns-in_err-rest-clause-gives t c =
    let p = err_from_is_err_and c.from_residual-in_err-rest.result c.from_residual-in_err-rest.ensures.1 in
    let kept = c.loop-items.invariant.2 in
    rw (p.1, p.2) (uncommaed (item_at (value_at c.args.levels)) 93 kept.0 c.loop-items.items (with_item c.loop-items.items (tree_of c.in_ok-value.value)) c.loop-items.rest.now c.in_ok-value.after.now c.in_err-rest.field-0.0 (array_at (value_at c.args.levels) c.args.text.now) kept.1 kept.2 (item_read (value_at c.args.levels) c.loop-items.items c.loop-items.rest.now (tree_of c.in_ok-value.value) c.in_ok-value.after.now c.in_ok-value.ensures.gives) c.in_default-end.ensures.gives c.in_err-rest.ensures.gives)

pub array-loop-items-preserved : goal.array-loop-items-preserved
array-loop-items-preserved t c =
    let kept = c.loop-items.invariant.2 in
    let next = further (item_at (value_at c.args.levels)) 93 kept.0 c.loop-items.items (with_item c.loop-items.items (tree_of c.in_ok-value.value)) c.loop-items.rest.now c.in_ok-value.after.now c.in_ok-rest.rest.now (array_at (value_at c.args.levels) c.args.text.now) kept.1 kept.2 (item_read (value_at c.args.levels) c.loop-items.items c.loop-items.rest.now (tree_of c.in_ok-value.value) c.in_ok-value.after.now c.in_ok-value.ensures.gives) c.in_default-end.ensures.gives c.in_ok-rest.ensures.gives in
    let within = kept.1 in
    (search rules, omega (arith, within, c.in_ok-value.ensures.shorter, c.in_ok-rest.ensures.shorter, c.loop-items.invariant.1), (kept.0 - 1, omega (arith, within, c.in_ok-value.ensures.shorter, c.in_ok-rest.ensures.shorter), rw c.in_ok-push.ensures.ok next))

pub document-returns-in-Some-clause-gives : goal.document-returns-in-Some-clause-gives
document-returns-in-Some-clause-gives t c =
    rw (c.finish.ensures, c.new-fields.ensures) (nothing (field_at (value_at c.args.levels)) 123 125 no_fields c.args.text.now c.in_ok-inside.inside.now c.in-Some.rest.now c.in_ok-inside.ensures.gives c.in-Some.ensures.gives)

pub document-loop-fields-init : goal.document-loop-fields-init
document-loop-fields-init t c =
    (c.spaces-rest.utf8, omega (arith, c.spaces-rest.ensures.shorter, c.in_ok-inside.ensures.shorter), (suc (length c.spaces-rest.result.now), omega arith, rw c.new-fields.ensures (opened (field_at (value_at c.args.levels)) 123 125 no_fields c.args.text.now c.in_ok-inside.inside.now c.spaces-rest.result.now c.in_ok-inside.ensures.gives c.in_default.ensures.gives c.spaces-rest.ensures.gives)))

pub document-returns-in_err-name-clause-gives : goal.document-returns-in_err-name-clause-gives
document-returns-in_err-name-clause-gives t c =
    let p = err_from_is_err_and c.from_residual-in_err-name.result c.from_residual-in_err-name.ensures.1 in
    let kept = c.loop-fields.invariant.2 in
    rw (p.1, p.2) (failed (field_at (value_at c.args.levels)) 125 kept.0 c.loop-fields.fields c.loop-fields.rest.now c.in_err-name.field-0.0 (document_at (value_at c.args.levels) c.args.text.now) kept.1 kept.2 (field_unnamed (value_at c.args.levels) c.loop-fields.fields c.loop-fields.rest.now c.in_err-name.field-0.0 c.in_err-name.ensures.gives))

pub document-returns-in_err-value-clause-gives : goal.document-returns-in_err-value-clause-gives
document-returns-in_err-value-clause-gives t c =
    let p = err_from_is_err_and c.from_residual-in_err-value.result c.from_residual-in_err-value.ensures.1 in
    let kept = c.loop-fields.invariant.2 in
    rw (p.1, p.2) (failed (field_at (value_at c.args.levels)) 125 kept.0 c.loop-fields.fields c.loop-fields.rest.now c.in_err-value.field-0.0 (document_at (value_at c.args.levels) c.args.text.now) kept.1 kept.2 (field_unvalued (value_at c.args.levels) c.loop-fields.fields c.loop-fields.rest.now c.in_ok-name.name c.in_ok-name.of_value.now c.in_err-value.field-0.0 c.in_ok-name.ensures.gives c.in_err-value.ensures.gives))

pub document-returns-in-Some-end-clause-gives : goal.document-returns-in-Some-end-clause-gives
document-returns-in-Some-end-clause-gives t c =
    let kept = c.loop-fields.invariant.2 in
    rw c.in_ok-finish_with.ensures (ended (field_at (value_at c.args.levels)) 125 kept.0 c.loop-fields.fields (with_field c.loop-fields.fields c.in_ok-name.name (tree_of c.in_ok-value.value)) c.loop-fields.rest.now c.in_ok-value.after.now c.in-Some-end.rest.now (document_at (value_at c.args.levels) c.args.text.now) kept.1 kept.2 (field_read (value_at c.args.levels) c.loop-fields.fields c.loop-fields.rest.now c.in_ok-name.name c.in_ok-name.of_value.now (tree_of c.in_ok-value.value) c.in_ok-value.after.now c.in_ok-name.ensures.gives c.in_ok-value.ensures.gives) c.in-Some-end.ensures.gives)

pub document-returns-in_err-rest-clause-gives : goal.document-returns-in_err-rest-clause-gives
document-returns-in_err-rest-clause-gives t c =
    let p = err_from_is_err_and c.from_residual-in_err-rest.result c.from_residual-in_err-rest.ensures.1 in
    let kept = c.loop-fields.invariant.2 in
    rw (p.1, p.2) (uncommaed (field_at (value_at c.args.levels)) 125 kept.0 c.loop-fields.fields (with_field c.loop-fields.fields c.in_ok-name.name (tree_of c.in_ok-value.value)) c.loop-fields.rest.now c.in_ok-value.after.now c.in_err-rest.field-0.0 (document_at (value_at c.args.levels) c.args.text.now) kept.1 kept.2 (field_read (value_at c.args.levels) c.loop-fields.fields c.loop-fields.rest.now c.in_ok-name.name c.in_ok-name.of_value.now (tree_of c.in_ok-value.value) c.in_ok-value.after.now c.in_ok-name.ensures.gives c.in_ok-value.ensures.gives) c.in_default-end.ensures.gives c.in_err-rest.ensures.gives)

pub document-loop-fields-preserved : goal.document-loop-fields-preserved
document-loop-fields-preserved t c =
    let kept = c.loop-fields.invariant.2 in
    let next = further (field_at (value_at c.args.levels)) 125 kept.0 c.loop-fields.fields (with_field c.loop-fields.fields c.in_ok-name.name (tree_of c.in_ok-value.value)) c.loop-fields.rest.now c.in_ok-value.after.now c.in_ok-rest.rest.now (document_at (value_at c.args.levels) c.args.text.now) kept.1 kept.2 (field_read (value_at c.args.levels) c.loop-fields.fields c.loop-fields.rest.now c.in_ok-name.name c.in_ok-name.of_value.now (tree_of c.in_ok-value.value) c.in_ok-value.after.now c.in_ok-name.ensures.gives c.in_ok-value.ensures.gives) c.in_default-end.ensures.gives c.in_ok-rest.ensures.gives in
    let named = c.in_ok-name.ensures.shorter in
    let within = kept.1 in
    (search rules, omega (arith, within, c.in_ok-value.ensures.shorter, c.in_ok-rest.ensures.shorter, c.loop-fields.invariant.1), (kept.0 - 1, omega (arith, within, c.in_ok-value.ensures.shorter, c.in_ok-rest.ensures.shorter), rw c.in_ok-fields.ensures next))
