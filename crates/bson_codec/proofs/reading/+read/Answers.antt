use Rattle.std.proofs.Common.{◌-◌, ℕ, true, false, List, Ok, length, refl, arith}
use Rattle.std.proofs.lemmas.Result.{err_from_is_err_and}
use Rattle.bson_doc.specs.Tree.{no_fields, no_items, document, array}
use Rattle.bson_doc.specs.View.{tree_of}
use Rattle.bson_codec.specs.Reading.{inner_at, fields_in, items_in}
use Rattle.bson_codec.proofs.ReadingLemmas.{Fails-bind, fields-over, fields-bad, fields-stop, fields-next, fields-out, items-over, items-bad, items-stop, items-next, items-out, inner-bad, inner-stop, inner-done, inner-none}
use Rattle.bson_codec.proofs.reading.+read.Goals as goal

pub fields_of-returns-in_err-is_over : goal.fields_of-returns-in_err-is_over
fields_of-returns-in_err-is_over t c =
    let p = err_from_is_err_and c.from_residual.result c.from_residual.ensures.1 in
    let inner = inner_at c.args.levels in
    rw (p.1, p.2) (fields-bad inner (length c.args.bytes.now) c.loop.counter c.loop.fields c.loop.rest.now (fields_in (length c.args.bytes.now) inner no_fields c.args.bytes.now) c.in_err-is_over.field-0.0 c.loop-test.true c.loop.invariant c.in_err-is_over.ensures)

pub fields_of-returns-then-branch : goal.fields_of-returns-then-branch
fields_of-returns-then-branch t c =
    let inner = inner_at c.args.levels in
    rw c.finish.ensures (fields-over inner (length c.args.bytes.now) c.loop.counter c.loop.fields c.loop.rest.now (fields_in (length c.args.bytes.now) inner no_fields c.args.bytes.now) c.in_ok-is_over.field-0 c.loop-test.true c.loop.invariant c.in_ok-is_over.ensures c.if-branch.true)

pub fields_of-returns-in_err-name : goal.fields_of-returns-in_err-name
fields_of-returns-in_err-name t c =
    let p = err_from_is_err_and c.from_residual-in_err-name.result c.from_residual-in_err-name.ensures.1 in
    let inner = inner_at c.args.levels in
    rw (p.1, p.2) (fields-stop inner (length c.args.bytes.now) c.loop.counter c.loop.fields c.loop.rest.now (fields_in (length c.args.bytes.now) inner no_fields c.args.bytes.now) c.in_err-name.field-0.0 c.in_ok-is_over.field-0 c.loop-test.true c.loop.invariant c.in_ok-is_over.ensures c.if-branch.false c.in_err-name.ensures.field)

pub fields_of-loop-preserved : goal.fields_of-loop-preserved
fields_of-loop-preserved t c =
    let inner = inner_at c.args.levels in
    rw (c.in_ok-fields.ensures, c.in_ok-from_str.ensures, c.fields.view_is) (fields-next inner (length c.args.bytes.now) c.loop.counter c.loop.fields c.loop.rest.now (fields_in (length c.args.bytes.now) inner no_fields c.args.bytes.now) ((c.in_ok-name.name.now, tree_of c.in_ok-name.value), c.in_ok-name.after.now) c.in_ok-is_over.field-0 c.loop-test.true c.loop.invariant c.in_ok-is_over.ensures c.if-branch.false c.in_ok-name.ensures.field)

pub fields_of-returns : goal.fields_of-returns
fields_of-returns t c =
    let inner = inner_at c.args.levels in
    fields-out inner (length c.args.bytes.now) c.loop.counter c.loop.fields c.loop.rest.now (fields_in (length c.args.bytes.now) inner no_fields c.args.bytes.now) c.loop-test.false c.loop.invariant

pub items_of-returns-in_err-is_over : goal.items_of-returns-in_err-is_over
items_of-returns-in_err-is_over t c =
    let p = err_from_is_err_and c.from_residual.result c.from_residual.ensures.1 in
    let inner = inner_at c.args.levels in
    rw (p.1, p.2) (items-bad inner (length c.args.bytes.now) c.loop-place.place c.loop-place.place c.loop-place.items c.loop-place.rest.now (items_in (length c.args.bytes.now) inner 0 no_items c.args.bytes.now) c.in_err-is_over.field-0.0 c.loop-place-test.true c.loop-place.invariant c.in_err-is_over.ensures)

pub items_of-returns-then-branch : goal.items_of-returns-then-branch
items_of-returns-then-branch t c =
    let inner = inner_at c.args.levels in
    (items-over inner (length c.args.bytes.now) c.loop-place.place c.loop-place.place c.loop-place.items c.loop-place.rest.now (items_in (length c.args.bytes.now) inner 0 no_items c.args.bytes.now) c.in_ok-is_over.field-0 c.loop-place-test.true c.loop-place.invariant c.in_ok-is_over.ensures c.if-branch.true)

pub items_of-returns-in_err-value : goal.items_of-returns-in_err-value
items_of-returns-in_err-value t c =
    let p = err_from_is_err_and c.from_residual-in_err-value.result c.from_residual-in_err-value.ensures.1 in
    let inner = inner_at c.args.levels in
    rw (p.1, p.2) (items-stop inner (length c.args.bytes.now) c.loop-place.place c.loop-place.place c.loop-place.items c.loop-place.rest.now (items_in (length c.args.bytes.now) inner 0 no_items c.args.bytes.now) c.in_err-value.field-0.0 c.in_ok-is_over.field-0 c.loop-place-test.true c.loop-place.invariant c.in_ok-is_over.ensures c.if-branch.false c.in_err-value.ensures)

pub items_of-loop-place-preserved : goal.items_of-loop-place-preserved
items_of-loop-place-preserved t c =
    let inner = inner_at c.args.levels in
    rw c.in_ok-push.ensures.ok (items-next inner (length c.args.bytes.now) c.loop-place.place c.loop-place.place c.loop-place.items c.loop-place.rest.now (items_in (length c.args.bytes.now) inner 0 no_items c.args.bytes.now) (tree_of c.in_ok-value.value, c.in_ok-value.after.now) c.in_ok-is_over.field-0 c.loop-place-test.true c.loop-place.invariant c.in_ok-is_over.ensures c.if-branch.false c.in_ok-value.ensures)

pub items_of-returns : goal.items_of-returns
items_of-returns t c =
    let inner = inner_at c.args.levels in
    items-out inner (length c.args.bytes.now) c.loop-place.place c.loop-place.place c.loop-place.items c.loop-place.rest.now (items_in (length c.args.bytes.now) inner 0 no_items c.args.bytes.now) c.loop-place-test.false c.loop-place.invariant

pub inner_of-returns-then-levels-eq0 : goal.inner_of-returns-then-levels-eq0
inner_of-returns-then-levels-eq0 t c = rw c.if-levels-eq0.true (inner-none c.args.is_array c.args.bytes.now)

pub inner_of-returns-in_err-content : goal.inner_of-returns-in_err-content
inner_of-returns-in_err-content t c =
    let p = err_from_is_err_and c.from_residual.result c.from_residual.ensures.1 in
    rw (p.1, p.2) (inner-bad c.args.levels c.args.is_array c.args.bytes.now c.in_err-content.field-0.0 (omega arith) c.in_err-content.ensures)

pub inner_of-returns-in_err-items : goal.inner_of-returns-in_err-items
inner_of-returns-in_err-items t c =
    let p = err_from_is_err_and c.from_residual-in_err-items.result c.from_residual-in_err-items.ensures.1 in
    let content : List ℕ × List ℕ = (c.in_ok-content.content.now, c.in_ok-content.rest.now) in
    rw (p.1, p.2, c.if-is_array.true)
    (inner-stop c.args.levels true c.args.bytes.now content c.in_err-items.field-0.0 (omega arith) c.in_ok-content.ensures
    (Fails-bind c.in_err-items.field-0.0 (items_in (length c.in_ok-content.content.now) (inner_at (c.args.levels - 1)) 0 no_items c.in_ok-content.content.now) (λ items. Ok (array items)) c.in_err-items.ensures))

pub inner_of-returns-then-is_array : goal.inner_of-returns-then-is_array
inner_of-returns-then-is_array t c =
    let content : List ℕ × List ℕ = (c.in_ok-content.content.now, c.in_ok-content.rest.now) in
    rw c.if-is_array.true
    (inner-done c.args.levels true c.args.bytes.now content (array c.in_ok-items.items) (omega arith) c.in_ok-content.ensures (rw c.in_ok-items.ensures refl))

pub inner_of-returns-in_err-fields : goal.inner_of-returns-in_err-fields
inner_of-returns-in_err-fields t c =
    let p = err_from_is_err_and c.from_residual-in_err-fields.result c.from_residual-in_err-fields.ensures.1 in
    let content : List ℕ × List ℕ = (c.in_ok-content.content.now, c.in_ok-content.rest.now) in
    rw (p.1, p.2, c.if-is_array.false)
    (inner-stop c.args.levels false c.args.bytes.now content c.in_err-fields.field-0.0 (omega arith) c.in_ok-content.ensures
    (Fails-bind c.in_err-fields.field-0.0 (fields_in (length c.in_ok-content.content.now) (inner_at (c.args.levels - 1)) no_fields c.in_ok-content.content.now) (λ fields. Ok (document fields)) c.in_err-fields.ensures))

pub inner_of-returns : goal.inner_of-returns
inner_of-returns t c =
    let content : List ℕ × List ℕ = (c.in_ok-content.content.now, c.in_ok-content.rest.now) in
    rw c.if-is_array.false
    (inner-done c.args.levels false c.args.bytes.now content (document c.in_ok-fields.fields) (omega arith) c.in_ok-content.ensures (rw c.in_ok-fields.ensures refl))
