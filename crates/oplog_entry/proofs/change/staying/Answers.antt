use Rattle.std.proofs.Common.{◌+◌, refl, ap, sym, ◌∙◌, arith}
use Rattle.bson_doc.specs.Tree.{field, fields_from}
use Rattle.bson_doc.specs.View.{tree_of}
use Rattle.oplog_entry.specs.Walk.{join, staying}
use Rattle.bson_doc.proofs.DocLemmas.{fields_from-zero, fields_from-end}
use Rattle.oplog_entry.proofs.WalkLemmas.{join-nothing, staying-next, staying-step, named}
use Rattle.oplog_entry.proofs.change.staying.Goals as goal

pub loop-place-init : goal.loop-place-init
loop-place-init c = rw (c.new-out.ensures, fields_from-zero) refl

pub keep-requires-clause-clean : goal.keep-requires-clause-clean
keep-requires-clause-clean c =
    let gone = c.args.gone.now in
    let sets = c.args.sets.now in
    let out = c.loop-place.out in
    let so_far = named (λ f. join out (staying gone sets f)) _ _ _ _ c.in_ok-from_str.field-0 _ c.in-Some.ensures c.in_ok-from_str.ensures c.loop-place.invariant in
    λ stays. (staying-next gone sets out _ _ c.in_ok-from_str.field-0 _ so_far c.requires stays).0

pub keep-requires-clause-new : goal.keep-requires-clause-new
keep-requires-clause-new c =
    let gone = c.args.gone.now in
    let sets = c.args.sets.now in
    let out = c.loop-place.out in
    let so_far = named (λ f. join out (staying gone sets f)) _ _ _ _ c.in_ok-from_str.field-0 _ c.in-Some.ensures c.in_ok-from_str.ensures c.loop-place.invariant in
    λ stays. (staying-next gone sets out _ _ c.in_ok-from_str.field-0 _ so_far c.requires stays).1

pub keep-requires-clause-there : goal.keep-requires-clause-there
keep-requires-clause-there c = omega (arith, c.len-place-end.ensures.count)

pub keep-requires-clause-at : goal.keep-requires-clause-at
keep-requires-clause-at c =
    let rest = fields_from (c.loop-place.place + 1) c.args.document.now in
    c.in-Some.ensures ∙ ap (λ n. field n (tree_of c.in-Some.value.now) rest) (sym c.in_ok-from_str.ensures)

pub loop-place-preserved : goal.loop-place-preserved
loop-place-preserved c =
    let gone = c.args.gone.now in
    let sets = c.args.sets.now in
    let out = c.loop-place.out in
    let so_far = named (λ f. join out (staying gone sets f)) _ _ _ _ c.in_ok-from_str.field-0 _ c.in-Some.ensures c.in_ok-from_str.ensures c.loop-place.invariant in
    let rest = fields_from (c.loop-place.place + 1) c.args.document.now in
    ap (λ f. join f (staying gone sets rest)) c.in_ok-keep.ensures
    ∙ staying-step gone sets out rest c.in_ok-from_str.field-0 (tree_of c.in-Some.value.now)
    ∙ so_far

pub returns : goal.returns
returns c =
    let past = fields_from-end c.args.document.now c.loop-place.place (omega (arith, c.len-place-end.ensures.count)) in
    sym (join-nothing c.loop-place.out) ∙ ap (λ f. join c.loop-place.out (staying c.args.gone.now c.args.sets.now f)) (sym past) ∙ c.loop-place.invariant
