use Rattle.std.proofs.Common.{◌+◌, refl, ap, sym, ◌∙◌, arith}
use Rattle.bson_doc.specs.Tree.{fields_from}
use Rattle.bson_doc.specs.View.{tree_of}
use Rattle.oplog_entry.specs.Walk.{join, fresh}
use Rattle.bson_doc.proofs.DocLemmas.{fields_from-zero, fields_from-end}
use Rattle.oplog_entry.proofs.WalkLemmas.{join-nothing, fresh-next, fresh-step, named}
use Rattle.oplog_entry.proofs.change.add_fresh.Goals as goal

pub loop-place-init : goal.loop-place-init
loop-place-init c = rw fields_from-zero refl

pub add-requires-clause-clean : goal.add-requires-clause-clean
add-requires-clause-clean c =
    let gone = c.args.gone.now in
    let document = c.args.document.now in
    let out = c.loop-place.out in
    let so_far = named (λ f. join out (fresh gone document f)) _ _ _ _ c.in_ok-from_str.field-0 _ c.in-Some.ensures c.in_ok-from_str.ensures c.loop-place.invariant in
    λ stays new. (fresh-next gone document out _ _ c.in_ok-from_str.field-0 _ so_far c.requires stays new).0

pub add-requires-clause-new : goal.add-requires-clause-new
add-requires-clause-new c =
    let gone = c.args.gone.now in
    let document = c.args.document.now in
    let out = c.loop-place.out in
    let so_far = named (λ f. join out (fresh gone document f)) _ _ _ _ c.in_ok-from_str.field-0 _ c.in-Some.ensures c.in_ok-from_str.ensures c.loop-place.invariant in
    λ stays new. (fresh-next gone document out _ _ c.in_ok-from_str.field-0 _ so_far c.requires stays new).1

pub loop-place-preserved : goal.loop-place-preserved
loop-place-preserved c =
    let gone = c.args.gone.now in
    let document = c.args.document.now in
    let out = c.loop-place.out in
    let so_far = named (λ f. join out (fresh gone document f)) _ _ _ _ c.in_ok-from_str.field-0 _ c.in-Some.ensures c.in_ok-from_str.ensures c.loop-place.invariant in
    let rest = fields_from (c.loop-place.place + 1) c.args.sets.now in
    ap (λ f. join f (fresh gone document rest)) c.in_ok-add.ensures
    ∙ fresh-step gone document out rest c.in_ok-from_str.field-0 (tree_of c.in-Some.value.now)
    ∙ so_far

pub returns : goal.returns
returns c =
    let past = fields_from-end c.args.sets.now c.loop-place.place (omega (arith, c.len-place-end.ensures.count)) in
    sym (join-nothing c.loop-place.out) ∙ ap (λ f. join c.loop-place.out (fresh c.args.gone.now c.args.document.now f)) (sym past) ∙ c.loop-place.invariant
