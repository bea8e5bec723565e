use Rattle.std.proofs.Common.{◌+◌, refl, ap, sym, ◌∙◌, arith}
use Rattle.bson_doc.specs.Tree.{fields_from}
use Rattle.oplog_entry.specs.Step.{with_sets}
use Rattle.bson_doc.proofs.DocLemmas.{fields_from-zero, fields_from-end}
use Rattle.oplog_entry.proofs.FieldLemmas.{with_sets-next}
use Rattle.oplog_entry.proofs.change.put_all.Goals as goal

pub loop-place-init : goal.loop-place-init
loop-place-init c = rw fields_from-zero refl

pub loop-place-preserved : goal.loop-place-preserved
loop-place-preserved c =
    let sets = c.args.sets.now in
    let place = c.loop-place.place in
    ap (λ f. with_sets f (fields_from (place + 1) sets)) c.in_ok-set_from.ensures.ok
    ∙ with_sets-next c.loop-place.out sets place (omega (arith, c.len-place-end.ensures.count))
    ∙ c.loop-place.invariant

pub returns : goal.returns
returns c =
    let past = fields_from-end c.args.sets.now c.loop-place.place (omega (arith, c.len-place-end.ensures.count)) in
    ap (with_sets c.loop-place.out) (sym past) ∙ c.loop-place.invariant
