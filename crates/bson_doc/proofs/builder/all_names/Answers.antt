use Rattle.std.proofs.Common.{◌≡◌, ◌+◌, ◌-◌, is_some, ap, ◌∙◌, refl, arith}
use Rattle.bson_doc.specs.Tree.{found, fields_from}
use Rattle.bson_doc.proofs.DocLemmas.{fields_from-zero, fields_from-end}
use Rattle.bson_doc.proofs.NameLemmas.{is_some-field}
use Rattle.bson_doc.proofs.builder.all_names.Goals as goal

pub loop-place-init : goal.loop-place-init
loop-place-init c = λ name.
    let end = fields_from-end c.args.doc.now c.len-place.result (omega (arith, c.len-place.ensures.count)) in
    rw end (c.new-names.ensures name)

pub loop-place-preserved : goal.loop-place-preserved
loop-place-preserved c = λ name.
    let next : c.loop-place.place - 1 + 1 ≡ c.loop-place.place = omega arith in
    rw (c.in-Some.ensures, is_some-field, next) (c.in_ok-insert.ensures name ∙ rw (c.loop-place.invariant name) refl)

pub returns : goal.returns
returns c = λ name.
    let first : c.loop-place.place ≡ 0 = omega arith in
    c.loop-place.invariant name ∙ ap (λ n. is_some (found name (fields_from n c.args.doc.now))) first ∙ ap (λ f. is_some (found name f)) (fields_from-zero c.args.doc.now)
