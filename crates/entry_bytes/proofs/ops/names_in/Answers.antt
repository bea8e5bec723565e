use Rattle.std.proofs.Common.{◌+◌, List, ℕ, refl, ap, sym, ◌∙◌, arith}
use Rattle.bson_doc.specs.Tree.{text, with_item, fields_from}
use Rattle.bson_doc.proofs.DocLemmas.{fields_from-zero, fields_from-end}
use Rattle.bson_doc.proofs.ItemLemmas.{both_items, both_items-nothing, both_items-with_item}
use Rattle.entry_bytes.specs.Parts.{names_in}
use Rattle.entry_bytes.proofs.ops.names_in.Goals as goal

pub loop-place-init : goal.loop-place-init
loop-place-init c = rw (c.new-names.ensures, fields_from-zero) refl

pub loop-place-preserved : goal.loop-place-preserved
loop-place-preserved c =
    let rest = fields_from (c.loop-place.place + 1) c.args.unsets.now in
    ap (λ i. both_items i (names_in rest)) (c.in_ok-push.ensures.ok ∙ ap (λ (n : List ℕ). with_item c.loop-place.names (text n)) c.in_ok-from_str.ensures)
    ∙ both_items-with_item c.loop-place.names (text c.in-Some.name.now) (names_in rest)
    ∙ ap (λ d. both_items c.loop-place.names (names_in d)) (sym c.in-Some.ensures)
    ∙ c.loop-place.invariant

pub returns : goal.returns
returns c =
    let past = fields_from-end c.args.unsets.now c.loop-place.place (omega (arith, c.len-place-end.ensures.count)) in
    sym (both_items-nothing c.loop-place.names) ∙ ap (λ d. both_items c.loop-place.names (names_in d)) (sym past) ∙ c.loop-place.invariant
