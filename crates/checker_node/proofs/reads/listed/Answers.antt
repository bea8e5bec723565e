use Rattle.std.proofs.Common.{◌∙◌, ◌++◌, ◌∷◌, [], List, ap, subst, sym, ℕ}
use Rattle.std.specs.List.Sorted.{IsStrictlySortedBy}
use Rattle.std.specs.Map.{keys_of}
use Rattle.bson_doc.specs.Place.{Place, place_cmp}
use Rattle.bson_doc.specs.Tree.{Fields}
use Rattle.doc_fold.specs.Map.{documents_of}
use Rattle.checker_node.proofs.WriteLemmas.{all_shown, one_shown, shown_of}
use Rattle.checker_node.proofs.reads.listed.Goals as goal

pub loop-place-init : goal.loop-place-init
loop-place-init c = ap (λ (l : List (List ℕ × Fields)). l ++ shown_of c.into_iter-place-iterator.result) c.new-list.ensures

pub loop-place-preserved : goal.loop-place-preserved
loop-place-preserved c =
    one_shown c.loop-place.list c.push.new.self c.loop-place.place-iterator c.next.new.self c.into_iter-place-iterator.result (c.in-Some.place.now, c.in-Some.document.now) c.loop-place.invariant
    c.in-Some.ensures.steps (c.in_ok-push.ensures.ok ∙ (λ i. c.loop-place.list ++ (c.in_ok-copy.ensures i, c.in_ok-copy-2.ensures i) ∷ []))

pub returns : goal.returns
returns c =
    let order = subst (λ (es : List (Place × Fields)). IsStrictlySortedBy place_cmp (keys_of es)) (sym c.into_iter-place-iterator.ensures.into_iter_gives.0) c.into_iter-place-iterator.ensures.into_iter_gives.5 in
    all_shown c.loop-place.list c.loop-place.place-iterator c.into_iter-place-iterator.result c.args.shelf.now.documents c.loop-place.invariant c.in-None.ensures.steps.0 order
    (ap documents_of c.into_iter-place-iterator.ensures.into_iter_gives.0 ∙ c.documents-place-items.ensures)
