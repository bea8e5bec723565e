use Rattle.std.proofs.Common.{◌≡◌, ◌∙◌, ap, sym, subst}
use Rattle.std.specs.FinMap as maps
use Rattle.std.specs.List.Sorted.{IsStrictlySortedBy}
use Rattle.std.specs.Map.{keys_of}
use Rattle.bson_doc.specs.Place.{Place, place_cmp}
use Rattle.doc_fold.specs.Map.{documents_of}
use Rattle.checkpoint_store.proofs.CopyLemmas.{CopiedSoFar, none_copied, copied_more, all_copied}
use Rattle.checkpoint_store.proofs.stable.DocumentMap.copy.Goals as goal

pub loop-ns-init : goal.loop-ns-init
loop-ns-init c = none_copied c.into_iter-ns-iterator.result c.new-copies.result c.new-copies.ensures

pub loop-ns-preserved : goal.loop-ns-preserved
loop-ns-preserved c =
    let order = subst (λ es. IsStrictlySortedBy place_cmp (keys_of es)) (sym c.into_iter-ns-iterator.ensures.into_iter_gives.0) c.into_iter-ns-iterator.ensures.into_iter_gives.5 in
    let so = subst (λ rest. CopiedSoFar c.into_iter-ns-iterator.result rest c.loop-ns.copies) c.in-Some.ensures.steps c.loop-ns.invariant in
    let same : c.insert.new.self ≡ maps.insert c.loop-ns.copies c.in-Some.field-0-0.now c.in-Some.document.now =
    c.in_ok-insert.ensures
    ∙ ap (λ (p : Place). maps.insert c.loop-ns.copies p c.in_ok-copy-3.field-0) (λ i. (c.in_ok-copy.ensures i, c.in_ok-copy-2.ensures i))
    ∙ ap (λ d. maps.insert c.loop-ns.copies c.in-Some.field-0-0.now d) c.in_ok-copy-3.ensures in
    subst (λ m. CopiedSoFar c.into_iter-ns-iterator.result c.next.new.self m) (sym same)
    (copied_more c.into_iter-ns-iterator.result c.next.new.self c.loop-ns.copies c.in-Some.field-0-0.now c.in-Some.document.now order so)

pub returns : goal.returns
returns c =
    all_copied c.into_iter-ns-iterator.result c.loop-ns.ns-iterator c.loop-ns.copies c.loop-ns.invariant c.in-None.ensures.steps.0
    ∙ ap documents_of c.into_iter-ns-iterator.ensures.into_iter_gives.0 ∙ c.self.view_is
