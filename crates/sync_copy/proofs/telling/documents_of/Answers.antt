use Rattle.std.proofs.Common.{◌∙◌, ap, subst, sym}
use Rattle.std.specs.List.Sorted.{IsStrictlySortedBy}
use Rattle.std.specs.Map.{keys_of}
use Rattle.bson_doc.specs.Place.{place_cmp}
use Rattle.doc_fold.specs.Map.{documents_of}
use Rattle.sync_copy.proofs.TellLemmas.{ListedSoFar, listed_all, listed_more, listed_none}
use Rattle.sync_copy.proofs.telling.documents_of.Goals as goal

pub loop-place-init : goal.loop-place-init
loop-place-init c = listed_none c.into_iter-place-iterator.result c.new-documents.result c.new-documents.ensures

pub loop-place-preserved-in_ok-push : goal.loop-place-preserved-in_ok-push
loop-place-preserved-in_ok-push c =
    let so = subst (λ rest. ListedSoFar c.into_iter-place-iterator.result rest c.loop-place.documents) c.in-Some.ensures.steps c.loop-place.invariant in
    subst (λ list. ListedSoFar c.into_iter-place-iterator.result c.next.new.self list) (sym c.in_ok-push.ensures.ok)
    (listed_more c.into_iter-place-iterator.result c.next.new.self c.loop-place.documents c.in-Some.place c.in-Some.document so)

pub loop-place-preserved-in_ok-push-2 : goal.loop-place-preserved-in_ok-push-2
loop-place-preserved-in_ok-push-2 c =
    let so = subst (λ rest. ListedSoFar c.into_iter-place-iterator.result rest c.loop-place.documents) c.in-Some.ensures.steps c.loop-place.invariant in
    subst (λ list. ListedSoFar c.into_iter-place-iterator.result c.next.new.self list) (sym c.in_ok-push.ensures.ok)
    (listed_more c.into_iter-place-iterator.result c.next.new.self c.loop-place.documents c.in-Some.place c.in-Some.document so)

pub loop-place-preserved : goal.loop-place-preserved
loop-place-preserved c =
    let so = subst (λ rest. ListedSoFar c.into_iter-place-iterator.result rest c.loop-place.documents) c.in-Some.ensures.steps c.loop-place.invariant in
    subst (λ list. ListedSoFar c.into_iter-place-iterator.result c.next.new.self list) (sym c.in_ok-push.ensures.ok)
    (listed_more c.into_iter-place-iterator.result c.next.new.self c.loop-place.documents c.in-Some.place c.in-Some.document so)

pub returns : goal.returns
returns c =
    let order = subst (λ es. IsStrictlySortedBy place_cmp (keys_of es)) (sym c.into_iter-place-iterator.ensures.into_iter_gives.0) c.into_iter-place-iterator.ensures.into_iter_gives.5 in
    listed_all c.into_iter-place-iterator.result c.loop-place.place-iterator c.loop-place.documents c.args.stable.documents order
    (ap documents_of c.into_iter-place-iterator.ensures.into_iter_gives.0 ∙ c.into_map-place-items.ensures) c.loop-place.invariant c.in-None.ensures.steps.0
