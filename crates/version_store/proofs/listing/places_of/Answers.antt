use Rattle.std.proofs.Common.{◌≡◌, ◌∙◌, ap, true, cond}
use Rattle.std.specs.BTreeSet.{contains}
use Rattle.std.specs.Ordering.{eq_by_cmp}
use Rattle.bson_doc.specs.Place.{Place, place_cmp}
use Rattle.version_store.specs.Shown.{place_of}
use Rattle.version_store.proofs.ListedLemmas.{noted_more}
use Rattle.version_store.proofs.listing.places_of.Goals as goal

pub loop-shown-preserved : goal.loop-shown-preserved
loop-shown-preserved c q =
    let key : (c.in_ok-ns.ns, c.in_ok-id.id) ≡ place_of c.shown-item.result = λ i. (c.in_ok-ns.ensures i, c.in_ok-id.ensures i) in
    noted_more c.args.documents.now c.loop-shown.shown-index c.shown-item.result q (contains place_cmp c.loop-shown.places q) _ c.loop-shown-test.true c.shown-item.is
    (c.in_ok-insert.ensures.updates.0 q ∙ ap (λ (p : Place). cond (eq_by_cmp place_cmp p q) true (contains place_cmp c.loop-shown.places q)) key)
    (c.loop-shown.invariant q)
