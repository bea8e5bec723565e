use Rattle.std.proofs.Common.{◌∙◌, sym, ap, List, ℕ, ◌++◌, ◌∷◌, []}
use Rattle.bson_doc.specs.Tree.{Fields}
use Rattle.version_store.specs.Store.{shown_at}
use Rattle.node_answers.proofs.ListingLemmas.{found_more_some, found_more_none}
use Rattle.node_answers.proofs.listing.found.Goals as goal
use Rattle.node_answers.proofs.listing.found.Goals.{in-Some+in_ok-copy+in_ok-copy-2+in_ok-push, in_default}

pub loop-ns-preserved : goal.loop-ns-preserved
loop-ns-preserved c = elim c.match-read_at.branch [
  | in-Some+in_ok-copy+in_ok-copy-2+in_ok-push w ↦
      let shown = rw c.as_str.ensures at w.in-Some.ensures.shown in
      let pushed = rw (w.in_ok-copy.ensures, w.in_ok-copy-2.ensures) at w.in_ok-push.ensures.ok in
      w.documents-is ∙ pushed
      ∙ ap (λ (ds : List (List ℕ × Fields)). ds ++ (c.loop-ns-item.result.0, w.in-Some.document.now) ∷ []) c.loop-ns.invariant
      ∙ sym (found_more_some (λ place. shown_at c.args.store.now place c.args.at) c.args.places.now c.loop-ns.ns-index c.loop-ns-item.result w.in-Some.document.now c.loop-ns-test.true c.loop-ns-item.is (sym shown))
  | in_default w ↦
      let shown = rw c.as_str.ensures at w.in_default.ensures.shown in
      w.documents-is ∙ c.loop-ns.invariant
      ∙ sym (found_more_none (λ place. shown_at c.args.store.now place c.args.at) c.args.places.now c.loop-ns.ns-index c.loop-ns-item.result c.loop-ns-test.true c.loop-ns-item.is (sym shown))
]
