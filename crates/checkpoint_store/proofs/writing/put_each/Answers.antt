use Rattle.std.proofs.Common.{◌≡◌, ◌++◌, ◌∙◌, ap, subst, sym}
use Rattle.std.specs.Prelude.{slice_index_or}
use Rattle.std.proofs.lemmas.List.Elements.{All-more}
use Rattle.record_file.proofs.ItemLemmas.{laid_more}
use Rattle.version_store.specs.Shown.{place_of, placed}
use Rattle.version_store.specs.declared.shown.Shown.{Shown}
use Rattle.checkpoint_store.specs.Layout.{saved_bytes}
use Rattle.checkpoint_store.specs.Shown.{CanBeSaved}
use Rattle.checkpoint_store.specs.Spelled.{IsSaved}
use Rattle.checkpoint_store.proofs.writing.put_each.Goals as goal

pub put_saved-requires : goal.put_saved-requires
put_saved-requires c =
    subst (λ (one : Shown). CanBeSaved (place_of one) one.document.now) (sym c.shown-item.is) (c.requires c.loop-shown.shown-index c.shown-item.result c.loop-shown-test.true)

pub loop-shown-preserved : goal.loop-shown-preserved
loop-shown-preserved c =
    let documents = c.args.documents.now in
    let i = c.loop-shown.shown-index in
    let one = c.shown-item.result in
    let laid : c.put_saved.new.out.items ≡ c.loop-shown.out.items ++ saved_bytes (placed (slice_index_or documents i one)) =
    c.in_ok-put_saved.ensures.laid ∙ ap (λ (s : Shown). c.loop-shown.out.items ++ saved_bytes (placed s)) c.shown-item.is in
    let fits : IsSaved (placed (slice_index_or documents i one)) =
    subst (λ (s : Shown). IsSaved (placed s)) c.shown-item.is c.in_ok-put_saved.ensures.fits in record {
      laid = laid_more (λ (s : Shown). saved_bytes (placed s)) documents i one _ _ _ c.loop-shown-test.true c.loop-shown.invariant.laid laid;
      fits = All-more (λ (s : Shown). IsSaved (placed s)) documents i one c.loop-shown-test.true c.loop-shown.invariant.fits fits;
    }
