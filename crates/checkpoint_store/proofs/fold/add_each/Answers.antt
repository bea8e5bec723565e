use Rattle.std.proofs.Common.{List, [], ◌∷◌, ◌++◌, refl, ap, sym, ◌∙◌, arith}
use Rattle.std.specs.FinMap.{insert}
use Rattle.std.proofs.lemmas.List.Sums.{fold-append}
use Rattle.oplog_entry.specs.Docs.{Documents}
use Rattle.checkpoint_store.specs.Checkpoint.{with_documents}
use Rattle.checkpoint_store.specs.Layout.{Saved, saved_bytes}
use Rattle.checkpoint_store.specs.Spelled.{IsSaved}
use Rattle.checkpoint_store.specs.declared.stable.Stable.{Stable}
use Rattle.record_file.proofs.TurnLemmas.{starts, another, goes_on, ends}
use Rattle.checkpoint_store.proofs.fold.add_each.Goals as goal

pub loop-init : goal.loop-init
loop-init c = ([], starts IsSaved saved_bytes _ _, refl)

pub saved_of-requires : goal.saved_of-requires
saved_of-requires c = another IsSaved saved_bytes _ c.loop.counter _ _ _ c.loop.invariant.1 (omega arith) c.requires

pub loop-preserved : goal.loop-preserved
loop-preserved c =
    let read = c.loop.invariant.0 in
    let saved : Saved = (c.in_ok-place.place, c.in_ok-place.document) in (
      read ++ saved ∷ [],
      goes_on IsSaved saved_bytes _ c.loop.counter _ _ _ saved _ c.loop.invariant.1 (omega arith) c.in_ok-place.ensures,
      c.in_ok-insert.ensures ∙ ap (λ (s : Stable). record { at = s.at; documents = insert s.documents saved.0 saved.1 }) c.loop.invariant.2
          ∙ ap (λ (m : Documents). record { at = c.args.begun.now.at; documents = m })
          (sym (fold-append (λ (so_far : Documents) (one : Saved). insert so_far one.0 one.1) c.args.begun.now.documents read (saved ∷ []))),
    )

pub returns : goal.returns
returns c = λ more stand. c.loop.invariant.2 ∙ ap (λ (read : List Saved). record { at = c.args.begun.now.at; documents = with_documents c.args.begun.now.documents read }) (ends IsSaved saved_bytes _ c.loop.counter _ _ _ c.loop.invariant.1 (omega arith) more stand)
