use Rattle.std.proofs.Common.{◌≡◌, List}
use Rattle.checkpoint_store.specs.Checkpoint.{with_documents}
use Rattle.checkpoint_store.specs.Layout.{Saved, saved_bytes}
use Rattle.checkpoint_store.specs.Spelled.{IsSaved}
use Rattle.record_file.proofs.TurnLemmas.{ReadSoFar}
use Rattle.checkpoint_store.proofs.fold.add_each.Given as goal

abbrev pub invariant-loop : goal.invariant-loop
invariant-loop l =
    (read : List Saved) × ReadSoFar IsSaved saved_bytes l.count l.counter l.bytes read l.rest
    × (l.begun ≡ record { at = l.initial.begun.at; documents = with_documents l.initial.begun.documents read })
