-- What is logged for a write puts the document at its place.
use Rattle.std.proofs.Common.{Option, Result, Ok, Err, IfOk, sym, ap, ◌∙◌}
use Rattle.std.specs.FinMap as maps
use Rattle.bson_doc.specs.Tree.{Fields}
use Rattle.bson_doc.specs.Place.{Place}
use Rattle.oplog_entry.specs.Docs.{docs}
use Rattle.oplog_entry.specs.Step.{place_of, document_after}
use Rattle.oplog_entry.proofs.DocsLemmas.{docs-append, get-applied-here}
use Rattle.doc_update.specs.Refusal.{Reason}
use Rattle.doc_update.specs.Sound.{IsSound, IsStored}
use Rattle.doc_update.specs.declared.write.Prepared.{Prepared}
use Rattle.doc_update.specs.declared.write.Prepared.TheVariants.{Entry, NoMatch, Unchanged}
use Rattle.doc_update.specs.declared.write.WriteRefusal.{WriteRefusal}

logged : (place : Result Place Reason) (before : Option Fields) (p : Prepared) → IsSound place before p → IsStored place before p
logged (Ok place) before (Entry op after) sound = λ log entry is stands.
    ap (λ documents. maps.get documents place) (docs-append log entry)
    ∙ get-applied-here (docs log) entry place (ap place_of is ∙ sound.1)
    ∙ ap (λ o. document_after o (maps.get (docs log) place)) is
    ∙ ap (document_after op) stands
    ∙ sym sound.2
logged (Ok place) before NoMatch sound = tt
logged (Ok place) before Unchanged sound = tt
logged (Err why) before p sound = tt

pub is_logged : (place : Result Place Reason) (before : Option Fields) (result : Result Prepared WriteRefusal) → IfOk result (λ p. IsSound place before p) → IfOk result (λ p. IsStored place before p)
is_logged place before (Ok p) sound = logged place before p sound
is_logged place before (Err why) sound = tt
