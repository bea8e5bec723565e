-- The versions of a document that a log makes.
use Rattle.std.specs.Prelude.{◌≡◌, false, List, [], ◌∷◌, ◌++◌, Option, None, Some, All, IfSome, if◌then◌else◌}
use Rattle.std.specs.FinMap.{get}
use Rattle.bson_doc.specs.Place.{Place}
use Rattle.bson_doc.specs.Tree.{Fields}
use Rattle.rs_optime.specs.Order.{is_before}
use Rattle.rs_optime.specs.declared.optime.OpTime.{OpTime}
use Rattle.oplog_entry.specs.Docs.{docs}
use Rattle.oplog_entry.specs.declared.entry.Entry.{Entry}
use Rattle.oplog_entry.specs.Step.{place_of, document_after, is_at}
use Rattle.oplog_entry.specs.Visible.{log_up_to}
use Rattle.doc_update.specs.Effect.{is_too_large}
use Rattle.repl_msg.specs.Logs.{log_after}
use Rattle.version_store.specs.declared.history.Version.{Version}
use Rattle.version_store.specs.Past.{latest_of}

-- each entry that touches the document makes a version out of what was there before
abbrev pub versions_from : Place → Option Fields → List Entry → List Version
versions_from place before [] = []
versions_from place before (entry ∷ log) =
    if is_at (place_of entry.op) place
    then record { at = entry.optime; doc = document_after entry.op before }
    ∷ versions_from place (document_after entry.op before) log
    else versions_from place before log

-- the versions that a log makes of the document at a place
abbrev pub versions_of : Place → List Entry → List Version
versions_of place log = versions_from place None log

-- a document, if there is one, is no longer and no deeper than a stored one may be
abbrev pub IsSmall : Option Fields → Type 0
IsSmall document = IfSome document (λ d. is_too_large d ≡ false)

-- no document that an entry of the log leaves is too large
abbrev pub AreSmall : List Entry → Type 0
AreSmall log = (place : Place) → All (λ version. IsSmall version.doc) (versions_of place log)

-- the document as of an optime, if there was one, as a version of then
abbrev pub version_as_of : OpTime → Option Fields → List Version
version_as_of at None = []
version_as_of at (Some document) = record { at = at; doc = Some document } ∷ []

-- the versions that the log makes after an optime, on top of versions up to it that show what the log
-- leaves at it
pub record HasVersions (place : Place) (stable : OpTime) (log : List Entry)
    (versions : List Version) : Type 0 where
  pub base : List Version
  pub is : versions
      ≡ base ++ versions_from place (get (docs (log_up_to stable log)) place) (log_after stable log)
  pub early : All (λ version. is_before stable version.at ≡ false) base
  pub shows : latest_of base ≡ get (docs (log_up_to stable log)) place
