-- The documents of a store that a checkpoint saves.
use Rattle.std.specs.Prelude.{◌≡◌, ◌≤◌, All, List, length, Some}
use Rattle.std.specs.FinMap.{get}
use Rattle.rs_optime.specs.declared.optime.OpTime.{OpTime}
use Rattle.bson_doc.specs.Length.{document_length, document_levels}
use Rattle.bson_doc.specs.Place.{Place}
use Rattle.bson_doc.specs.Tree.{Fields}
use Rattle.oplog_entry.specs.Docs.{Documents}
use Rattle.oplog_entry.specs.Step.{id_key}
use Rattle.version_store.specs.Shown.{place_of}
use Rattle.version_store.specs.Store.{Store, shown_at}
use Rattle.version_store.specs.declared.shown.Shown.{Shown}
use Rattle.checkpoint_store.specs.Spelled.{NAME}

-- these are the documents that reads of the store as of an optime show
abbrev pub Shows : Store → OpTime → Documents → Type 0
Shows store at documents = (place : Place) → get documents place ≡ shown_at store place at

-- at most 262,144 bytes and 100 levels, at its own key, and a collection's name of at most 1,048,576 bytes
pub record CanBeSaved (place : Place) (document : Fields) : Type 0 where
  pub short : length place.0 ≤ NAME
  pub key : id_key document ≡ Some place.1
  pub bytes : document_length document ≤ 262144
  pub levels : document_levels document ≤ 100

-- each document that a read as of an optime shows can be saved
abbrev pub AllCanBeSaved : Store → OpTime → Type 0
AllCanBeSaved store at =
    (place : Place) (document : Fields) → shown_at store place at ≡ Some document → CanBeSaved place document

-- each of some documents that are shown can be saved
abbrev pub EachCanBeSaved : List Shown → Type 0
EachCanBeSaved documents = All (λ one. CanBeSaved (place_of one) one.document.now) documents
