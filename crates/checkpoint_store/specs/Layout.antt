-- The bytes of a checkpoint's records: the kind, then its parts. A number has its lowest byte first.
use Rattle.std.specs.Prelude.{ℕ, List, [], ◌∷◌, ◌++◌, length}
use Rattle.std.specs.List.{flat_map}
use Rattle.entry_bytes.specs.Optimes.{optime_bytes}
use Rattle.rs_optime.specs.declared.optime.OpTime.{OpTime}
use Rattle.bson_doc.specs.Place.{Place}
use Rattle.bson_doc.specs.Tree.{Fields}
use Rattle.bson_codec.specs.Numbers.{number_bytes}
use Rattle.bson_codec.specs.Spelling.{document_bytes}

-- a document at its place
abbrev pub Saved : Type 0
Saved = Place × Fields

pub data Record : Type 0 where
  -- a checkpoint as of an optime begins
  begins : (at : OpTime) → Record
  -- it contains these documents
  holds : (documents : List Saved) → Record
  -- it ends
  ends : Record

-- some bytes after their length
abbrev pub sized : List ℕ → List ℕ
sized bytes = number_bytes 4 (length bytes) ++ bytes

-- the collection's name and the document (BSON 1.1). The key isn't stored separately: it is that of the `_id`
abbrev pub saved_bytes : Saved → List ℕ
saved_bytes saved = sized saved.0.0 ++ sized (document_bytes saved.1)

abbrev pub documents_bytes : List Saved → List ℕ
documents_bytes documents = number_bytes 4 (length documents) ++ flat_map saved_bytes documents

abbrev pub record_bytes : Record → List ℕ
record_bytes (begins at) = 1 ∷ optime_bytes at
record_bytes (holds documents) = 2 ∷ documents_bytes documents
record_bytes ends = 3 ∷ []
