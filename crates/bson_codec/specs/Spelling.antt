-- The bytes of a document (BSON 1.1), for the kinds of value that a document here may hold.
use Rattle.std.specs.Prelude.{◌≡◌, ℕ, ◌+◌, ◌≤◌, List, [], ◌∷◌, ◌++◌, length, if◌then◌else◌}
use Rattle.std.specs.Int.{w32, w64, cast_unsigned}
use Rattle.std.specs.Fmt.{decimal}
use Rattle.bson_doc.specs.Tree.{Tree, null, int32, int64, text, document, array, binary, object_id, boolean, date, timestamp, Fields, no_fields, field, Trees, no_items, item}
use Rattle.bson_doc.specs.Key.{type_byte}
use Rattle.bson_doc.specs.Length.{fields_length, items_length, document_levels}
use Rattle.bson_codec.specs.Numbers.{number_bytes}

-- an element: its kind, its name with a zero byte after it, and its value
abbrev pub element : ℕ → List ℕ → List ℕ → List ℕ
element kind name value = kind ∷ (name ++ 0 ∷ value)

abbrev mutual
  -- one row of BSON's table for each kind
  pub value_bytes : Tree → List ℕ
  value_bytes (text letters) = number_bytes 4 (length letters + 1) ++ letters ++ 0 ∷ []
  value_bytes (document fields) = number_bytes 4 (5 + fields_length fields) ++ fields_bytes fields ++ 0 ∷ []
  value_bytes (array items) = number_bytes 4 (5 + items_length 0 items) ++ items_bytes 0 items ++ 0 ∷ []
  value_bytes (binary subtype bytes) = number_bytes 4 (length bytes) ++ subtype ∷ bytes
  value_bytes (object_id bytes) = bytes
  value_bytes (boolean truth) = (if truth then 1 else 0) ∷ []
  value_bytes (date milliseconds) = number_bytes 8 (cast_unsigned w64 milliseconds)
  value_bytes (int64 number) = number_bytes 8 (cast_unsigned w64 number)
  value_bytes null = []
  value_bytes (int32 number) = number_bytes 4 (cast_unsigned w32 number)
  value_bytes (timestamp ts) = number_bytes 8 ts

  pub fields_bytes : Fields → List ℕ
  fields_bytes no_fields = []
  fields_bytes (field name value rest) =
      element (type_byte value) name (value_bytes value) ++ fields_bytes rest

  -- an array's names are its places in decimal
  pub items_bytes : ℕ → Trees → List ℕ
  items_bytes place no_items = []
  items_bytes place (item value rest) =
      element (type_byte value) (decimal place) (value_bytes value) ++ items_bytes (place + 1) rest

-- its whole length, its elements and a zero byte
abbrev pub document_bytes : Fields → List ℕ
document_bytes fields = value_bytes (document fields)

-- the bytes are the document's, and the document is within the bounds of bytes and levels
pub record IsSpelling (bytes_bound levels_bound : ℕ) (fields : Fields) (bytes : List ℕ) : Type 0 where
  pub spelled : bytes ≡ document_bytes fields
  pub in_bytes : length bytes ≤ bytes_bound
  pub in_levels : document_levels fields ≤ levels_bound
