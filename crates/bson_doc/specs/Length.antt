-- The size of a document in bytes and in levels.
use Rattle.std.specs.Prelude.{ℕ, ◌+◌, max, length}
use Rattle.std.specs.Fmt.{decimal}
use Rattle.bson_doc.specs.Tree.{Tree, null, int32, int64, text, document, array, binary, object_id, boolean, date, timestamp, Fields, no_fields, field, Trees, no_items, item}

abbrev mutual
  -- the bytes of a value, without its kind and name
  pub value_length : Tree → ℕ
  value_length (text letters) = length letters + 5
  value_length (document fields) = 5 + fields_length fields
  value_length (array items) = 5 + items_length 0 items
  value_length (binary subtype bytes) = length bytes + 5
  value_length (object_id bytes) = length bytes
  value_length (boolean truth) = 1
  value_length (date milliseconds) = 8
  value_length (int64 number) = 8
  value_length null = 0
  value_length (int32 number) = 4
  value_length (timestamp ts) = 8

  pub fields_length : Fields → ℕ
  fields_length no_fields = 0
  fields_length (field name value rest) = 2 + length name + value_length value + fields_length rest

  pub items_length : ℕ → Trees → ℕ
  items_length place no_items = 0
  items_length place (item value rest) =
      2 + length (decimal place) + value_length value + items_length (place + 1) rest

abbrev pub document_length : Fields → ℕ
document_length fields = 5 + fields_length fields

abbrev mutual
  -- the levels of documents and arrays in a value
  pub value_levels : Tree → ℕ
  value_levels (document fields) = 1 + fields_levels fields
  value_levels (array items) = 1 + items_levels items
  value_levels _ = 0

  pub fields_levels : Fields → ℕ
  fields_levels no_fields = 0
  fields_levels (field name value rest) = max (value_levels value) (fields_levels rest)

  pub items_levels : Trees → ℕ
  items_levels no_items = 0
  items_levels (item value rest) = max (value_levels value) (items_levels rest)

-- the document itself is level 1
abbrev pub document_levels : Fields → ℕ
document_levels fields = 1 + fields_levels fields
