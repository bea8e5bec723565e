-- What a document may hold: distinct names in UTF-8 without a zero byte; strings in UTF-8; ObjectIds of 12
-- bytes; and numbers that fit their kind. Every `Doc` is sound in this sense.
use Rattle.std.specs.Prelude.{◌≡◌, ◌<◌, ◌^◌, ℕ, true, List, Contains, length, ⊤, FitsSigned}
use Rattle.std.specs.Int.{w32, w64}
use Rattle.std.specs.Str.{is_utf8}
use Rattle.bson_doc.specs.Tree.{Tree, null, int32, int64, text, document, array, binary, object_id, boolean, date, timestamp, Fields, no_fields, field, Trees, no_items, item, IsDocument}

abbrev mutual
  pub IsSoundValue : Tree → Type 0
  IsSoundValue (text letters) = is_utf8 letters ≡ true
  IsSoundValue (document fields) = IsDocument fields × AreSoundFields fields
  IsSoundValue (array items) = AreSoundItems items
  IsSoundValue (binary subtype bytes) = ⊤
  IsSoundValue (object_id bytes) = length bytes ≡ 12
  IsSoundValue (boolean truth) = ⊤
  IsSoundValue (date milliseconds) = FitsSigned w64 milliseconds
  IsSoundValue (int64 number) = FitsSigned w64 number
  IsSoundValue null = ⊤
  IsSoundValue (int32 number) = FitsSigned w32 number
  IsSoundValue (timestamp ts) = ts < 2 ^ 64

  pub AreSoundFields : Fields → Type 0
  AreSoundFields no_fields = ⊤
  AreSoundFields (field name value rest) = (is_utf8 name ≡ true) × IsSoundValue value × AreSoundFields rest

  pub AreSoundItems : Trees → Type 0
  AreSoundItems no_items = ⊤
  AreSoundItems (item value rest) = IsSoundValue value × AreSoundItems rest

-- a name without a zero byte, in UTF-8, and a value
abbrev pub IsSoundField : List ℕ → Tree → Type 0
IsSoundField name value = (¬ Contains name 0) × (is_utf8 name ≡ true) × IsSoundValue value

abbrev pub IsSound : Fields → Type 0
IsSound fields = IsSoundValue (document fields)
