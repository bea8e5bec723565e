-- The value of a document's field by its place, and the places of its names.
use Rattle.std.specs.Prelude.{ℕ, ◌≡◌, ⊤, List, Option, None, Some, option_and_then}
use Rattle.std.specs.Ordering.{nat_cmp}
use Rattle.std.specs.BTreeMap.{BTreeMap, get}
use Rattle.std.specs.Cmp.Lexicographic.{slice_cmp}
use Rattle.bson_doc.specs.Tree.{Tree, Fields, no_fields, field, fields_from, found}

abbrev pub first_value : Fields → Option Tree
first_value no_fields = None
first_value (field name value rest) = Some value

abbrev pub value_at : Fields → ℕ → Option Tree
value_at document place = first_value (fields_from place document)

abbrev pub AreAllPlaces : Fields → BTreeMap (List ℕ) ℕ → Type 0
AreAllPlaces document places = (name : List ℕ)
    → option_and_then (value_at document) (get (slice_cmp nat_cmp) places name) ≡ found name document

-- the stored places, if any, are those of all names
abbrev pub ArePlaces : Fields → Option (BTreeMap (List ℕ) ℕ) → Type 0
ArePlaces document None = ⊤
ArePlaces document (Some places) = AreAllPlaces document places
