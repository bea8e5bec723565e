-- The names of a document's fields as a set, which exists only where there are many.
use Rattle.std.specs.Prelude.{ℕ, ◌≡◌, ◌≤◌, Bool, List, [], ◌∷◌, ◌++◌, Option, None, Some, is_some, length, drop, nat_le, if◌then◌else◌}
use Rattle.std.specs.Ordering.{nat_cmp}
use Rattle.std.specs.Cmp.Lexicographic.{slice_cmp}
use Rattle.std.specs.BTreeSet.{contains_by, contains_text}
use Rattle.bson_doc.specs.declared.names.FieldNames.{FieldNames}
use Rattle.bson_doc.specs.Tree.{Fields, count, found}

abbrev pub zeros : List ℕ
zeros = 0 ∷ 0 ∷ 0 ∷ 0 ∷ 0 ∷ 0 ∷ 0 ∷ 0 ∷ 0 ∷ 0 ∷ 0 ∷ 0 ∷ 0 ∷ 0 ∷ 0 ∷ []

-- the length of a name of at most 15 bytes, the name, and zeros to fill
abbrev pub short_form : List ℕ → List ℕ
short_form name = length name ∷ (name ++ drop (length name) zeros)

abbrev pub has_name : FieldNames → List ℕ → Bool
has_name names name =
    if nat_le (length name) 15 then contains_by (slice_cmp nat_cmp (short_form name)) names.short
    else contains_text names.long name

abbrev pub AreAllNames : Fields → FieldNames → Type 0
AreAllNames fields names = (name : List ℕ) → has_name names name ≡ is_some (found name fields)

-- a document with at most 16 fields has no set
abbrev pub AreNames : Fields → Option FieldNames → Type 0
AreNames fields None = count fields ≤ 16
AreNames fields (Some names) = AreAllNames fields names
