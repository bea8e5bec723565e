-- The documents of a collection in two parts: those in a row, in order of their keys, and the others.
use Rattle.std.specs.Prelude.{◌≡◌, ℕ, zero, suc, [], ◌∷◌, None, Some, All, IsSome, slice_get}
use Rattle.std.specs.List.Sorted.{IsStrictlySortedBy}
use Rattle.std.specs.Map.{lookup, keys_of}
use Rattle.std.specs.Ordering.{eq_by_cmp}
use Rattle.std.specs.declared.cmp.Ordering.TheVariants.{Less}
use Rattle.bson_doc.specs.Key.{key_cmp}
use Rattle.bson_doc.specs.declared.key.IdKey.{IdKey}
use Rattle.version_store.specs.Documents.{Documents, past_in}
use Rattle.version_store.specs.Past.{Past, no_past}

-- the keys rise
abbrev pub IsInOrder : Documents → Type 0
IsInOrder row = IsStrictlySortedBy key_cmp (keys_of row)

-- the document under a key is at a place
abbrev pub StandsIn : Documents → IdKey → ℕ → Type 0
StandsIn row id place = (past : Past) × (slice_get row place ≡ Some (id, past))

-- the past of the document at a place is changed
abbrev pub changed_at : Documents → ℕ → (Past → Past) → Documents
changed_at [] place change = []
changed_at (entry ∷ row) zero change = (entry.0, change entry.1) ∷ row
changed_at (entry ∷ row) (suc place) change = entry ∷ changed_at row place change

-- a document of the row has no past among the others
abbrev pub AreApart : (row others : Documents) → Type 0
AreApart row others =
    (id : IdKey) → IsSome (lookup (eq_by_cmp key_cmp id) row) → past_in others id ≡ no_past

-- a key comes after those of the row, and has no past among the others
pub record GoesAfter (row others : Documents) (id : IdKey) : Type 0 where
  pub after : All (λ entry. key_cmp entry.0 id ≡ Less) row
  pub absent : past_in others id ≡ no_past

-- a key that isn't in old isn't in new
abbrev pub AddsNoKey : (old new : Documents) → Type 0
AddsNoKey old new =
    (id : IdKey) → lookup (eq_by_cmp key_cmp id) old ≡ None → lookup (eq_by_cmp key_cmp id) new ≡ None
