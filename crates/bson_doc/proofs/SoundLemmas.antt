-- A document stays sound at every level.
use Rattle.std.proofs.Common.{◌≡◌, zero, suc, true, List, [], ◌∷◌, ◌++◌, ℕ, Contains, None, subst}
use Rattle.std.proofs.Common.{inl, inr}
use Rattle.std.proofs.lemmas.Bool.{cases_Bool}
use Rattle.std.specs.Str.{bytes_eq, is_utf8}
use Rattle.bson_doc.specs.declared.doc.Value.{Value}
use Rattle.bson_doc.specs.Tree.{Tree, Fields, no_fields, field, Trees, no_items, item, found, fields_from, with_field, with_set, without, with_item}
use Rattle.bson_doc.specs.Sound.{IsSound, IsSoundField, IsSoundValue, AreSoundFields, AreSoundItems}
use Rattle.bson_doc.specs.View.{SharedField, tree_of, fields_of, trees_of}
use Rattle.bson_doc.proofs.DocLemmas.{fields_of-append, trees_of-append, IsDocument-with_field}
use Rattle.bson_doc.proofs.NameLemmas.{IsDocument-with_set, IsDocument-without}

pub AreSoundFields-with_field : (fs : Fields) (name : List ℕ) (value : Tree) → AreSoundFields fs → is_utf8 name ≡ true → IsSoundValue value → AreSoundFields (with_field fs name value)
AreSoundFields-with_field no_fields name value sound utf8 one = (utf8, one, tt)
AreSoundFields-with_field (field first it rest) name value sound utf8 one =
    (sound.0, sound.1, AreSoundFields-with_field rest name value sound.2 utf8 one)

pub AreSoundItems-with_item : (ts : Trees) (value : Tree) → AreSoundItems ts → IsSoundValue value → AreSoundItems (with_item ts value)
AreSoundItems-with_item no_items value sound one = (one, tt)
AreSoundItems-with_item (item first rest) value sound one = (sound.0, AreSoundItems-with_item rest value sound.1 one)

AreSoundFields-with_set : (fs : Fields) (name : List ℕ) (value : Tree) → AreSoundFields fs → is_utf8 name ≡ true → IsSoundValue value → AreSoundFields (with_set fs name value)
AreSoundFields-with_set no_fields name value sound utf8 one = (utf8, one, tt)
AreSoundFields-with_set (field first it rest) name value sound utf8 one = elim (cases_Bool (bytes_eq first name)) [
  | inl same ↦ rw same (sound.0, one, sound.2)
  | inr apart ↦ rw apart (sound.0, sound.1, AreSoundFields-with_set rest name value sound.2 utf8 one)
]

AreSoundFields-without : (fs : Fields) (name : List ℕ) → AreSoundFields fs → AreSoundFields (without fs name)
AreSoundFields-without no_fields name sound = tt
AreSoundFields-without (field first it rest) name sound = elim (cases_Bool (bytes_eq first name)) [
  | inl same ↦ rw same sound.2
  | inr apart ↦ rw apart (sound.0, sound.1, AreSoundFields-without rest name sound.2)
]

pub IsSound-push : (fs : List SharedField) (f : SharedField) → IsSound (fields_of fs) → ¬ Contains f.value.name 0 → found f.value.name (fields_of fs) ≡ None → is_utf8 f.value.name ≡ true → IsSoundValue (tree_of f.value.value) → IsSound (fields_of (fs ++ f ∷ []))
IsSound-push fs f sound clean none utf8 one =
    rw fields_of-append (
      IsDocument-with_field (fields_of fs) f.value.name (tree_of f.value.value) sound.0 clean none,
      AreSoundFields-with_field (fields_of fs) f.value.name (tree_of f.value.value) sound.1 utf8 one,
    )

pub AreSoundItems-push : (vs : List Value) (v : Value) → AreSoundItems (trees_of vs) → IsSoundValue (tree_of v) → AreSoundItems (trees_of (vs ++ v ∷ []))
AreSoundItems-push vs v sound one = rw trees_of-append (AreSoundItems-with_item (trees_of vs) (tree_of v) sound one)

pub IsSound-with_set : (fs : Fields) (name : List ℕ) (value : Tree) → IsSound fs → ¬ Contains name 0 → is_utf8 name ≡ true → IsSoundValue value → IsSound (with_set fs name value)
IsSound-with_set fs name value sound clean utf8 one =
    (IsDocument-with_set fs name value sound.0 clean, AreSoundFields-with_set fs name value sound.1 utf8 one)

pub IsSound-without : (fs : Fields) (name : List ℕ) → IsSound fs → IsSound (without fs name)
IsSound-without fs name sound = (IsDocument-without fs name sound.0, AreSoundFields-without fs name sound.1)

-- what stands at a place is sound
IsSound-from : (fs : Fields) (i : ℕ) → IsSound fs → IsSound (fields_from i fs)
IsSound-from no_fields i sound = sound
IsSound-from (field name value rest) zero sound = sound
IsSound-from (field name value rest) (suc i) sound = IsSound-from rest i (sound.0.2, sound.1.2)

pub sound-at : (fs : Fields) (i : ℕ) (name : List ℕ) (value : Tree) (rest : Fields) → IsSound fs → fields_from i fs ≡ field name value rest → IsSoundField name value
sound-at fs i name value rest sound here =
    let one : IsSound (field name value rest) = subst IsSound here (IsSound-from fs i sound) in
    (one.0.0, one.1.0, one.1.1)

pub ruleset keeps_sound = (IsSound-push, AreSoundItems-push)
