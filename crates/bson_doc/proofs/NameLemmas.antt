-- The field with a name: where it is, and what the fields are once it is set or removed.
use Rattle.std.proofs.Common.{zero, suc, ◌<◌, ◌≤◌, get_or, ℕ, ◌≡◌, Bool, true, false, List, [], ◌∷◌, Contains, None, Some, IsSome, length, arith, refl, ap, sym, ◌∙◌}
use Rattle.std.proofs.Math.ListN.{set}
use Rattle.std.specs.List.{position_or_len, remove}
use Rattle.std.specs.Str.{bytes_eq}
use Rattle.std.proofs.lemmas.Cmp.{nat_list_eq_equiv}
use Rattle.std.proofs.lemmas.Slice.Eq.{bytes_eq-Decides}
use Rattle.std.specs.Prelude.{position, is_some, cond}
use Rattle.std.proofs.Common.{inl, inr}
use Rattle.std.proofs.lemmas.Bool.{cases_Bool}
use Rattle.std.proofs.lemmas.Grind.{common_steps}
use Rattle.std.proofs.lemmas.List.Quantifiers.{position-Some}
use Rattle.bson_doc.proofs.DocLemmas.{not_first}
use Rattle.bson_doc.specs.Tree.{Tree, Fields, no_fields, field, found, with_field, with_set, without, IsDocument}
use Rattle.bson_doc.specs.View.{SharedField, tree_of, fields_of}

-- the first field of the name is the one at the place
pub record IsFirst (name : List ℕ) (fs : List SharedField) (i : ℕ) (d : SharedField) : Type 0 where
  pub within : i < length fs
  pub here : bytes_eq (get_or fs i d).value.name name ≡ true
  pub before : (k : ℕ) → k < i → bytes_eq (get_or fs k d).value.name name ≡ false

pub named_so : {name : List ℕ} {fs : List SharedField} {i : ℕ} {d : SharedField} → IsFirst name fs i d → name ≡ (get_or fs i d).value.name
named_so {name} {fs} {i} {d} first = sym ((bytes_eq-Decides (get_or fs i d).value.name name).0 first.here)

later : (name : List ℕ) (f : SharedField) (fs : List SharedField) (i : ℕ) (d : SharedField) → IsFirst name (f ∷ fs) (suc i) d → IsFirst name fs i d
later name f fs i d first =
    record { within = (let w = first.within in omega arith); here = first.here; before = λ k below. first.before (suc k) (omega arith) }

pub with_set-at : (name : List ℕ) (fs : List SharedField) (i : ℕ) (d f : SharedField) → IsFirst name fs i d → f.value.name ≡ (get_or fs i d).value.name → fields_of (set fs i f) ≡ with_set (fields_of fs) name (tree_of f.value.value)
with_set-at name [] i d f first same = absurd (let w = first.within in omega arith)
with_set-at name (g ∷ fs) zero d f first same = rw (first.here, same) refl
with_set-at name (g ∷ fs) (suc i) d f first same =
    rw (first.before 0 (omega arith)) (ap (λ rest. field g.value.name (tree_of g.value.value) rest) (with_set-at name fs i d f (later name g fs i d first) same))

pub without-at : (name : List ℕ) (fs : List SharedField) (i : ℕ) (d : SharedField) → IsFirst name fs i d → fields_of (remove fs i) ≡ without (fields_of fs) name
without-at name [] i d first = absurd (let w = first.within in omega arith)
without-at name (g ∷ fs) zero d first = rw first.here refl
without-at name (g ∷ fs) (suc i) d first =
    rw (first.before 0 (omega arith)) (ap (λ rest. field g.value.name (tree_of g.value.value) rest) (without-at name fs i d (later name g fs i d first)))

pub found-at : (name : List ℕ) (fs : List SharedField) (i : ℕ) (d : SharedField) → IsFirst name fs i d → IsSome (found name (fields_of fs))
found-at name [] i d first = absurd (let w = first.within in omega arith)
found-at name (g ∷ fs) zero d first = rw first.here refl
found-at name (g ∷ fs) (suc i) d first =
    rw (first.before 0 (omega arith)) (found-at name fs i d (later name g fs i d first))

not_within : (p : SharedField → Bool) (fs : List SharedField) → position p fs ≡ None → length fs ≤ position_or_len p fs
not_within p fs none = grind (arith, common_steps)

after : (name : List ℕ) (fs : List SharedField) → length fs ≤ position_or_len (λ f. bytes_eq f.value.name name) fs → found name (fields_of fs) ≡ None
after name [] past = refl
after name (f ∷ fs) past = elim (cases_Bool (bytes_eq f.value.name name)) [
  | inl same ↦ absurd (omega (arith, rw same at past))
  | inr other ↦ rw other (after name fs (omega (arith, rw other at past)))
]

-- no field has the name
pub found-none : (name : List ℕ) (fs : List SharedField) → position (λ f. bytes_eq f.value.name name) fs ≡ None → found name (fields_of fs) ≡ None
found-none name fs none = after name fs (not_within _ fs none)

pub first_place : (name : List ℕ) (fs : List SharedField) (i : ℕ) (d : SharedField) → position (λ f. bytes_eq f.value.name name) fs ≡ Some i → IsFirst name fs i d
first_place name fs i d some =
    let known = position-Some (λ (f : SharedField). bytes_eq f.value.name name) fs i d some in
    record { within = known.0; here = known.1; before = known.2 }

-- a name that is nowhere: it comes last, or nothing is taken out
pub with_set-new : (fs : Fields) (name : List ℕ) (value : Tree) → found name fs ≡ None → with_set fs name value ≡ with_field fs name value
with_set-new no_fields name value none = refl
with_set-new (field first one rest) name value none =
    let parts = not_first (bytes_eq first name) one (found name rest) none in
    rw parts.0 (ap (λ fs. field first one fs) (with_set-new rest name value parts.1))

pub without-new : (fs : Fields) (name : List ℕ) → found name fs ≡ None → without fs name ≡ fs
without-new no_fields name none = refl
without-new (field first one rest) name none =
    let parts = not_first (bytes_eq first name) one (found name rest) none in
    rw parts.0 (ap (λ fs. field first one fs) (without-new rest name parts.1))

-- a name that stands nowhere stands nowhere later
found-with_set : (fs : Fields) (wanted name : List ℕ) (value : Tree) → found wanted fs ≡ None → bytes_eq name wanted ≡ false → found wanted (with_set fs name value) ≡ None
found-with_set no_fields wanted name value none other = rw other refl
found-with_set (field first one rest) wanted name value none other =
    let parts = not_first (bytes_eq first wanted) one (found wanted rest) none in
    elim (cases_Bool (bytes_eq first name)) [
      | inl same ↦ rw (same, parts.0) parts.1
      | inr apart ↦ rw (apart, parts.0) (found-with_set rest wanted name value parts.1 other)
    ]

found-without : (fs : Fields) (wanted name : List ℕ) → found wanted fs ≡ None → found wanted (without fs name) ≡ None
found-without no_fields wanted name none = refl
found-without (field first one rest) wanted name none =
    let parts = not_first (bytes_eq first wanted) one (found wanted rest) none in
    elim (cases_Bool (bytes_eq first name)) [
      | inl same ↦ rw same parts.1
      | inr apart ↦ rw (apart, parts.0) (found-without rest wanted name parts.1)
    ]

-- a document stays one
pub IsDocument-with_set : (fs : Fields) (name : List ℕ) (value : Tree) → IsDocument fs → ¬ Contains name 0 → IsDocument (with_set fs name value)
IsDocument-with_set no_fields name value names clean = (clean, refl, tt)
IsDocument-with_set (field first one rest) name value names clean = elim (cases_Bool (bytes_eq first name)) [
  | inl same ↦ rw same (names.0, names.1, names.2)
  | inr apart ↦
      let other : bytes_eq name first ≡ false = nat_list_eq_equiv.symm name first ∙ apart in
      rw apart (names.0, found-with_set rest first name value names.1 other, IsDocument-with_set rest name value names.2 clean)
]

pub IsDocument-without : (fs : Fields) (name : List ℕ) → IsDocument fs → IsDocument (without fs name)
IsDocument-without no_fields name names = tt
IsDocument-without (field first one rest) name names = elim (cases_Bool (bytes_eq first name)) [
  | inl same ↦ rw same names.2
  | inr apart ↦ rw apart (names.0, found-without rest first name names.1, IsDocument-without rest name names.2)
]

-- which names stand in fields with one more in front
pub is_some-field : (first wanted : List ℕ) (value : Tree) (rest : Fields) → is_some (found wanted (field first value rest)) ≡ cond (bytes_eq first wanted) true (is_some (found wanted rest))
is_some-field first wanted value rest = elim (cases_Bool (bytes_eq first wanted)) [
  | inl same ↦ rw same refl
  | inr apart ↦ rw apart refl
]

-- which names stand in a document with one field more
pub is_some-with_field : (fs : Fields) (name wanted : List ℕ) (value : Tree) → is_some (found wanted (with_field fs name value)) ≡ cond (bytes_eq name wanted) true (is_some (found wanted fs))
is_some-with_field no_fields name wanted value = is_some-field name wanted value no_fields
is_some-with_field (field first one rest) name wanted value = elim (cases_Bool (bytes_eq first wanted)) [
  | inl same ↦ elim (cases_Bool (bytes_eq name wanted)) [
    | inl too ↦ rw (same, too) refl
    | inr apart ↦ rw (same, apart) refl
  ]
  | inr apart ↦ rw apart (is_some-with_field rest name wanted value)
]
