-- Fields that are found in a document are no longer and no deeper than it.
use Rattle.std.proofs.Common.{◌≡◌, ◌≤◌, ◌+◌, ◌∙◌, ℕ, max, length, Bool, true, false, List, Option, None, Some, is_some, refl, ap, arith}
use Rattle.std.specs.Prelude.{⊤, cond}
use Rattle.std.specs.Str.{bytes_eq}
use Rattle.bson_doc.specs.Tree.{Tree, Fields, no_fields, field, found, without, IsDocument}
use Rattle.bson_doc.specs.Length.{value_length, fields_length, value_levels, fields_levels}
use Rattle.oplog_entry.proofs.FieldLemmas.{alike_front, alike_swapped, same_name, AllSet}

some_is : (one two : Tree) → Some one ≡ Some two → one ≡ two
some_is one two same = cc

-- a name that isn't taken out is found as before
pub found-without-other : (d : Fields) (name q : List ℕ) → bytes_eq name q ≡ false → found q (without d name) ≡ found q d
found-without-other no_fields name q apart = refl
found-without-other (field first one rest) name q apart = grind (arith, alike_front first name q, found-without-other rest name q)

-- a field and all the others
pub length-found : (d : Fields) (name : List ℕ) (value : Tree) → found name d ≡ Some value → fields_length d ≡ 2 + length name + value_length value + fields_length (without d name)
length-found no_fields name value is = cc is
length-found (field first one rest) name value is = by_test (bytes_eq first name) refl is (λ later. length-found rest name value later)
  where
    by_test : (b : Bool) → bytes_eq first name ≡ b → cond b (Some one) (found name rest) ≡ Some value
        → (found name rest ≡ Some value → fields_length rest ≡ 2 + length name + value_length value + fields_length (without rest name))
        → fields_length (field first one rest) ≡ 2 + length name + value_length value + fields_length (cond b rest (field first one (without rest name)))
    by_test true same is again =
        let name_is : length first ≡ length name = ap length (same_name first name same) in
        let value_is : value_length one ≡ value_length value = ap value_length (some_is one value is) in
        omega (arith, name_is, value_is)
    by_test false other is again = let later : fields_length rest ≡ 2 + length name + value_length value + fields_length (without rest name) = again is in omega (arith, later)

pub levels-found : (d : Fields) (name : List ℕ) (value : Tree) → found name d ≡ Some value → value_levels value ≤ fields_levels d
levels-found no_fields name value is = cc is
levels-found (field first one rest) name value is = by_test (bytes_eq first name) is (λ later. levels-found rest name value later)
  where
    by_test : (b : Bool) → cond b (Some one) (found name rest) ≡ Some value → (found name rest ≡ Some value → value_levels value ≤ fields_levels rest) → value_levels value ≤ max (value_levels one) (fields_levels rest)
    by_test true is again = let value_is : value_levels one ≡ value_levels value = ap value_levels (some_is one value is) in omega (arith, value_is)
    by_test false is again = let later : value_levels value ≤ fields_levels rest = again is in omega (arith, later)

in_without : (a d : Fields) (name : List ℕ) → found name a ≡ None → AllSet a d → AllSet a (without d name)
in_without no_fields d name none all = tt
in_without (field first one rest) d name none all = by_test (bytes_eq first name) refl none (λ later. in_without rest d name later all.1)
  where
    by_test : (b : Bool) → bytes_eq first name ≡ b → cond b (Some one) (found name rest) ≡ None → (found name rest ≡ None → AllSet rest (without d name)) → AllSet (field first one rest) (without d name)
    by_test true same none again = cc none
    by_test false apart none again = (found-without-other d name first (alike_swapped name first ∙ apart) ∙ all.0, again none)

pub length-in : (a d : Fields) → IsDocument a → AllSet a d → fields_length a ≤ fields_length d
length-in no_fields d names all = omega arith
length-in (field name value rest) d names all =
    let whole : fields_length d ≡ 2 + length name + value_length value + fields_length (without d name) = length-found d name value all.0 in
    let later : fields_length rest ≤ fields_length (without d name) = length-in rest (without d name) names.2 (in_without rest d name names.1 all.1) in
    omega (arith, whole, later)

pub levels-in : (a d : Fields) → AllSet a d → fields_levels a ≤ fields_levels d
levels-in no_fields d all = omega arith
levels-in (field name value rest) d all =
    let here : value_levels value ≤ fields_levels d = levels-found d name value all.0 in
    let later : fields_levels rest ≤ fields_levels d = levels-in rest d all.1 in
    omega (arith, here, later)

-- ---- names alone

-- the bytes of names without their values
abbrev pub names_length : Fields → ℕ
names_length no_fields = 0
names_length (field name value rest) = 2 + length name + names_length rest

-- each name of these is one of a document
abbrev pub AreNamedIn : Fields → Fields → Type 0
AreNamedIn no_fields d = ⊤
AreNamedIn (field name value rest) d = (is_some (found name d) ≡ true) × AreNamedIn rest d

named_without : (a d : Fields) (name : List ℕ) → found name a ≡ None → AreNamedIn a d → AreNamedIn a (without d name)
named_without no_fields d name none all = tt
named_without (field first one rest) d name none all = by_test (bytes_eq first name) refl none (λ later. named_without rest d name later all.1)
  where
    by_test : (b : Bool) → bytes_eq first name ≡ b → cond b (Some one) (found name rest) ≡ None → (found name rest ≡ None → AreNamedIn rest (without d name)) → AreNamedIn (field first one rest) (without d name)
    by_test true same none again = cc none
    by_test false apart none again = (ap is_some (found-without-other d name first (alike_swapped name first ∙ apart)) ∙ all.0, again none)

pub names-in : (a d : Fields) → IsDocument a → AreNamedIn a d → names_length a ≤ fields_length d
names-in no_fields d names all = omega arith
names-in (field name value rest) d names all =
    by_value (found name d) refl all.0 (names-in rest (without d name) names.2 (named_without rest d name names.1 all.1))
  where
    by_value : (o : Option Tree) → found name d ≡ o → is_some o ≡ true → names_length rest ≤ fields_length (without d name) → 2 + length name + names_length rest ≤ fields_length d
    by_value None is there later = cc there
    by_value (Some one) is there later =
        let whole : fields_length d ≡ 2 + length name + value_length one + fields_length (without d name) = length-found d name one is in
        omega (arith, whole, later)
