-- Fields in byte order.
use Rattle.std.proofs.Common.{◌≡◌, ℕ, Bool, true, false, List, [], ◌∷◌, Contains, None, Some, if◌then◌else◌, refl, sym, ap, ◌∙◌, arith, map}
use Rattle.std.specs.Ordering.{nat_cmp, is_eq}
use Rattle.std.specs.Str.{bytes_eq}
use Rattle.std.specs.Cmp.Lexicographic.{slice_cmp}
use Rattle.std.specs.declared.cmp.Ordering.{Ordering}
use Rattle.std.specs.declared.cmp.Ordering.TheVariants.{Less, Equal, Greater}
use Rattle.std.specs.BTreeMap.{insert_entry}
use Rattle.std.proofs.lemmas.Map.Text.{is_eq-slice_cmp}
use Rattle.bson_doc.specs.Tree.{Tree, Fields, no_fields, field, found, IsDocument}
use Rattle.bson_doc.specs.View.{tree_of}
use Rattle.bson_doc.specs.declared.doc.Value.{Value}
use Rattle.oplog_entry.specs.Step.{strings_of}
use Rattle.oplog_entry.specs.Walk.{join}
use Rattle.oplog_entry.proofs.FieldLemmas.{alike_front, alike_back, alike_swapped}
use Rattle.doc_update.specs.Check.{names_of}
use Rattle.doc_update.specs.Entries.{fields_in}
use Rattle.doc_update.specs.Ordered.{placed, placed_all, in_byte_order, as_strings}

-- a map's entries with one more
pub fields_in-insert : (entries : List (List ℕ × Value)) (name : List ℕ) (value : Value) → fields_in (insert_entry (slice_cmp nat_cmp) entries name value) ≡ placed (fields_in entries) name (tree_of value)
fields_in-insert [] name value = refl
fields_in-insert (e ∷ entries) name value = by_cases (fields_in-insert entries name value) (slice_cmp nat_cmp name e.0) refl
  where
    by_cases : fields_in (insert_entry (slice_cmp nat_cmp) entries name value) ≡ placed (fields_in entries) name (tree_of value) → (r : Ordering) → slice_cmp nat_cmp name e.0 ≡ r → fields_in (insert_entry (slice_cmp nat_cmp) (e ∷ entries) name value) ≡ placed (fields_in (e ∷ entries)) name (tree_of value)
    by_cases later Less is = rw is refl
    by_cases later Equal is = rw is refl
    by_cases later Greater is = rw is (ap (λ rest. field e.0 (tree_of e.1) rest) later)

-- two lists of fields, one after the other
pub placed_all-join : (a b others : Fields) → placed_all (join a b) others ≡ placed_all a (placed_all b others)
placed_all-join no_fields b others = refl
placed_all-join (field name value rest) b others = ap (λ f. placed f name value) (placed_all-join rest b others)

-- ties are equal names
tie : (name first : List ℕ) (r : Ordering) → slice_cmp nat_cmp name first ≡ r → bytes_eq name first ≡ is_eq r
tie name first r is = sym (is_eq-slice_cmp name first) ∙ ap is_eq is

-- what is found once a field is in its place
pub found-placed : (fields : Fields) (name q : List ℕ) (value : Tree) → found q (placed fields name value) ≡ (if bytes_eq name q then Some value else found q fields)
found-placed no_fields name q value = refl
found-placed (field first one rest) name q value = by_cases (found-placed rest name q value) (slice_cmp nat_cmp name first) refl
  where
    by_cases : found q (placed rest name value) ≡ (if bytes_eq name q then Some value else found q rest) → (r : Ordering) → slice_cmp nat_cmp name first ≡ r → found q (placed (field first one rest) name value) ≡ (if bytes_eq name q then Some value else found q (field first one rest))
    by_cases later Less is = rw is refl
    by_cases later Equal is = rw is (let same = alike_front name first q (tie name first Equal is) in grind arith)
    by_cases later Greater is = rw is (let apart = tie name first Greater is in grind (arith, alike_swapped first name, alike_front first name q, alike_back first name q))

pub IsDocument-placed : (fields : Fields) (name : List ℕ) (value : Tree) → IsDocument fields → ¬ Contains name 0 → found name fields ≡ None → IsDocument (placed fields name value)
IsDocument-placed no_fields name value names clean none = (clean, refl, tt)
IsDocument-placed (field first one rest) name value names clean none =
    by_cases (λ later. IsDocument-placed rest name value names.2 clean later) (slice_cmp nat_cmp name first) refl
  where
    by_test : (b : Bool) → (if b then Some one else found name rest) ≡ None → (b ≡ false) × (found name rest ≡ None)
    by_test true none = cc
    by_test false none = (refl, none)

    other : (bytes_eq first name ≡ false) × (found name rest ≡ None)
    other = by_test (bytes_eq first name) none

    by_cases : (found name rest ≡ None → IsDocument (placed rest name value)) → (r : Ordering) → slice_cmp nat_cmp name first ≡ r → IsDocument (placed (field first one rest) name value)
    by_cases later Less is = rw is (clean, none, names)
    by_cases later Equal is = rw is names
    by_cases later Greater is = rw is (
      names.0,
      found-placed rest name first value ∙ ap (λ b. if b then Some value else found first rest) (alike_swapped name first ∙ other.0) ∙ names.1,
      later other.1,
    )

-- order changes nothing that is found
pub found-in_byte_order : (fields : Fields) (q : List ℕ) → found q (in_byte_order fields) ≡ found q fields
found-in_byte_order no_fields q = refl
found-in_byte_order (field name value rest) q =
    found-placed (in_byte_order rest) name q value ∙ ap (λ o. if bytes_eq name q then Some value else o) (found-in_byte_order rest q)

pub IsDocument-in_byte_order : (fields : Fields) → IsDocument fields → IsDocument (in_byte_order fields)
IsDocument-in_byte_order no_fields names = tt
IsDocument-in_byte_order (field name value rest) names =
    IsDocument-placed (in_byte_order rest) name value (IsDocument-in_byte_order rest names.2) names.0 (found-in_byte_order rest name ∙ names.1)

-- the names of a map's entries
pub names_of-fields_in : (entries : List (List ℕ × Value)) → names_of (fields_in entries) ≡ map (λ e. e.0) entries
names_of-fields_in [] = refl
names_of-fields_in (e ∷ entries) = ap (λ names. e.0 ∷ names) (names_of-fields_in entries)

-- names as strings, and back
pub strings_of-as_strings : (names : List (List ℕ)) → strings_of (as_strings names) ≡ names
strings_of-as_strings [] = refl
strings_of-as_strings (name ∷ names) = ap (λ rest. name ∷ rest) (strings_of-as_strings names)
