-- The members of a document or an array are printed one after the other.
use Rattle.std.proofs.Common.{◌≡◌, ℕ, zero, suc, ◌+◌, ◌*◌, ◌<◌, ◌≤◌, List, [], ◌++◌, refl, sym, ap, ◌∙◌, append_assoc, arith, add-one}
use Rattle.std.specs.Prelude.{codes}
use Rattle.std.proofs.lemmas.List.{append-nil}
use Rattle.bson_doc.specs.Tree.{Tree, document, array, Fields, no_fields, field, Trees, no_items, item, fields_from, trees_from, tree_size, fields_size, trees_size}
use Rattle.doc_text.specs.Printing.{separator, printed, printed_name, printed_fields, later_fields, printed_items, later_items}

-- what is still to be printed of an array, after its first place or at it
abbrev pub items_left : ℕ → Trees → List ℕ
items_left zero items = printed_items items
items_left (suc place) items = later_items items

abbrev pub fields_left : ℕ → Fields → List ℕ
fields_left zero fields = printed_fields fields
fields_left (suc place) fields = later_fields fields

pub trees_from-size : (place : ℕ) (items : Trees) → trees_size (trees_from place items) ≤ trees_size items
trees_from-size place no_items = omega arith
trees_from-size zero (item value rest) = omega arith
trees_from-size (suc place) (item value rest) = omega (arith, trees_from-size place rest)

pub fields_from-size : (place : ℕ) (fields : Fields) → fields_size (fields_from place fields) ≤ fields_size fields
fields_from-size place no_fields = omega arith
fields_from-size zero (field name value rest) = omega arith
fields_from-size (suc place) (field name value rest) = omega (arith, fields_from-size place rest)

items_left-item : (place : ℕ) (value : Tree) (rest : Trees) → items_left place (item value rest) ≡ separator place ++ (printed value ++ later_items rest)
unfolding printed
items_left-item zero value rest = refl
items_left-item (suc place) value rest = append_assoc (codes ", ") (printed value) (later_items rest)

fields_left-field : (place : ℕ) (name : List ℕ) (value : Tree) (rest : Fields) → fields_left place (field name value rest) ≡ separator place ++ (printed_name name ++ (codes ": " ++ (printed value ++ later_fields rest)))
unfolding printed
fields_left-field zero name value rest = simp append_assoc
fields_left-field (suc place) name value rest = simp append_assoc

items_left-next : (place : ℕ) (items : Trees) → items_left (place + 1) items ≡ later_items items
items_left-next place items = rw (add-one place) refl

fields_left-next : (place : ℕ) (fields : Fields) → fields_left (place + 1) fields ≡ later_fields fields
fields_left-next place _ = rw (add-one place) refl

-- one item more
pub item_written : (place : ℕ) (items rest : Trees) (value : Tree) (front whole : List ℕ) → trees_from place items ≡ item value rest
    → front ++ items_left place (trees_from place items) ≡ whole → ((front ++ separator place) ++ printed value) ++ items_left (place + 1) rest ≡ whole
item_written place items rest value front whole is so_far =
    let one : (front ++ separator place) ++ printed value ++ later_items rest ≡ front ++ (separator place ++ (printed value ++ later_items rest)) = simp append_assoc in
    rw (items_left-next place rest) (one ∙ ap (λ (x : List ℕ). front ++ x) (sym (items_left-item place value rest)) ∙ ap (λ (ts : Trees). front ++ items_left place ts) (sym is) ∙ so_far)

-- one field more
pub field_written : (place : ℕ) (fields rest : Fields) (name : List ℕ) (value : Tree) (front whole : List ℕ) → fields_from place fields ≡ field name value rest
    → front ++ fields_left place (fields_from place fields) ≡ whole → (((front ++ separator place) ++ (printed_name name ++ codes ": ")) ++ printed value) ++ fields_left (place + 1) rest ≡ whole
field_written place _ rest name value front whole is so_far =
    let one : (((front ++ separator place) ++ (printed_name name ++ codes ": ")) ++ printed value) ++ later_fields rest ≡ front ++ (separator place ++ (printed_name name ++ (codes ": " ++ (printed value ++ later_fields rest)))) = simp append_assoc in
    rw (fields_left-next place rest) (one ∙ ap (λ (x : List ℕ). front ++ x) (sym (fields_left-field place name value rest)) ∙ ap (λ (fs : Fields). front ++ fields_left place fs) (sym is) ∙ so_far)

items_left-end : (place : ℕ) → items_left place no_items ≡ []
unfolding printed
items_left-end zero = refl
items_left-end (suc place) = refl

fields_left-end : (place : ℕ) → fields_left place no_fields ≡ []
unfolding printed
fields_left-end zero = refl
fields_left-end (suc place) = refl

pub array_written : (place : ℕ) (items : Trees) (front old : List ℕ) → trees_from place items ≡ no_items → front ++ items_left place (trees_from place items) ≡ (old ++ codes "[") ++ printed_items items
    → front ++ codes "]" ≡ old ++ printed (array items)
unfolding printed
array_written place items front old end so_far =
    let all : front ≡ (old ++ codes "[") ++ printed_items items = sym (append-nil front) ∙ ap (λ (x : List ℕ). front ++ x) (sym (ap (items_left place) end ∙ items_left-end place)) ∙ so_far in
    rw all (simp append_assoc)

pub document_written : (place : ℕ) (fields : Fields) (front old : List ℕ) → fields_from place fields ≡ no_fields → front ++ fields_left place (fields_from place fields) ≡ (old ++ codes "{") ++ printed_fields fields
    → front ++ codes "}" ≡ old ++ printed (document fields)
unfolding printed
document_written place fields front old end so_far =
    let all : front ≡ (old ++ codes "{") ++ printed_fields fields = sym (append-nil front) ∙ ap (λ (x : List ℕ). front ++ x) (sym (ap (fields_left place) end ∙ fields_left-end place)) ∙ so_far in
    rw all (simp append_assoc)

-- a value inside is smaller
pub item_smaller : (place : ℕ) (items rest : Trees) (value : Tree) → trees_from place items ≡ item value rest → 2 * tree_size value + 1 < 2 * trees_size items
item_smaller place items rest value is = omega (arith, trees_from-size place items, ap trees_size is)

pub field_smaller : (place : ℕ) (fields rest : Fields) (name : List ℕ) (value : Tree) → fields_from place fields ≡ field name value rest → 2 * tree_size value + 1 < 2 * fields_size fields
field_smaller place fields rest name value is = omega (arith, fields_from-size place fields, ap fields_size is)
