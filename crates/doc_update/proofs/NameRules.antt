-- Names of fields, and fields by their places.
use Rattle.std.proofs.Common.{◌≡◌, ◌≤◌, cond, ℕ, zero, suc, Bool, true, false, ◌&&◌, ◌||◌, List, [], ◌∷◌, ◌++◌, is_some, refl, arith, ap, ◌∙◌}
use Rattle.std.specs.Str.{bytes_eq}
use Rattle.std.specs.Ordering.{nat_cmp, is_eq}
use Rattle.std.specs.Cmp.Lexicographic.{slice_cmp}
use Rattle.std.proofs.lemmas.Map.Text.{is_eq-slice_cmp}
use Rattle.bson_doc.specs.Tree.{Fields, no_fields, field, found, fields_from}
use Rattle.bson_doc.proofs.DocLemmas.{fields_from-zero, fields_from-end, trees_from-zero, trees_from-end}
use Rattle.oplog_entry.specs.Lawful.{is_among}
use Rattle.oplog_entry.proofs.FieldLemmas.{alike_swapped}
use Rattle.doc_update.specs.Increment.{has_wrong_side}
use Rattle.doc_update.proofs.OrderLemmas.{placed_all-join}
use Rattle.doc_update.specs.Check.{names_of, all_names, given, all_good, has_twice}

pub all_good-append : (a b : List (List ℕ)) → all_good (a ++ b) ≡ (all_good a && all_good b)
all_good-append [] b = refl
all_good-append (name ∷ a) b = grind (arith, all_good-append a b)

pub is_among-append : (name : List ℕ) (a b : List (List ℕ)) → is_among name (a ++ b) ≡ (is_among name a || is_among name b)
is_among-append name [] b = refl
is_among-append name (first ∷ a) b = grind (arith, is_among-append name a b)

-- a field is found where its name is among the names
pub found-names_of : (name : List ℕ) (fields : Fields) → is_some (found name fields) ≡ is_among name (names_of fields)
found-names_of name no_fields = refl
found-names_of name (field first value rest) = grind (arith, alike_swapped first name, found-names_of name rest)

-- a name that stands twice among the last names stands twice among all
pub has_twice-append : (a b : List (List ℕ)) → has_twice b ≡ true → has_twice (a ++ b) ≡ true
has_twice-append [] b twice = twice
has_twice-append (name ∷ a) b twice = grind (arith, has_twice-append a b twice)

-- ---- from the last field to the first
pub fields_from-first : (fields : Fields) (place : ℕ) → place ≤ 0 → fields_from place fields ≡ fields
fields_from-first fields place first =
    let start : place ≡ 0 = omega arith in ap (λ n. fields_from n fields) start ∙ fields_from-zero fields

-- one name more that was seen
pub seen-step : (name q : List ℕ) (names : List (List ℕ)) (before now : Bool) → now ≡ cond (is_eq (slice_cmp nat_cmp name q)) true before → before ≡ is_among q names → now ≡ is_among q (name ∷ names)
seen-step name q names before now is held =
    is ∙ ap (λ b. cond b true before) (is_eq-slice_cmp name q ∙ alike_swapped name q) ∙ ap (λ b. cond (bytes_eq q name) true b) held ∙ by_name (bytes_eq q name)
  where
    by_name : (b : Bool) → cond b true (is_among q names) ≡ (b || is_among q names)
    by_name true = refl
    by_name false = refl

-- a name that stands twice from some place on stands twice
pub has_twice-names_of : (fields : Fields) (place : ℕ) (others : List (List ℕ)) → has_twice (names_of (fields_from place fields) ++ others) ≡ true → has_twice (names_of fields ++ others) ≡ true
has_twice-names_of no_fields place others twice = twice
has_twice-names_of (field name value rest) zero others twice = twice
has_twice-names_of (field name value rest) (suc place) others twice = grind (arith, has_twice-names_of rest place others twice)

pub has_twice-all_names : (operators : Fields) (place : ℕ) → has_twice (all_names (fields_from place operators)) ≡ true → has_twice (all_names operators) ≡ true
has_twice-all_names no_fields place twice = twice
has_twice-all_names (field name value rest) zero twice = twice
has_twice-all_names (field name value rest) (suc place) twice =
    has_twice-append (names_of (given value)) (all_names rest) (has_twice-all_names rest place twice)

pub ruleset places = (fields_from-zero, fields_from-first, fields_from-end)

pub ruleset names = (fields_from-zero, fields_from-first, fields_from-end, all_good-append, is_among-append, found-names_of)

pub ruleset both_places = (fields_from-zero, fields_from-end, trees_from-zero, trees_from-end)

-- a wrong side among the last fields is one among all
pub has_wrong_side-from : (document operands : Fields) (place : ℕ) → has_wrong_side document (fields_from place operands) ≡ true → has_wrong_side document operands ≡ true
has_wrong_side-from document no_fields place wrong = wrong
has_wrong_side-from document (field name operand rest) zero wrong = wrong
has_wrong_side-from document (field name operand rest) (suc place) wrong = grind (arith, has_wrong_side-from document rest place wrong)

pub ruleset sides = (fields_from-zero, fields_from-first, fields_from-end, has_wrong_side-from)

pub ruleset joins = (placed_all-join)
