-- How an index of a document's names grows, from the last field to the first.
use Rattle.std.proofs.Common.{◌≡◌, ℕ, Bool, true, false, cond, List, ◌∷◌, ◌||◌, Option, None, Some, refl, sym, ap, ◌∙◌, arith, option_and_then}
use Rattle.std.specs.Ordering.{nat_cmp, is_eq}
use Rattle.std.specs.Str.{bytes_eq}
use Rattle.std.specs.Cmp.Lexicographic.{slice_cmp}
use Rattle.std.proofs.lemmas.Map.Text.{is_eq-slice_cmp}
use Rattle.bson_doc.specs.Tree.{Tree, Fields, field, fields_from, count, found, Trees, trees_from, items_count}
use Rattle.oplog_entry.specs.Index.{value_at, first_value}
use Rattle.oplog_entry.specs.Lawful.{is_among}
use Rattle.oplog_entry.specs.Step.{strings_of}
use Rattle.bson_doc.proofs.DocLemmas.{fields_from-end, trees_from-end}
use Rattle.oplog_entry.proofs.FieldLemmas.{alike_swapped}

-- no place is kept yet, and no field follows
pub index-init : (d : Fields) (q : List ℕ) (o : Option ℕ) → o ≡ None → option_and_then (value_at d) o ≡ found q (fields_from (count d) d)
index-init d q o none = ap (option_and_then (value_at d)) none ∙ ap (found q) (sym (fields_from-end d (count d) (omega arith)))

-- one field more, in front of those that are kept
pub index-step : (d : Fields) (place : ℕ) (name q : List ℕ) (value : Tree) (rest : Fields) (before now : Option ℕ) → fields_from place d ≡ field name value rest → now ≡ cond (is_eq (slice_cmp nat_cmp name q)) (Some place) before → option_and_then (value_at d) before ≡ found q rest → option_and_then (value_at d) now ≡ found q (fields_from place d)
index-step d place name q value rest before now here is held =
    ap (option_and_then (value_at d)) (is ∙ ap (λ b. cond b (Some place) before) (is_eq-slice_cmp name q))
    ∙ by_name (bytes_eq name q)
    ∙ ap (found q) (sym here)
  where
    by_name : (b : Bool) → option_and_then (value_at d) (cond b (Some place) before) ≡ cond b (Some value) (found q rest)
    by_name true = ap first_value here
    by_name false = held

pub strings-init : (vs : Trees) (q : List ℕ) → false ≡ is_among q (strings_of (trees_from (items_count vs) vs))
strings-init vs q = ap (λ t. is_among q (strings_of t)) (sym (trees_from-end vs (items_count vs) (omega arith)))

-- one string more, in front of those that are kept
pub strings-step : (name q : List ℕ) (rest : Trees) (before now : Bool) → now ≡ cond (is_eq (slice_cmp nat_cmp name q)) true before → before ≡ is_among q (strings_of rest) → now ≡ is_among q (name ∷ strings_of rest)
strings-step name q rest before now is held =
    is ∙ ap (λ b. cond b true before) (is_eq-slice_cmp name q ∙ alike_swapped name q) ∙ ap (λ b. cond (bytes_eq q name) true b) held ∙ by_name (bytes_eq q name)
  where
    by_name : (b : Bool) → cond b true (is_among q (strings_of rest)) ≡ (b || is_among q (strings_of rest))
    by_name true = refl
    by_name false = refl
