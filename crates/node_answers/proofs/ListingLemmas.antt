-- The documents that are found at the places of a map are its entries.
use Rattle.std.proofs.Common.{◌≡◌, ◌↔◌, ◌<◌, ◌+◌, ◌++◌, take, length, add-one, ℕ, Bool, true, false, cond, ◌&&◌, ◌||◌, T, List, [], ◌∷◌, map, Contains, Option, None, Some, IsSome, refl, sym, ap, subst, ◌∙◌, rules}
use Rattle.std.specs.Prelude.{slice_index_or}
use Rattle.std.proofs.Math.Seq.{take-suc}
use Rattle.std.proofs.lemmas.List.Elements.{filter_map-append}
use Rattle.std.specs.List.{filter_map, cons_option, list_any, AllByRecursion}
use Rattle.std.specs.List.Sorted.{IsStrictlySortedBy}
use Rattle.std.specs.Option.{option_map}
use Rattle.std.specs.Ordering.{eq_by_cmp, is_lt}
use Rattle.std.specs.Cmp.{Equal-is, eq_by_cmp_equiv}
use Rattle.std.specs.declared.cmp.Ordering.TheVariants.{Less}
use Rattle.std.specs.FinMap.{find, get, entries, from_sorted, entries-from_sorted, get-from_sorted, same_map, is_sorted}
use Rattle.std.specs.FinMap.Entries.{below_all}
use Rattle.std.proofs.lemmas.Map.Views.{list_any-from_Contains}
use Rattle.bson_doc.specs.Place.{Place, place_cmp}
use Rattle.bson_doc.specs.Tree.{Fields}
use Rattle.bson_doc.proofs.KeyLemmas.{place_cmp-total, place_cmp-antisymmetric}
use Rattle.oplog_entry.specs.Docs.{Documents}
use Rattle.set_model.specs.Reads.{listed}
use Rattle.node_answers.specs.Listing.{found_at}

-- the documents with their places
abbrev pairs_at : (Place → Option Fields) → List Place → List (Place × Fields)
pairs_at shown places = filter_map (λ place. option_map (λ document. (place, document)) (shown place)) places

abbrev named : Place × Fields → List ℕ × Fields
named e = (e.0.0, e.1)

found_at-pairs : (shown : Place → Option Fields) (places : List Place) → found_at shown places ≡ map named (pairs_at shown places)
found_at-pairs shown [] = refl
found_at-pairs shown (place ∷ places) =
    elim (shown place) as (λ d.
    cons_option (option_map (λ document. (place.0, document)) d) (found_at shown places) ≡ map named (cons_option (option_map (λ document. (place, document)) d) (pairs_at shown places))) [
      | None ↦ found_at-pairs shown places
      | Some document ↦ ap (λ (rest : List (List ℕ × Fields)). (place.0, document) ∷ rest) (found_at-pairs shown places)
    ]

both : (a b : Bool) → T a → T b → T (a && b)
both true b p q = q
both false b p q = absurd p

pairs_below : (shown : Place → Option Fields) (first : Place) (places : List Place) → AllByRecursion (λ y. place_cmp first y ≡ Less) places → T (below_all place_cmp first (pairs_at shown places))
pairs_below shown first [] below = tt
pairs_below shown first (place ∷ places) below =
    elim (shown place) as (λ d. T (below_all place_cmp first (cons_option (option_map (λ document. (place, document)) d) (pairs_at shown places)))) [
      | None ↦ pairs_below shown first places below.1
      | Some document ↦ both _ _ (subst (λ r. T (is_lt r)) (sym below.0) tt) (pairs_below shown first places below.1)
    ]

pairs_sorted : (shown : Place → Option Fields) (places : List Place) → IsStrictlySortedBy place_cmp places → T (is_sorted place_cmp (pairs_at shown places))
unfolding IsStrictlySortedBy
pairs_sorted shown [] sorted = tt
pairs_sorted shown (place ∷ places) sorted =
    elim (shown place) as (λ d. T (is_sorted place_cmp (cons_option (option_map (λ document. (place, document)) d) (pairs_at shown places)))) [
      | None ↦ pairs_sorted shown places sorted.1
      | Some document ↦ both _ _ (pairs_below shown place places sorted.0) (pairs_sorted shown places sorted.1)
    ]

either : (b : Bool) (o : Option Fields) → o ≡ None → cond b o None ≡ None
either true o none = none
either false o none = refl

-- what is found at a place among the pairs
find-pairs : (shown : Place → Option Fields) (places : List Place) (q : Place) → find place_cmp q (pairs_at shown places) ≡ cond (list_any (eq_by_cmp place_cmp q) places) (shown q) None
find-pairs shown [] q = refl
find-pairs shown (place ∷ places) q = by_test (eq_by_cmp place_cmp q place) refl (find-pairs shown places q)
  where
    same : eq_by_cmp place_cmp q place ≡ true → q ≡ place
    same is = place_cmp-antisymmetric q place ((Equal-is _).0 is)

    by_test : (b : Bool) → eq_by_cmp place_cmp q place ≡ b → find place_cmp q (pairs_at shown places) ≡ cond (list_any (eq_by_cmp place_cmp q) places) (shown q) None
        → find place_cmp q (pairs_at shown (place ∷ places)) ≡ cond (b || list_any (eq_by_cmp place_cmp q) places) (shown q) None
    by_test true here again =
        by_document (shown place) refl
      where
        by_document : (d : Option Fields) → shown place ≡ d → find place_cmp q (cons_option (option_map (λ document. (place, document)) (shown place)) (pairs_at shown places)) ≡ shown q
        by_document None is =
            ap (λ d. find place_cmp q (cons_option (option_map (λ document. (place, document)) d) (pairs_at shown places))) is
            ∙ again ∙ either (list_any (eq_by_cmp place_cmp q) places) (shown q) (ap shown (same here) ∙ is)
            ∙ sym (ap shown (same here) ∙ is)
        by_document (Some document) is =
            ap (λ d. find place_cmp q (cons_option (option_map (λ document. (place, document)) d) (pairs_at shown places))) is
            ∙ ap (λ b. cond b (Some document) (find place_cmp q (pairs_at shown places))) here
            ∙ sym (ap shown (same here) ∙ is)
    by_test false other again =
        elim (shown place) as (λ d. find place_cmp q (cons_option (option_map (λ document. (place, document)) d) (pairs_at shown places)) ≡ cond (list_any (eq_by_cmp place_cmp q) places) (shown q) None) [
          | None ↦ again
          | Some document ↦ ap (λ b. cond b (Some document) (find place_cmp q (pairs_at shown places))) other ∙ again
        ]

-- every place is there that shows a document
shown-listed : (shown : Place → Option Fields) (places : List Place) → ((place : Place) → Contains places place ↔ IsSome (shown place)) → (q : Place) → cond (list_any (eq_by_cmp place_cmp q) places) (shown q) None ≡ shown q
shown-listed shown places all q = by_test (list_any (eq_by_cmp place_cmp q) places) refl (shown q) refl
  where
    by_test : (b : Bool) → list_any (eq_by_cmp place_cmp q) places ≡ b → (d : Option Fields) → shown q ≡ d → cond b (shown q) None ≡ shown q
    by_test true here d is = refl
    by_test false absent None is = sym is
    by_test false absent (Some document) is =
        let there : Contains places q = (all q).1 (subst IsSome (sym is) (search rules)) in
        let found : list_any (eq_by_cmp place_cmp q) places ≡ true = list_any-from_Contains (eq_by_cmp_equiv place_cmp-total) q places there in
        absurd (cc)

-- the documents found at the places in order that show some are those of the map
pub found_at-listed : (shown : Place → Option Fields) (places : List Place) (documents : Documents) → IsStrictlySortedBy place_cmp places → ((place : Place) → Contains places place ↔ IsSome (shown place))
    → ((place : Place) → shown place ≡ get documents place) → found_at shown places ≡ listed documents
found_at-listed shown places documents sorted all is =
    let in_order = pairs_sorted shown places sorted in
    let same : from_sorted {R = place_cmp} (pairs_at shown places) ≡ documents =
    same_map place_cmp-total place_cmp-antisymmetric _ _ (λ q. get-from_sorted place_cmp (pairs_at shown places) q in_order ∙ find-pairs shown places q ∙ shown-listed shown places all q ∙ is q) in
    found_at-pairs shown places ∙ ap (map named) (sym (entries-from_sorted place_cmp (pairs_at shown places) in_order) ∙ ap entries same)

-- one place more
found_more : (shown : Place → Option Fields) (places : List Place) (i : ℕ) (place : Place) → i < length places → place ≡ slice_index_or places i place
    → found_at shown (take (i + 1) places) ≡ found_at shown (take i places) ++ cons_option (option_map (λ document. (place.0, document)) (shown place)) []
found_more shown places i place within is =
    rw (add-one, take-suc places i place within, ← is) (filter_map-append (λ (p : Place). option_map (λ document. (p.0, document)) (shown p)) (take i places) (place ∷ []))

pub found_more_some : (shown : Place → Option Fields) (places : List Place) (i : ℕ) (place : Place) (document : Fields) → i < length places → place ≡ slice_index_or places i place → shown place ≡ Some document
    → found_at shown (take (i + 1) places) ≡ found_at shown (take i places) ++ (place.0, document) ∷ []
found_more_some shown places i place document within is there =
    found_more shown places i place within is ∙ ap (λ d. found_at shown (take i places) ++ cons_option (option_map (λ document. (place.0, document)) d) []) there

pub found_more_none : (shown : Place → Option Fields) (places : List Place) (i : ℕ) (place : Place) → i < length places → place ≡ slice_index_or places i place → shown place ≡ None
    → found_at shown (take (i + 1) places) ≡ found_at shown (take i places)
found_more_none shown places i place within is absent =
    found_more shown places i place within is ∙ ap (λ d. found_at shown (take i places) ++ cons_option (option_map (λ document. (place.0, document)) d) []) absent ∙ append_nil (found_at shown (take i places))
  where
    append_nil : (xs : List (List ℕ × Fields)) → xs ++ [] ≡ xs
    append_nil [] = refl
    append_nil (x ∷ xs) = ap (λ (rest : List (List ℕ × Fields)). x ∷ rest) (append_nil xs)
