-- What a map lists, and what of it can be found.
use Rattle.std.proofs.Common.{◌≡◌, ◌∙◌, ℕ, Bool, T, true, false, ◌&&◌, List, [], ◌∷◌, sym, ap, subst}
use Rattle.std.specs.List.{AllByRecursion}
use Rattle.std.specs.Ordering.{is_lt, nat_cmp}
use Rattle.std.specs.declared.cmp.Ordering.{Ordering}
use Rattle.std.specs.declared.cmp.Ordering.TheVariants.{Less}
use Rattle.std.specs.List.Sorted.{IsStrictlySortedBy}
use Rattle.std.specs.Cmp.{IsTotalOrder, nat_cmp_total}
use Rattle.std.specs.Map.{keys_of}
use Rattle.std.specs.FinMap.{IsAntisymmetric, entries, entries-from_sorted, from_entries, from_sorted, get-from_entries, get-from_sorted, is_sorted, nat_cmp-IsAntisymmetric, same_map}
use Rattle.std.specs.FinMap.Entries.{below_all}
use Rattle.bson_doc.specs.Place.{Place, place_cmp}
use Rattle.bson_doc.specs.Tree.{Fields}
use Rattle.bson_doc.proofs.KeyLemmas.{place_cmp-antisymmetric, place_cmp-total}

-- ---- entries in order

both : (a b : Bool) → T a → T b → T (a && b)
both true b p q = q
both false b p q = absurd p

below : {K V : Type 0} (R : K → K → Ordering) (first : K) (es : List (K × V)) → AllByRecursion (λ y. R first y ≡ Less) (keys_of es) → T (below_all R first es)
below R first [] all = tt
below R first (e ∷ es) all = both _ _ (subst (λ r. T (is_lt r)) (sym all.0) tt) (below R first es all.1)

sorted_pairs : {K V : Type 0} (R : K → K → Ordering) (es : List (K × V)) → IsStrictlySortedBy R (keys_of es) → T (is_sorted R es)
unfolding IsStrictlySortedBy
sorted_pairs R [] sorted = tt
sorted_pairs R (e ∷ es) sorted = both _ _ (below R e.0 es sorted.0) (sorted_pairs R es sorted.1)

-- the entries of a map that are in order are what it lists
in_order_listed : {K V : Type 0} {R : K → K → Ordering} → IsTotalOrder R → IsAntisymmetric R → (es : List (K × V)) → IsStrictlySortedBy R (keys_of es) → entries (from_entries {R = R} es) ≡ es
in_order_listed {R = R} total antisymmetric es sorted =
    let in_order = sorted_pairs R es sorted in
    let same : from_entries {R = R} es ≡ from_sorted es =
    same_map total antisymmetric _ _ (λ q. get-from_entries total es q ∙ sym (get-from_sorted R es q in_order)) in
    ap entries same ∙ entries-from_sorted R es in_order

pub pairs_listed : {V : Type 0} (es : List (ℕ × V)) → IsStrictlySortedBy nat_cmp (keys_of es) → entries (from_entries {R = nat_cmp} es) ≡ es
pairs_listed es sorted = in_order_listed nat_cmp_total nat_cmp-IsAntisymmetric es sorted

pub places_listed : (es : List (Place × Fields)) → IsStrictlySortedBy place_cmp (keys_of es) → entries (from_entries {R = place_cmp} es) ≡ es
places_listed es sorted = in_order_listed place_cmp-total place_cmp-antisymmetric es sorted
