-- What `retain_mut` leaves of a row, as `retain` says it of a map.
use Rattle.std.proofs.Common.{◌≡◌, ◌∙◌, ap, sym, subst, Bool, true, false, cond, List, [], ◌∷◌}
use Rattle.std.specs.List.{AllByRecursion}
use Rattle.std.specs.List.Retain.{RetainsInTurn}
use Rattle.std.specs.List.Sorted.{IsStrictlySortedBy}
use Rattle.std.specs.Map.{keys_of}
use Rattle.std.specs.Map.Calls.{RetainsPairs}
use Rattle.std.specs.Ordering.{eq_by_cmp}
use Rattle.std.specs.declared.cmp.Ordering.{Ordering}
use Rattle.std.specs.declared.cmp.Ordering.TheVariants.{Less}
use Rattle.bson_doc.specs.Key.{key_cmp}
use Rattle.bson_doc.specs.declared.key.IdKey.{IdKey}
use Rattle.version_store.specs.Past.{Past, no_past}
use Rattle.version_store.specs.Documents.{Documents}
use Rattle.version_store.specs.Row.{AddsNoKey}
use Rattle.version_store.proofs.Keyed.{none_kept}

-- where the keys stay, the elements are pairs of a key and what was made of its value
pub pairs_kept : {S K X : Type 0} (R : S → K × X → Bool → S → K × X → Type 0)
    → ((s : S) (x : K × X) (b : Bool) (t : S) (y : K × X) → R s x b t y → y.0 ≡ x.0)
    → (s : S) (xs ys : List (K × X)) → RetainsInTurn R s xs ys → RetainsPairs (λ f k v b w g. R f (k, v) b g (k, w)) s xs ys
pairs_kept R stays s [] ys run = run
pairs_kept {S = S} {K = K} {X = X} R stays s (x ∷ xs) ys run =
    let same : run.2.0 ≡ x.0 = stays s x run.0 run.1 run.2 run.3 in (
      run.0,
      run.2.1,
      run.1,
      run.4,
      subst (λ (k : K). R s x run.0 run.1 (k, run.2.1)) same run.3,
      pairs_kept R stays run.1 xs run.4 run.5,
      run.6 ∙ ap (λ (k : K). cond run.0 ((k, run.2.1) ∷ run.4) run.4) same,
    )

module _ {F K X : Type 0} (T : F → K → X → Bool → X → F → Type 0) where
  all_kept : (P : K → Type 0) (f : F) (es kept : List (K × X)) → RetainsPairs T f es kept → AllByRecursion P (keys_of es) → AllByRecursion P (keys_of kept)
  all_kept P f [] kept run all = subst (λ (l : List (K × X)). AllByRecursion P (keys_of l)) (sym run) tt
  all_kept P f (e ∷ es) kept run all = subst (λ (l : List (K × X)). AllByRecursion P (keys_of l)) (sym run.6) (go run.0 (all_kept P run.2 es run.3 run.5 all.1))
    where
      go : (b : Bool) → AllByRecursion P (keys_of run.3) → AllByRecursion P (keys_of (cond b ((e.0, run.1) ∷ run.3) run.3))
      go true rest = (all.0, rest)
      go false rest = rest

  pub sorted_kept : (cmp : K → K → Ordering) (f : F) (es kept : List (K × X)) → RetainsPairs T f es kept → IsStrictlySortedBy cmp (keys_of es)
      → IsStrictlySortedBy cmp (keys_of kept)
  unfolding IsStrictlySortedBy
  sorted_kept cmp f [] kept run sorted = subst (λ (l : List (K × X)). IsStrictlySortedBy cmp (keys_of l)) (sym run) tt
  sorted_kept cmp f (e ∷ es) kept run sorted =
      subst (λ (l : List (K × X)). IsStrictlySortedBy cmp (keys_of l)) (sym run.6)
      (go run.0 (all_kept (λ y. cmp e.0 y ≡ Less) run.2 es run.3 run.5 sorted.0) (sorted_kept cmp run.2 es run.3 run.5 sorted.1))
    where
      go : (b : Bool) → AllByRecursion (λ y. cmp e.0 y ≡ Less) (keys_of run.3) → IsStrictlySortedBy cmp (keys_of run.3)
          → IsStrictlySortedBy cmp (keys_of (cond b ((e.0, run.1) ∷ run.3) run.3))
      go true below rest = (below, rest)
      go false below rest = rest

pub keeps_kept : {F : Type 0} (T : F → IdKey → Past → Bool → Past → F → Type 0) (f : F) (old new : Documents) → RetainsPairs T f old new → AddsNoKey old new
keeps_kept T f old new run id none = none_kept (eq_by_cmp key_cmp id) no_past T f old new run none
