-- Maps by number: how a map changes, and what it then has.
use Rattle.std.proofs.Common.{◌≡◌, ◌≢◌, ◌⊎◌, inl, inr, ℕ, Bool, true, false, cond, List, [], ◌∷◌, Option, None, Some, refl, sym, ap, ◌∙◌}
use Rattle.std.specs.Ordering.{eq_by_cmp, is_eq, nat_cmp}
use Rattle.std.specs.Cmp.{nat_cmp_total, eq_by_cmp_equiv, tied_itself, Equal-is}
use Rattle.std.specs.Map.{lookup}
use Rattle.std.specs.BTreeMap.{is_at}
use Rattle.std.specs.FinMap.{FinMap, find, get, insert, remove, from_entries, get-from_entries, get-insert, get-remove, same_map, nat_cmp-IsAntisymmetric}

-- what a map's entries have at a number
abbrev value_at : {V : Type 0} → List (ℕ × V) → ℕ → Option V
value_at es number = lookup (is_at (nat_cmp number)) es

find-value_at : {V : Type 0} (es : List (ℕ × V)) (number : ℕ) → find nat_cmp number es ≡ value_at es number
find-value_at [] number = refl
find-value_at (e ∷ es) number = ap (cond (is_at (nat_cmp number) e.0) (Some e.1)) (find-value_at es number)

pub get-from_pairs : {V : Type 0} (es : List (ℕ × V)) (number : ℕ) → get (from_entries {R = nat_cmp} es) number ≡ value_at es number
get-from_pairs es number = get-from_entries nat_cmp_total es number ∙ find-value_at es number

-- entries with one more make the map with it
pub pairs_with : {V : Type 0} (old new : List (ℕ × V)) (number : ℕ) (value : V)
    → ((q : ℕ) → value_at new q ≡ cond (is_at (nat_cmp number) q) (Some value) (value_at old q))
    → from_entries {R = nat_cmp} new ≡ insert (from_entries old) number value
pairs_with old new number value differ =
    same_map nat_cmp_total nat_cmp-IsAntisymmetric _ _ (λ q.
    get-from_pairs new q ∙ differ q
    ∙ ap (λ b. cond b (Some value) (value_at old q)) ((eq_by_cmp_equiv nat_cmp_total).symm number q)
    ∙ sym (get-insert nat_cmp_total (from_entries old) number value q ∙ ap (cond (eq_by_cmp nat_cmp q number) (Some value)) (get-from_pairs old q)))

-- and those with one less the map without it
pub pairs_without : {V : Type 0} (old new : List (ℕ × V)) (number : ℕ)
    → ((q : ℕ) → value_at new q ≡ cond (is_at (nat_cmp number) q) None (value_at old q))
    → from_entries {R = nat_cmp} new ≡ remove (from_entries old) number
pairs_without old new number differ =
    same_map nat_cmp_total nat_cmp-IsAntisymmetric _ _ (λ q.
    get-from_pairs new q ∙ differ q
    ∙ ap (λ b. cond b None (value_at old q)) ((eq_by_cmp_equiv nat_cmp_total).symm number q)
    ∙ sym (get-remove nat_cmp_total (from_entries old) number q ∙ ap (cond (eq_by_cmp nat_cmp q number) None) (get-from_pairs old q)))

-- two numbers are one, or they are told apart
pub same_or_apart : (one two : ℕ) → ((one ≡ two) × (eq_by_cmp nat_cmp one two ≡ true)) ⊎ ((one ≢ two) × (eq_by_cmp nat_cmp one two ≡ false))
same_or_apart one two = by_test (eq_by_cmp nat_cmp one two) refl
  where
    itself : one ≡ two → eq_by_cmp nat_cmp one two ≡ true
    itself same = ap (λ n. eq_by_cmp nat_cmp one n) (sym same) ∙ ap is_eq (tied_itself nat_cmp_total one)

    by_test : (b : Bool) → eq_by_cmp nat_cmp one two ≡ b → ((one ≡ two) × (eq_by_cmp nat_cmp one two ≡ true)) ⊎ ((one ≢ two) × (eq_by_cmp nat_cmp one two ≡ false))
    by_test true is = inl (nat_cmp-IsAntisymmetric one two ((Equal-is _).0 is), is)
    by_test false is = inr (λ same. let also = itself same in cc, is)

-- what was put in, and any other
pub get-with-same : {V : Type 0} (map : FinMap nat_cmp V) (number : ℕ) (value : V) → get (insert map number value) number ≡ Some value
get-with-same map number value =
    get-insert nat_cmp_total map number value number
    ∙ ap (λ r. cond (is_eq r) (Some value) (get map number)) (tied_itself nat_cmp_total number)

pub get-with-other : {V : Type 0} (map : FinMap nat_cmp V) (number other : ℕ) (value : V) → other ≢ number → get (insert map number value) other ≡ get map other
get-with-other map number other value apart =
    get-insert nat_cmp_total map number value other
    ∙ elim (same_or_apart other number) [
      | inl same ↦ absurd (apart same.0)
      | inr differ ↦ ap (λ b. cond b (Some value) (get map other)) differ.1
    ]

pub get-without-same : {V : Type 0} (map : FinMap nat_cmp V) (number : ℕ) → get (remove map number) number ≡ None
get-without-same map number =
    get-remove nat_cmp_total map number number ∙ ap (λ r. cond (is_eq r) None (get map number)) (tied_itself nat_cmp_total number)

pub get-without-other : {V : Type 0} (map : FinMap nat_cmp V) (number other : ℕ) → other ≢ number → get (remove map number) other ≡ get map other
get-without-other map number other apart =
    get-remove nat_cmp_total map number other
    ∙ elim (same_or_apart other number) [
      | inl same ↦ absurd (apart same.0)
      | inr differ ↦ ap (λ b. cond b None (get map other)) differ.1
    ]
