-- What stands at the places of lists.
use Rattle.std.proofs.Common.{◌≡◌, ◌==◌, ◌∙◌, ◌<◌, inl, inr, ap, sym, subst, refl, arith, ℕ, zero, suc, Bool, true, length, Some, List, [], ◌∷◌, map, slice_get, get_or}
use Rattle.std.specs.Option.{option_map}
use Rattle.std.specs.Prelude.{Result, Ok, Err, IfOk}
use Rattle.std.specs.List.{HoldsAt}
use Rattle.std.specs.List.Sorted.{IsSearchInRange}
use Rattle.std.specs.Ordering.{nat_cmp}
use Rattle.std.specs.Cmp.{unsigned_Decides}
use Rattle.std.specs.Cmp.Lexicographic.{pointwise}
use Rattle.std.specs.Result.{is_ok}
use Rattle.std.specs.declared.cmp.Ordering.TheVariants.{Equal}
use Rattle.std.proofs.lemmas.Map.Lookups.{exact_unsigned}
use Rattle.std.proofs.lemmas.Slice.Eq.{slice_eq-Decides}
use Rattle.std.proofs.lemmas.Option.{slice_get-map, slice_get_read}
use Rattle.rs_optime.specs.Membership.{In}
use Rattle.explore_tables.specs.declared.kept.KeptNumber.{KeptNumber}

pub in_at : {A : Type 0} (xs : List A) (place : ℕ) (d : A) → place < length xs → In (get_or xs place d) xs
in_at [] place d within = absurd (omega (arith, within))
in_at (x ∷ xs) zero d within = inl refl
in_at (x ∷ xs) (suc place) d within = inr (in_at xs place d (omega (arith, within)))

pub found_in : (numbers : List ℕ) (number : ℕ) (found : Result ℕ ℕ) → IsSearchInRange found (length numbers) → IfOk found (HoldsAt (λ y. nat_cmp y number ≡ Equal) numbers) → is_ok found ≡ true → In number numbers
found_in numbers number (Ok place) within there is =
    subst (λ (x : ℕ). In x numbers) (exact_unsigned (get_or numbers place 0) number (there 0)) (in_at numbers place 0 within)
found_in numbers number (Err place) within there is = absurd (cc is)

pub kept_in : (entries : List KeptNumber) (place one two : ℕ) (kept : KeptNumber) → place < length entries → kept ≡ get_or entries place kept → kept.one ≡ one → kept.two ≡ two
    → In (record { one = one; two = two; number = kept.number }) entries
kept_in entries place one two kept within is same_one same_two =
    subst (λ (k : KeptNumber). In k entries) (sym is ∙ same) (in_at entries place kept within)
  where
    same : kept ≡ record { one = one; two = two; number = kept.number }
    same =
        ap (λ (n : ℕ). let k : KeptNumber = record { one = n; two = kept.two; number = kept.number } in k) same_one
        ∙ ap (λ (n : ℕ). let k : KeptNumber = record { one = one; two = n; number = kept.number } in k) same_two

pub equal_lists : (xs ys : List ℕ) (answer : Bool) → answer ≡ pointwise ◌==◌ xs ys → answer ≡ true → xs ≡ ys
equal_lists xs ys answer is true_is = (slice_eq-Decides unsigned_Decides xs ys answer is).0 true_is

-- a list that is seen as its numbers
pub list_at : {V : Type 0} (view : V → List ℕ) (lists : List V) (place : ℕ) (one : V) (list : List ℕ) → place < length lists → one ≡ get_or lists place one → view one ≡ list
    → slice_get (map view lists) place ≡ Some list
list_at view lists place one list within is same =
    slice_get-map view lists place ∙ ap (option_map view) (slice_get_read lists (length lists) place one refl within is) ∙ ap Some same
