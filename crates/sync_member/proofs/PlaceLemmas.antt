-- Two elements of a list are taken out, and two others put in their place.
use Rattle.std.proofs.Common.{◌≡◌, ◌∙◌, ◌<◌, ◌≤◌, ◌+◌, ap, sym, subst, refl, arith, ℕ, zero, suc, Some, List, [], ◌∷◌, length, drop, slice_get, slice_set, slice_index_or}
use Rattle.std.proofs.lemmas.List.Elements.{All-get_or}
use Rattle.std.proofs.lemmas.Option.{get_or_from_slice_get, slice_get-get_or, slice_get_within}
use Rattle.std.specs.Prelude.{All, insert, remove}

pub both_back : {A : Type 0} (xs : List A) (place : ℕ) (one two : A) → place + 2 ≤ length xs
    → insert (insert (remove (remove xs place) place) place two) place one ≡ slice_set (slice_set xs place one) (place + 1) two
both_back [] place one two room = absurd (omega (arith, room))
both_back (x ∷ []) zero one two room = absurd (omega (arith, room))
both_back (x ∷ y ∷ xs) zero one two room = refl
both_back (x ∷ xs) (suc place) one two room =
    ap (λ l. x ∷ l) (both_back xs place one two (omega (arith, room)))
    ∙ ap (λ n. slice_set (x ∷ slice_set xs place one) n two) (let same : suc (place + 1) ≡ suc place + 1 = omega arith in same)

pub first_there : {A : Type 0} (xs : List A) (place : ℕ) (x : A) → place < length xs → x ≡ slice_index_or xs place x → slice_get xs place ≡ Some x
first_there xs place x within is = slice_get-get_or xs place x within ∙ ap Some (sym is)

-- what followed the first
pub second_there : {A : Type 0} (xs : List A) (place : ℕ) (x : A) → place + 2 ≤ length xs → x ≡ slice_index_or (remove xs place) place x → slice_get xs (place + 1) ≡ Some x
second_there [] place x room is = absurd (omega (arith, room))
second_there (y ∷ []) zero x room is = absurd (omega (arith, room))
second_there (y ∷ z ∷ xs) zero x room is = ap Some (sym is)
second_there (y ∷ xs) (suc place) x room is =
    ap (λ n. slice_get (y ∷ xs) n) (let same : suc place + 1 ≡ suc (place + 1) = omega arith in same) ∙ second_there xs place x (omega (arith, room)) is

-- each element from a place on
pub of_rest : {A : Type 0} (P : A → Type 0) (xs : List A) (from place : ℕ) (x : A) → from ≤ place → slice_get xs place ≡ Some x → All P (drop from xs) → P x
of_rest P xs zero place x order there all = subst P (get_or_from_slice_get xs place x x there) (All-get_or P xs place x (slice_get_within xs place x there) all)
of_rest P [] (suc from) place x order there all = absurd (cc there)
of_rest P (y ∷ xs) (suc from) zero x order there all = absurd (omega (arith, order))
of_rest P (y ∷ xs) (suc from) (suc place) x order there all = of_rest P xs from place x (omega (arith, order)) there all
