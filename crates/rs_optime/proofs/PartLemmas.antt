-- A list in two parts: one passes a test, and the other doesn't.
use Rattle.std.proofs.Common.{◌≡◌, ap, refl, arith, Bool, true, false, List, [], ◌∷◌, ℕ, suc, zero, length, take, drop}
use Rattle.std.specs.List.{filter, AllWithin}

-- what is past a test from a place on is what passes it
pub drop_is_filter : {X : Type 0} (p : X → Bool) (xs : List X) (i : ℕ)
    → AllWithin (λ x. p x ≡ false) xs 0 i → AllWithin (λ x. p x ≡ true) xs i (length xs) → drop i xs ≡ filter p xs
drop_is_filter p [] zero front back = refl
drop_is_filter p [] (suc i) front back = refl
drop_is_filter p (x ∷ xs) zero front back =
    rw (back zero x (omega arith) (omega arith))
    (ap (λ ys. x ∷ ys) (drop_is_filter p xs zero (λ k d one two. absurd (omega arith)) (λ k d one two. back (suc k) d (omega arith) (omega arith))))
drop_is_filter p (x ∷ xs) (suc i) front back =
    rw (front zero x (omega arith) (omega arith))
    (drop_is_filter p xs i (λ k d one two. front (suc k) d (omega arith) (omega arith)) (λ k d one two. back (suc k) d (omega arith) (omega arith)))

-- what is within a test up to a place is what passes it
pub take_is_filter : {X : Type 0} (p : X → Bool) (xs : List X) (i : ℕ)
    → AllWithin (λ x. p x ≡ true) xs 0 i → AllWithin (λ x. p x ≡ false) xs i (length xs) → take i xs ≡ filter p xs
take_is_filter p [] zero front back = refl
take_is_filter p [] (suc i) front back = refl
take_is_filter p (x ∷ xs) zero front back =
    rw (back zero x (omega arith) (omega arith))
    (take_is_filter p xs zero (λ k d one two. absurd (omega arith)) (λ k d one two. back (suc k) d (omega arith) (omega arith)))
take_is_filter p (x ∷ xs) (suc i) front back =
    rw (front zero x (omega arith) (omega arith))
    (ap (λ ys. x ∷ ys) (take_is_filter p xs i (λ k d one two. front (suc k) d (omega arith) (omega arith)) (λ k d one two. back (suc k) d (omega arith) (omega arith))))
