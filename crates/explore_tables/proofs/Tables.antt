-- What tables have, as they grow.
use Rattle.std.proofs.Common.{◌≡◌, ◌∙◌, ◌⊎◌, ◌+◌, ◌==◌, inl, inr, ap, sym, subst, refl, arith, ℕ, zero, suc, cond, length, Some, List, [], ◌∷◌, ◌++◌, slice_get}
use Rattle.std.proofs.lemmas.List.Sums.{sum_by-append}
use Rattle.rs_optime.specs.Membership.{In}
use Rattle.explore_tables.specs.Growing.{AddsAtMost}
use Rattle.explore_tables.specs.Numbers.{IsWith, times}

get_front : {A : Type 0} (xs ys : List A) (place : ℕ) (x : A) → slice_get xs place ≡ Some x → slice_get (xs ++ ys) place ≡ Some x
get_front [] ys place x is = absurd (cc is)
get_front (y ∷ xs) ys zero x is = is
get_front (y ∷ xs) ys (suc place) x is = get_front xs ys place x is

pub get_added : {A : Type 0} (xs : List A) (x : A) → slice_get (xs ++ x ∷ []) (length xs) ≡ Some x
get_added [] x = refl
get_added (y ∷ xs) x = get_added xs x

-- numbers keep their meaning
pub keeps : {A : Type 0} (value : A) (old new : List A) → AddsAtMost value old new → (number : ℕ) (x : A) → slice_get old number ≡ Some x → slice_get new number ≡ Some x
keeps value old new (inl same) number x is = ap (λ xs. slice_get xs number) same ∙ is
keeps value old new (inr more) number x is = ap (λ xs. slice_get xs number) more ∙ get_front old (value ∷ []) number x is

-- ---- lists of numbers

more_in : (number other : ℕ) (front back : List ℕ) → In other (front ++ number ∷ back) → In other (front ++ back) ⊎ (other ≡ number)
more_in number other [] back (inl same) = inr (sym same)
more_in number other [] back (inr after) = inl after
more_in number other (x ∷ front) back (inl same) = inl (inl same)
more_in number other (x ∷ front) back (inr there) = go (more_in number other front back there)
  where
    go : In other (front ++ back) ⊎ (other ≡ number) → In other (x ∷ front ++ back) ⊎ (other ≡ number)
    go (inl before) = inl (inr before)
    go (inr same) = inr same

in_more : (number other : ℕ) (front back : List ℕ) → In other (front ++ back) → In other (front ++ number ∷ back)
in_more number other [] back there = inr there
in_more number other (x ∷ front) back (inl same) = inl same
in_more number other (x ∷ front) back (inr there) = inr (in_more number other front back there)

in_middle : (number : ℕ) (front back : List ℕ) → In number (front ++ number ∷ back)
in_middle number [] back = inl refl
in_middle number (x ∷ front) back = inr (in_middle number front back)

-- what is in a list with a number more
pub with_in : (number : ℕ) (old new : List ℕ) → IsWith number old new → (other : ℕ) → In other new → In other old ⊎ (other ≡ number)
with_in number old new (front, back, was, is) other there =
    let P : List ℕ → Type 0 = λ xs. In other xs ⊎ (other ≡ number) in
    subst P (sym was) (more_in number other front back (subst (λ xs. In other xs) is there))

pub in_with : (number : ℕ) (old new : List ℕ) → IsWith number old new → (other : ℕ) → In other old → In other new
in_with number old new (front, back, was, is) other there =
    subst (λ xs. In other xs) (sym is) (in_more number other front back (subst (λ xs. In other xs) was there))

pub with_itself : (number : ℕ) (old new : List ℕ) → IsWith number old new → In number new
with_itself number old new (front, back, was, is) =
    subst (λ xs. In number xs) (sym is) (in_middle number front back)

-- how often a number is in it
pub with_times : (number : ℕ) (old new : List ℕ) → IsWith number old new → (other : ℕ) → times other new ≡ times other old + cond (number == other) 1 0
with_times number old new (front, back, was, is) other = ap (times other) is ∙ more ∙ ap (λ n. n + cond (number == other) 1 0) (ap (times other) (sym was))
  where
    more : times other (front ++ number ∷ back) ≡ times other (front ++ back) + cond (number == other) 1 0
    more = omega (arith, sum_by-append (λ (n : ℕ). cond (n == other) 1 0) front back, sum_by-append (λ (n : ℕ). cond (n == other) 1 0) front (number ∷ back), sum_by-append (λ (n : ℕ). cond (n == other) 1 0) (number ∷ []) back)
