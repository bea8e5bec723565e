-- The lowest of some numbers, found from the first on.
use Rattle.std.proofs.Common.{◌≡◌, ◌∙◌, ap, sym, refl, arith, ℕ, Bool, true, false, cond, List, [], ◌∷◌, Option, None, Some, fold, min}
use Rattle.std.specs.Option.{option_map_or}
use Rattle.std.specs.Prelude.{nat_lt}
use Rattle.std.proofs.lemmas.Bool.Decides.{nat_tests}
use Rattle.member_config.specs.Numbers.{put, in_order, first_of, lowest}

-- the lower of a number and another, if there is one
abbrev pub or_lower : ℕ → Option ℕ → Option ℕ
or_lower number found = Some (option_map_or (min number) found number)

lower : (n other : ℕ) (rest more : List ℕ) (b : Bool) → nat_lt other n ≡ b
    → first_of (cond b (other ∷ rest) (n ∷ more)) ≡ Some (min n other)
lower n other rest more true less = ap (λ k. Some k) (let below : other ≡ min n other = grind (arith, nat_tests) in below)
lower n other rest more false late = ap (λ k. Some k) (let above : n ≡ min n other = grind (arith, nat_tests) in above)

first_of-put : (n : ℕ) (sorted : List ℕ) → first_of (put n sorted) ≡ or_lower n (first_of sorted)
first_of-put n [] = refl
first_of-put n (other ∷ sorted) = lower n other (put n sorted) (other ∷ sorted) (nat_lt other n) refl

joined : (n m : ℕ) (rest : Option ℕ) → or_lower (min m n) rest ≡ or_lower n (or_lower m rest)
joined n m None = ap (λ k. Some k) (let same : min m n ≡ min n m = omega arith in same)
joined n m (Some other) = ap (λ k. Some k) (let same : min (min m n) other ≡ min n (min m other) = omega arith in same)

-- the lower of what was found and the next, from the first on
abbrev pub with_next : Option ℕ → ℕ → Option ℕ
with_next found number = or_lower number found

from_first : (n : ℕ) (numbers : List ℕ) → fold with_next (Some n) numbers ≡ or_lower n (lowest numbers)
from_first n [] = refl
from_first n (m ∷ numbers) =
    from_first (min m n) numbers ∙ joined n m (lowest numbers) ∙ ap (or_lower n) (sym (first_of-put m (in_order numbers)))

pub fold-lowest : (numbers : List ℕ) → fold with_next None numbers ≡ lowest numbers
fold-lowest [] = refl
fold-lowest (n ∷ numbers) = from_first n numbers ∙ sym (first_of-put n (in_order numbers))
