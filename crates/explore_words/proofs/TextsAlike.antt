-- Texts of which one begins with the other.
use Rattle.std.proofs.Common.{◌≡◌, ℕ, ◌==◌, Bool, true, false, ◌&&◌, ◌||◌, List, [], ◌∷◌, ◌++◌, refl, arith}
use Rattle.std.specs.List.{starts_with}
use Rattle.explore_words.specs.Texts.{begin_alike}

or_true : (a : Bool) → true ≡ (a || true)
or_true true = refl
or_true false = refl

heads : (c d : ℕ) (alike one other : Bool) → alike ≡ (one || other) → ((c == d) && alike) ≡ (((d == c) && one) || ((c == d) && other))
heads c d alike one other same = by (c == d) refl
  where
    by : (b : Bool) → b ≡ (c == d) → ((c == d) && alike) ≡ (((d == c) && one) || ((c == d) && other))
    by true is = let back : (d == c) ≡ true = grind (arith, is) in rw (← is, back) same
    by false is = let back : (d == c) ≡ false = grind (arith, is) in rw (← is, back) refl

pub alike_is : (one other : List ℕ) → begin_alike one other ≡ (starts_with ◌==◌ one other || starts_with ◌==◌ other one)
alike_is [] other = or_true (starts_with ◌==◌ [] other)
alike_is (c ∷ one) [] = refl
alike_is (c ∷ one) (d ∷ other) =
    heads c d (begin_alike one other) (starts_with ◌==◌ one other) (starts_with ◌==◌ other one) (alike_is one other)

and_apart : (b x y : Bool) → (x ≡ false → y ≡ false) → (b && x) ≡ false → (b && y) ≡ false
and_apart true x y stays apart = stays apart
and_apart false x y stays apart = refl

-- texts that differ so still differ where one of them goes on
pub still_apart : (text more word : List ℕ) → begin_alike text word ≡ false → begin_alike (text ++ more) word ≡ false
still_apart [] more word apart = absurd cc
still_apart (c ∷ text) more [] apart = absurd cc
still_apart (c ∷ text) more (d ∷ word) apart =
    and_apart (c == d) (begin_alike text word) (begin_alike (text ++ more) word) (still_apart text more word) apart
