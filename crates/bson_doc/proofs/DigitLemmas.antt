-- How many digits a number has, counted by dividing by ten.
use Rattle.std.proofs.Common.{ℕ, zero, suc, ◌≡◌, ◌+◌, ◌/◌, ◌%◌, ◌^◌, ◌<◌, Bool, true, false, List, [], ◌∷◌, length, if◌then◌else◌, ◌==◌, refl, arith, inl, inr}
use Rattle.std.specs.Fmt.{decimal, digits, digits_onto, digit_glyph}
use Rattle.std.proofs.lemmas.Bool.{cases_Bool, eqb-true}
use Rattle.std.proofs.Math.Nat.{pow-suc}

-- the digits of what is left, none for 0
abbrev pub digits_left : ℕ → ℕ → ℕ
digits_left zero left = 0
digits_left (suc f) left = if left == 0 then 0 else 1 + digits_left f (left / 10)

same_length : (b : Bool) (xs : List ℕ) → length (if b then xs else xs) ≡ length xs
same_length true xs = refl
same_length false xs = refl

length-onto : (f n : ℕ) (acc : List ℕ) → length (digits_onto (suc f) 10 false n acc) ≡ 1 + length acc + digits_left f (n / 10)
length-onto zero n acc = omega (arith, same_length (n / 10 == 0) (digit_glyph false (n % 10) ∷ acc))
length-onto (suc f) n acc = elim (cases_Bool (n / 10 == 0)) [
  | inl none ↦ rw none (omega arith)
  | inr more ↦ rw more (omega (arith, length-onto f (n / 10) (digit_glyph false (n % 10) ∷ acc)))
]

pub length-decimal : (n : ℕ) → length (decimal n) ≡ 1 + digits_left 63 (n / 10)
unfolding digits
length-decimal n = length-onto 63 n []

pub none_left : (f : ℕ) → digits_left f 0 ≡ 0
none_left zero = refl
none_left (suc f) = refl

pub one_digit : (f left : ℕ) → 0 < left → left < 10 ^ f → (g : ℕ) × (f ≡ suc g) × (left / 10 < 10 ^ g) × (digits_left f left ≡ 1 + digits_left g (left / 10))
one_digit zero left some below = absurd (omega arith)
one_digit (suc g) left some below = elim (cases_Bool (left == 0)) [
  | inl none ↦ absurd (omega (arith, eqb-true left 0 none))
  | inr more ↦ (g, refl, omega (arith, pow-suc 10 g), rw more refl)
]
