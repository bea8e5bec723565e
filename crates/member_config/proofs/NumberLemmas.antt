-- Putting numbers in order keeps their count.
use Rattle.std.proofs.Common.{◌≡◌, refl, arith, Bool, true, false, cond, List, [], ◌∷◌, ℕ, suc, length}
use Rattle.std.specs.Prelude.{nat_lt}
use Rattle.member_config.specs.Numbers.{put, in_order}

length-put : (number : ℕ) (numbers : List ℕ) → length (put number numbers) ≡ suc (length numbers)
length-put number [] = refl
length-put number (other ∷ numbers) = go (length-put number numbers) (nat_lt other number)
  where
    go : length (put number numbers) ≡ suc (length numbers) → (b : Bool)
        → length (cond b (other ∷ put number numbers) (number ∷ other ∷ numbers)) ≡ suc (suc (length numbers))
    go rest true = omega (arith, rest)
    go rest false = omega arith

pub length-in_order : (numbers : List ℕ) → length (in_order numbers) ≡ length numbers
length-in_order [] = refl
length-in_order (number ∷ numbers) =
    let one_more : length (put number (in_order numbers)) ≡ suc (length (in_order numbers)) = length-put number (in_order numbers) in
    let rest : length (in_order numbers) ≡ length numbers = length-in_order numbers in
    omega (arith, one_more, rest)
