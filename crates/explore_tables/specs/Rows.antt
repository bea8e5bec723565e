-- Rows of numbers, which stand one after another.
use Rattle.std.specs.Prelude.{◌≡◌, ◌<◌, ◌≤◌, ◌*◌, ◌^◌, ℕ, zero, suc, List, [], ◌∷◌, length, refl, take, drop}
use Rattle.std.specs.Coded.{Coded, code_by, coded_list, coded_ℕ, coded×}

-- so many rows, of `width` numbers each
abbrev pub rows_of : (width count : ℕ) → List ℕ → List (List ℕ)
rows_of width zero numbers = []
rows_of width (suc count) numbers = take width numbers ∷ rows_of width count (drop width numbers)

-- how many numbers each row has, and the rows
pub record Rows : Type 0 where
  pub width : ℕ
  pub rows : List (List ℕ)

abbrev pub rows_code : Coded Rows
rows_code =
    code_by (ℕ × List (List ℕ)) (coded× coded_ℕ (coded_list (coded_list coded_ℕ))) (λ t. (t.width, t.rows))
    (λ p. record { width = p.0; rows = p.1 }) (λ _. refl)

-- The numbers are just these rows, and those that an index has are among them.
pub record AreWhole (width count indexed : ℕ) (numbers : List ℕ) : Type 0 where
  pub whole : length numbers ≡ count * width
  pub found : indexed ≤ count
  pub few : count < 2 ^ 32
