-- Lists of numbers, in whatever order.
use Rattle.std.specs.Prelude.{◌≡◌, ◌==◌, ℕ, List, ◌∷◌, ◌++◌}
use Rattle.std.specs.List.{count_by}

-- how often a number is among them
abbrev pub times : ℕ → List ℕ → ℕ
times number numbers = count_by (λ other. other == number) numbers

-- a list is another with a number more, at some place
abbrev pub IsWith : ℕ → List ℕ → List ℕ → Type 0
IsWith number old new =
    (front : List ℕ) × (back : List ℕ) × (old ≡ front ++ back) × (new ≡ front ++ number ∷ back)
