-- What reading the records of some bytes finds.
use Rattle.std.specs.Prelude.{◌≡◌, ◌≢◌, ℕ, ◌+◌, ◌^◌, ◌<◌, List, ◌∷◌, ◌++◌, length}
use Rattle.record_file.specs.Records.{AreOpen, body}

-- a record after an open gate, and the rest
abbrev pub IsFirst : List ℕ → ℕ → List ℕ → List ℕ → Type 0
IsFirst bytes gate piece rest = (gate ≢ 0) × (length piece < 2 ^ 32) × (bytes ≡ gate ∷ body piece ++ rest)

-- the records up to the first closed gate, and the place after it
abbrev pub IsParsed : List ℕ → List (List ℕ) → ℕ → Type 0
IsParsed bytes records end = (front : List ℕ) × (rest : List ℕ) × AreOpen records front
    × (bytes ≡ front ++ 0 ∷ rest) × (end ≡ length front + 1)
