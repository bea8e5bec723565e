-- Which list of records the bytes of a file represent.
--
-- A record is a gate byte, its length in 4 bytes with the lowest first, and its bytes. A gate is closed
-- where it is 0, and otherwise open. The records that count come before the first closed gate; what follows
-- it means nothing.
use Rattle.std.specs.Prelude.{◌≡◌, ◌≢◌, ◌⊎◌, ℕ, ◌^◌, ◌<◌, ◌≤◌, List, [], ◌∷◌, ◌++◌, length, map, Vec}
use Rattle.std.specs.Int.{to_le_bytes, w32}
use Rattle.std.specs.declared.alloc.Global.{Global}

-- a record after its gate
abbrev pub body : List ℕ → List ℕ
body piece = to_le_bytes w32 (length piece) ++ piece

-- the bytes are these records, each after an open gate
abbrev pub AreOpen : List (List ℕ) → List ℕ → Type 0
AreOpen [] bytes = bytes ≡ []
AreOpen (piece ∷ records) bytes = (gate : ℕ) × (rest : List ℕ)
    × (gate ≢ 0) × (length piece < 2 ^ 32) × (bytes ≡ gate ∷ body piece ++ rest) × AreOpen records rest

-- open records up to the first closed gate
abbrev pub AreInFront : List ℕ → List (List ℕ) → Type 0
AreInFront bytes records =
    (front : List ℕ) × (rest : List ℕ) × AreOpen records front × (bytes ≡ front ++ 0 ∷ rest)

-- the file's records: a file of at most one byte has none
abbrev pub HasRecords : List ℕ → List (List ℕ) → Type 0
HasRecords bytes records = ((length bytes ≤ 1) × (records ≡ [])) ⊎ AreInFront bytes records

abbrev pub lists : List (Vec ℕ Global) → List (List ℕ)
lists pieces = map (λ (v : Vec ℕ Global). v.items) pieces
