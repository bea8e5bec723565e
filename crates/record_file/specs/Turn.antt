-- Items that stand one after the other in a record's bytes.
use Rattle.std.specs.Prelude.{◌≡◌, ℕ, List, ◌++◌, length, All}
use Rattle.std.specs.List.{flat_map}

-- this many items stand one after the other
pub record StandInTurn {A : Type 0} (IsItem : A → Type 0) (item_bytes : A → List ℕ) (count : ℕ)
    (items : List A) (bytes : List ℕ) : Type 0 where
  pub number : length items ≡ count
  pub each : All IsItem items
  pub spelled : bytes ≡ flat_map item_bytes items

-- wherever the bytes begin with such a thing, it is the one that was read, and the rest follows it
abbrev pub Reads : {A : Type 0} → (A → Type 0) → (A → List ℕ) → List ℕ → A → List ℕ → Type 0
Reads {A = A} IsItem item_bytes bytes read rest =
    (item : A) (after : List ℕ) → IsItem item → bytes ≡ item_bytes item ++ after
    → (read ≡ item) × (rest ≡ after)

-- the bytes begin with such a thing
abbrev pub BeginsWith : {A : Type 0} → (A → Type 0) → (A → List ℕ) → List ℕ → Type 0
BeginsWith {A = A} IsItem item_bytes bytes =
    (item : A) × (after : List ℕ) × IsItem item × (bytes ≡ item_bytes item ++ after)
