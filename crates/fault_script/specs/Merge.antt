-- Merges: several lists as one, each whole and in its own order.
use Rattle.std.specs.Prelude.{◌≡◌, ◌⊎◌, List, [], ◌∷◌}

-- each item of the merge is the next one of the first list or of the second, and nothing is left
abbrev pub Interleaves : {A : Type 0} → List A → List A → List A → Type 0
Interleaves {A} first second [] = (first ≡ []) × (second ≡ [])
Interleaves {A} first second (item ∷ merged) =
    ((rest : List A) × (first ≡ item ∷ rest) × Interleaves rest second merged)
    ⊎ ((rest : List A) × (second ≡ item ∷ rest) × Interleaves first rest merged)

-- the first list with a merge of the others
abbrev pub IsMerge : {A : Type 0} → List (List A) → List A → Type 0
IsMerge [] merged = merged ≡ []
IsMerge {A} (list ∷ lists) merged = (others : List A) × IsMerge lists others × Interleaves list others merged
