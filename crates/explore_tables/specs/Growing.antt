-- How tables grow. A value's number is its place, so numbers keep their meaning.
use Rattle.std.specs.Prelude.{◌≡◌, ◌⊎◌, List, [], ◌∷◌, ◌++◌}

-- at most this value was added
abbrev pub AddsAtMost : {A : Type 0} → A → List A → List A → Type 0
AddsAtMost value old new = (new ≡ old) ⊎ (new ≡ old ++ value ∷ [])
