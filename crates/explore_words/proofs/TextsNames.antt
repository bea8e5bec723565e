-- A text read byte by byte, for words that begin with `m`.
use Rattle.std.proofs.Common.{◌≡◌, ◌<◌, ◌==◌, ◌+◌, ℕ, Bool, true, false, ◌&&◌, ◌||◌, List, [], ◌∷◌, ◌++◌, length, get_or, drop, refl}
use Rattle.std.proofs.lemmas.List.{drop_more}
use Rattle.explore_words.specs.Texts.{names_message}

pub names_next : (text : List ℕ) (i c : ℕ) (begins : Bool) → i < length text → c ≡ get_or text i c
    → names_message begins (drop i text) ≡ ((begins && (c == 109)) || names_message (c == 32) (drop (i + 1) text))
names_next text i c begins within at = rw (drop_more text i c within, ← at) refl

or_parts : (a b : Bool) → (a || b) ≡ false → (a ≡ false) × (b ≡ false)
or_parts true b none = absurd cc
or_parts false b none = (refl, none)

-- where none begins with `m` at the beginning of a word, none does in its middle
pub names_less : (begins : Bool) (text : List ℕ) → names_message true text ≡ false → names_message begins text ≡ false
names_less begins [] none = refl
names_less true (c ∷ text) none = none
names_less false (c ∷ text) none = (or_parts (c == 109) (names_message (c == 32) text) none).1

pub names_neither : (begins : Bool) (text more : List ℕ) → names_message begins text ≡ false → names_message true more ≡ false
    → names_message begins (text ++ more) ≡ false
names_neither begins [] more none later = names_less begins more later
names_neither begins (c ∷ text) more none later =
    let parts = or_parts (begins && (c == 109)) (names_message (c == 32) text) none in
    rw (parts.0, names_neither (c == 32) text more parts.1 later) refl
