-- The texts of a want's lines.
use Rattle.std.specs.Prelude.{ℕ, Bool, true, false, ◌==◌, ◌&&◌, ◌||◌, List, [], ◌∷◌, length, drop, codes, Option, None, Some, if◌then◌else◌}
use Rattle.std.specs.List.{starts_with}

-- what stands before the last mark of a text, and what follows it
abbrev pub cut_here : List ℕ → ℕ → List ℕ → Option (List ℕ × List ℕ) → Option (List ℕ × List ℕ)
cut_here mark c text (Some later) = Some (c ∷ later.0, later.1)
cut_here mark c text None =
    if starts_with ◌==◌ (c ∷ text) mark then Some ([], drop (length mark) (c ∷ text)) else None

abbrev pub cut_at_last : List ℕ → List ℕ → Option (List ℕ × List ℕ)
cut_at_last mark [] = None
cut_at_last mark (c ∷ text) = cut_here mark c text (cut_at_last mark text)

-- a word of the text begins with `m`, as the name of a message does; whether a word begins here is told
abbrev pub names_message : Bool → List ℕ → Bool
names_message begins [] = false
names_message begins (c ∷ text) = (begins && (c == 109)) || names_message (c == 32) text

-- one of them begins with the other
abbrev pub begin_alike : List ℕ → List ℕ → Bool
begin_alike [] other = true
begin_alike (c ∷ one) [] = true
begin_alike (c ∷ one) (d ∷ other) = (c == d) && begin_alike one other

-- the text may go on as that of a delivery that changes nothing does
abbrev pub is_idle : List ℕ → Bool
is_idle text =
    begin_alike text (codes "ignored") || begin_alike text (codes "refused")
    || begin_alike text (codes "vote refused")

-- the line goes on with the text of the line before it
abbrev pub goes_on : List ℕ → Bool
goes_on line = starts_with ◌==◌ line (codes "  ")
