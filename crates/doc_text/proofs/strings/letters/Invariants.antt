use Rattle.std.proofs.Common.{◌≡◌, ◌≤◌, ℕ, length}
use Rattle.std.specs.Prelude.{string_bytes}
use denote.Shadow.{shadow}
use denote.Text.{Utf8}
use Rattle.doc_text.specs.Strings.{letters_at}
use Rattle.doc_text.proofs.Letters.{with_front}
use Rattle.doc_text.proofs.strings.letters.Given as goal

-- what was read, and what is still read, make the whole string
abbrev pub invariant-loop-string : goal.invariant-loop-string
invariant-loop-string l =
    shadow (Utf8 l.rest) × (length l.rest ≤ length l.text)
    × ((most : ℕ) × (length l.rest ≤ most) × (with_front (string_bytes l.string) (letters_at l.in_name most l.rest) ≡ letters_at l.in_name (length l.text) l.text))

abbrev pub decreases-loop-string : goal.decreases-loop-string
decreases-loop-string l = length l.rest
