use Rattle.std.proofs.Common.{◌≡◌, ◌+◌, ◌≤◌, length, drop}
use denote.Shadow.{shadow}
use denote.Text.{Utf8}
use Rattle.doc_text.specs.Marks.{word_at}
use Rattle.doc_text.proofs.marks.word.Given as goal

abbrev pub invariant-loop-letter : goal.invariant-loop-letter
invariant-loop-letter l =
    shadow (Utf8 l.rest) × (length l.rest + l.letter-index ≤ length l.text) × (word_at (drop l.letter-index l.letters) l.rest ≡ word_at l.letters l.text)
