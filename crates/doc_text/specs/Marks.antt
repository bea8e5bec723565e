-- Single marks and words, and the spaces around them.
use Rattle.std.specs.Prelude.{ℕ, Bool, false, List, [], ◌∷◌, Result, Ok, ◌==◌, if◌then◌else◌}
use Rattle.bson_doc.specs.Bind.{◌>>=◌}
use Rattle.doc_text.specs.declared.fault.Rule.TheVariants.{Unexpected}
use Rattle.doc_text.specs.declared.fault.Fault.{Fault}
use Rattle.doc_text.specs.Class.{after_spaces}
use Rattle.doc_text.specs.Fault.{fails}

abbrev pub begins_with : ℕ → List ℕ → Bool
begins_with mark [] = false
begins_with mark (c ∷ rest) = c == mark

-- what follows a mark
unfoldable pub mark_at : ℕ → List ℕ → Result (List ℕ) Fault
mark_at mark [] = fails Unexpected []
mark_at mark (c ∷ rest) = if c == mark then Ok rest else fails Unexpected (c ∷ rest)

-- what follows a mark with spaces around it
unfoldable pub spaced_at : ℕ → List ℕ → Result (List ℕ) Fault
spaced_at mark text = do
  rest ← mark_at mark (after_spaces text)
  Ok (after_spaces rest)

-- what follows a mark with spaces before it
unfoldable pub closing_at : ℕ → List ℕ → Result (List ℕ) Fault
closing_at mark text = mark_at mark (after_spaces text)

-- what follows a word
unfoldable pub word_at : List ℕ → List ℕ → Result (List ℕ) Fault
word_at [] text = Ok text
word_at (letter ∷ letters) text = do
  rest ← mark_at letter text
  word_at letters rest

-- what follows a word and an opening parenthesis with spaces around it
unfoldable pub opened_at : List ℕ → List ℕ → Result (List ℕ) Fault
opened_at word text = do
  name ← word_at word text
  spaced_at 40 name
