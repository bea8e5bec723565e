-- Values that hold no others, distinguished by their first byte.
use Rattle.std.specs.Prelude.{ℕ, ◌+◌, ◌*◌, ◌^◌, true, false, List, [], ◌∷◌, length, codes, Ok, ◌==◌, if◌then◌else◌}
use Rattle.bson_doc.specs.Bind.{◌>>=◌}
use Rattle.bson_doc.specs.Tree.{Tree, null, text, binary, object_id, boolean, date, timestamp}
use Rattle.doc_text.specs.declared.fault.Rule.TheVariants.{Unexpected}
use Rattle.doc_text.specs.Fault.{Read, fails}
use Rattle.doc_text.specs.Marks.{mark_at, spaced_at, closing_at, word_at, opened_at}
use Rattle.doc_text.specs.Integers.{natural_at, long_at, number_at}
use Rattle.doc_text.specs.Strings.{letters_at}
use Rattle.doc_text.specs.HexText.{binary_hex_at, id_hex_at}

-- `"..."`
unfoldable pub string_at : List ℕ → Read Tree
string_at bytes = do
  rest ← mark_at 34 bytes
  string ← letters_at false (length rest) rest
  Ok (text string.0, string.1)

-- `Date(MS)`
unfoldable pub date_at : List ℕ → Read Tree
date_at bytes = do
  inside ← opened_at (codes "Date") bytes
  milliseconds ← long_at inside
  rest ← closing_at 41 milliseconds.1
  Ok (date milliseconds.0, rest)

-- a word and an opening parenthesis, a number of at most `most`, and a comma
unfoldable pub first_at : List ℕ → ℕ → List ℕ → Read ℕ
first_at word most bytes = do
  inside ← opened_at word bytes
  number ← natural_at most inside
  rest ← spaced_at 44 number.1
  Ok (number.0, rest)

-- `Bin(SUBTYPE, "HEX")`
unfoldable pub binary_at : List ℕ → Read Tree
binary_at bytes = do
  subtype ← first_at (codes "Bin") 255 bytes
  digits ← mark_at 34 subtype.1
  content ← binary_hex_at digits
  rest ← closing_at 41 content.1
  Ok (binary subtype.0 content.0, rest)

-- `Id("HEX")`
unfoldable pub id_at : List ℕ → Read Tree
id_at bytes = do
  inside ← opened_at (codes "Id") bytes
  digits ← mark_at 34 inside
  content ← id_hex_at digits
  rest ← closing_at 41 content.1
  Ok (object_id content.0, rest)

-- `Time(SECONDS, INCREMENT)`
unfoldable pub time_at : List ℕ → Read Tree
time_at bytes = do
  seconds ← first_at (codes "Time") 4294967295 bytes
  increment ← natural_at 4294967295 seconds.1
  rest ← closing_at 41 increment.1
  Ok (timestamp (seconds.0 * 2 ^ 32 + increment.0), rest)

-- a word that is a value
unfoldable pub constant_at : List ℕ → Tree → List ℕ → Read Tree
constant_at word value bytes = do
  rest ← word_at word bytes
  Ok (value, rest)

unfoldable pub scalar_at : List ℕ → Read Tree
scalar_at [] = fails Unexpected []
scalar_at (c ∷ rest) =
    if c == 34 then string_at (c ∷ rest)
    else if c == 110 then constant_at (codes "null") null (c ∷ rest)
    else if c == 116 then constant_at (codes "true") (boolean true) (c ∷ rest)
    else if c == 102 then constant_at (codes "false") (boolean false) (c ∷ rest)
    else if c == 68 then date_at (c ∷ rest)
    else if c == 66 then binary_at (c ∷ rest)
    else if c == 73 then id_at (c ∷ rest)
    else if c == 84 then time_at (c ∷ rest)
    else number_at (c ∷ rest)
