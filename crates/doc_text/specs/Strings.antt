-- Strings and their escapes.
use Rattle.std.specs.Prelude.{ℕ, zero, suc, ◌+◌, ◌*◌, Bool, List, [], ◌∷◌, ◌++◌, Option, Some, None, Ok, ◌==◌, ◌&&◌, nat_le, if◌then◌else◌, encode_utf8}
use Rattle.hex.specs.Hex.{hex_digit_value}
use Rattle.bson_doc.specs.Bind.{◌>>=◌}
use Rattle.doc_text.specs.declared.fault.Rule.TheVariants.{Unexpected, Escape, NameZero}
use Rattle.doc_text.specs.Bytes.{is_plain}
use Rattle.doc_text.specs.Fault.{Read, fails}

-- what is found at the first byte of a text, or an Escape fault there
abbrev pub or_escape : Option ℕ → List ℕ → List ℕ → Read ℕ
or_escape None text rest = fails Escape text
or_escape (Some found) text rest = Ok (found, rest)

unfoldable pub hex_digit_at : List ℕ → Read ℕ
hex_digit_at [] = fails Unexpected []
hex_digit_at (c ∷ rest) = or_escape (hex_digit_value c) (c ∷ rest) rest

-- The character of four digits. D800 to DFFF are the surrogates, and a name holds no zero: the first digit
-- that would make one of these is a fault.
unfoldable pub unicode_at : Bool → List ℕ → Read ℕ
unicode_at in_name text = do
  first ← hex_digit_at text
  second ← hex_digit_at first.1
  if first.0 == 13 && nat_le 8 second.0 then fails Escape first.1 else (do
    third ← hex_digit_at second.1
    fourth ← hex_digit_at third.1
    if in_name && (((first.0 * 16 + second.0) * 16 + third.0) * 16 + fourth.0 == 0)
        then fails NameZero third.1
        else Ok (((first.0 * 16 + second.0) * 16 + third.0) * 16 + fourth.0, fourth.1))

-- the character that a letter after a backslash names
abbrev pub named_character : ℕ → Option ℕ
named_character letter =
    if letter == 34 then Some 34
    else if letter == 92 then Some 92
    else if letter == 110 then Some 10
    else if letter == 114 then Some 13
    else if letter == 116 then Some 9
    else None

-- the character of an escape, after its backslash
unfoldable pub escape_at : Bool → List ℕ → Read ℕ
escape_at in_name [] = fails Unexpected []
escape_at in_name (c ∷ rest) =
    if c == 117 then unicode_at in_name rest else or_escape (named_character c) (c ∷ rest) rest

-- a string up to its closing quotation mark, of at most this many characters
unfoldable pub letters_at : Bool → ℕ → List ℕ → Read (List ℕ)
letters_at in_name most [] = fails Unexpected []
letters_at in_name zero (c ∷ rest) = fails Unexpected (c ∷ rest)
letters_at in_name (suc most) (c ∷ rest) =
    if c == 34 then Ok ([], rest)
    else if c == 92 then (do
      character ← escape_at in_name rest
      others ← letters_at in_name most character.1
      Ok (encode_utf8 character.0 ++ others.0, others.1))
    else if is_plain c then (do
      others ← letters_at in_name most rest
      Ok (c ∷ others.0, others.1))
    else fails Unexpected (c ∷ rest)
