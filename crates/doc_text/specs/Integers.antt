-- Numbers in decimal. A number is read whole before its range is tested.
use Rattle.std.specs.Prelude.{ℕ, ℤ, pos, negsuc, ◌^◌, Bool, List, [], ◌∷◌, take, drop, Ok, ◌==◌, nat_le, nat_lt, if◌then◌else◌}
use Rattle.std.specs.List.{prefix_len}
use Rattle.std.specs.Char.{is_ascii_digit}
use Rattle.std.specs.Str.Parse.{digits_value, signed_digits_value}
use Rattle.bson_doc.specs.Bind.{◌>>=◌}
use Rattle.bson_doc.specs.Tree.{Tree, int32, int64}
use Rattle.doc_text.specs.declared.fault.Rule.TheVariants.{Unexpected, Number}
use Rattle.doc_text.specs.Fault.{Read, fails}

-- whether a number fits a signed type whose greatest number is below the limit
abbrev pub fits : ℕ → ℤ → Bool
fits limit (pos n) = nat_lt n limit
fits limit (negsuc n) = nat_lt n limit

-- one or more digits
unfoldable pub digits_at : List ℕ → Read (List ℕ)
digits_at text =
    let len = prefix_len is_ascii_digit text in
    if len == 0 then fails Unexpected text else Ok (take len text, drop len text)

-- digits with an optional `-`
unfoldable pub integer_at : List ℕ → Read (List ℕ)
integer_at [] = fails Unexpected []
integer_at (c ∷ rest) = if c == 45 then (do
  digits ← digits_at rest
  Ok (45 ∷ digits.0, digits.1)) else digits_at (c ∷ rest)

-- a number that is at most `most`
unfoldable pub natural_at : ℕ → List ℕ → Read ℕ
natural_at most text = do
  digits ← digits_at text
  if nat_le (digits_value 10 digits.0) most then Ok (digits_value 10 digits.0, digits.1)
      else fails Number text

-- the number of a numeral, where it is in range; otherwise a fault at the numeral's first byte
abbrev pub ranged : ℕ → List ℕ → List ℕ → List ℕ → Read ℤ
ranged limit text numeral rest =
    if fits limit (signed_digits_value 10 numeral) then Ok (signed_digits_value 10 numeral, rest)
    else fails Number text

-- a number in the range of an int64
unfoldable pub long_at : List ℕ → Read ℤ
long_at text = do
  numeral ← integer_at text
  ranged (2 ^ 63) text numeral.0 numeral.1

-- after a numeral, an `L` makes it an int64
abbrev pub kind_at : List ℕ → List ℕ → List ℕ → Read Tree
kind_at text numeral [] = ranged (2 ^ 31) text numeral [] >>= λ n. Ok (int32 n.0, n.1)
kind_at text numeral (c ∷ rest) =
    if c == 76 then (ranged (2 ^ 63) text numeral rest >>= λ n. Ok (int64 n.0, n.1))
    else (ranged (2 ^ 31) text numeral (c ∷ rest) >>= λ n. Ok (int32 n.0, n.1))

unfoldable pub number_at : List ℕ → Read Tree
number_at text = do
  numeral ← integer_at text
  kind_at text numeral.0 numeral.1
