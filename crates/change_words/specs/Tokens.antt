-- The text of a resume token: the term and the timestamp of an optime, each in 16 hexadecimal digits.
use Rattle.std.specs.Prelude.{ℕ, Bool, ◌==◌, ◌&&◌, nat_le, ◌||◌, List, ◌++◌, length, take, drop, Option, None, Some, Result, Ok, Err, if◌then◌else◌}
use Rattle.std.specs.List.{list_all}
use Rattle.std.specs.Int.{w64, to_be_bytes, from_be_bytes}
use Rattle.hex.specs.Hex.{decode_sized, encode_lower}
use Rattle.hex.specs.declared.error.FromHexError.{FromHexError}
use Rattle.rs_optime.specs.declared.optime.OpTime.{OpTime}

-- eight bytes, the high one first
abbrev pub digits_text : ℕ → List ℕ
digits_text number = encode_lower (to_be_bytes w64 number)

abbrev pub token_text : OpTime → List ℕ
token_text at = digits_text at.term ++ digits_text at.ts

-- a digit from 0 to 9, or a letter from a to f
abbrev pub is_lower_digit : ℕ → Bool
is_lower_digit c = (nat_le 48 c && nat_le c 57) || (nat_le 97 c && nat_le c 102)

abbrev pub number_of_bytes : Result (List ℕ) FromHexError → Option ℕ
number_of_bytes (Ok bytes) = Some (from_be_bytes w64 bytes)
number_of_bytes (Err error) = None

-- the number of 16 digits
abbrev pub number_of_digits : List ℕ → Option ℕ
number_of_digits digits = number_of_bytes (decode_sized digits 8)

abbrev pub optime_of : Option ℕ → Option ℕ → Option OpTime
optime_of (Some term) (Some ts) = Some (record { term = term; ts = ts })
optime_of (Some term) None = None
optime_of None ts = None

-- the token of 32 digits, none of which is a capital letter
abbrev pub token_of : List ℕ → Option OpTime
token_of word =
    if length word == 32 && list_all is_lower_digit word
    then optime_of (number_of_digits (take 16 word)) (number_of_digits (drop 16 word))
    else None
