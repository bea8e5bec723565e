-- Runs of bytes of one class.
use Rattle.std.specs.Prelude.{ℕ, Bool, List, drop}
use Rattle.std.specs.List.{prefix_len}
use Rattle.std.specs.Char.{is_ascii_digit}
use Rattle.hex.specs.Hex.{is_hex_digit}
use Rattle.doc_text.specs.declared.«class».Class.{Class}
use Rattle.doc_text.specs.declared.«class».Class.TheVariants.{Space, Digit, HexDigit, Name, Plain}
use Rattle.doc_text.specs.Bytes.{is_space, is_name_byte, is_plain}

abbrev pub is_in : Class → ℕ → Bool
is_in Space = is_space
is_in Digit = is_ascii_digit
is_in HexDigit = is_hex_digit
is_in Name = is_name_byte
is_in Plain = is_plain

-- what follows the longest prefix of bytes in the class
abbrev pub after_front : Class → List ℕ → List ℕ
after_front kind text = drop (prefix_len (is_in kind) text) text

abbrev pub after_spaces : List ℕ → List ℕ
after_spaces text = drop (prefix_len is_space text) text
