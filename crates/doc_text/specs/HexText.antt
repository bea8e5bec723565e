-- Bytes as hexadecimal digits, after an opening quotation mark.
use Rattle.std.specs.Prelude.{ℕ, ◌%◌, min, Bool, List, [], ◌∷◌, take, drop, Ok, Err, ◌==◌, ◌&&◌, if◌then◌else◌}
use Rattle.std.specs.Result.{result_unwrap_or}
use Rattle.std.specs.List.{prefix_len}
use Rattle.hex.specs.Hex.{is_hex_digit, decode_of}
use Rattle.doc_text.specs.declared.fault.Rule.TheVariants.{Unexpected, Hex}
use Rattle.doc_text.specs.declared.fault.Fault.{Fault}
use Rattle.doc_text.specs.Fault.{Read, fault_at}

-- the bytes of an even number of digits
abbrev pub bytes_of : List ℕ → List ℕ
bytes_of digits = result_unwrap_or (decode_of digits) []

-- the fault of a byte that is neither a digit nor the closing quotation mark in its place
abbrev pub hex_fault : List ℕ → Fault
hex_fault [] = fault_at Unexpected []
hex_fault (c ∷ rest) = fault_at Hex (c ∷ rest)

-- The closing quotation mark follows the digits, whose number is right or not.
abbrev pub closed_at : Bool → List ℕ → List ℕ → Read (List ℕ)
closed_at right digits [] = Err (hex_fault [])
closed_at right digits (c ∷ rest) =
    if c == 34 && right then Ok (bytes_of digits, rest) else Err (hex_fault (c ∷ rest))

-- an even number of digits
unfoldable pub binary_hex_at : List ℕ → Read (List ℕ)
binary_hex_at text =
    let len = prefix_len is_hex_digit text in closed_at (len % 2 == 0) (take len text) (drop len text)

-- 24 digits
unfoldable pub id_hex_at : List ℕ → Read (List ℕ)
id_hex_at text =
    let len = min (prefix_len is_hex_digit text) 24 in closed_at (len == 24) (take len text) (drop len text)
