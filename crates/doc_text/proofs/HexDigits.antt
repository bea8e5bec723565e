-- A hexadecimal digit, read as the second of a pair.
use Rattle.std.proofs.Common.{◌≡◌, ℕ, ◌+◌, ◌*◌, ◌<◌, List, [], ◌∷◌, length, get_or, drop, Option, Some, None, Result, Ok, Err, refl, ap, ◌∙◌, arith}
use Rattle.hex.specs.Hex.{hex_digit_value, digit_or_error, decode_pairs, decode_sized, ◌>>=◌}
use Rattle.hex.specs.declared.error.FromHexError.{FromHexError}
use Rattle.hex.specs.declared.error.FromHexError.TheVariants.{InvalidHexCharacter}
use Rattle.doc_text.specs.declared.fault.Rule.TheVariants.{Escape}
use Rattle.doc_text.specs.Fault.{fault_at}
use Rattle.doc_text.specs.Strings.{hex_digit_at}

abbrev pub of_digit : ℕ → Option ℕ → Result (List ℕ) FromHexError
of_digit c None = Err (InvalidHexCharacter c 1)
of_digit c (Some value) = Ok (value ∷ [])

digit_pair : (c : ℕ) (o : Option ℕ) → ((digit_or_error c 1 o >>= λ low. Ok (0 * 16 + low)) >>= λ byte. Ok (byte ∷ [])) ≡ of_digit c o
digit_pair c None = refl
digit_pair c (Some value) =
    let same : 0 * 16 + value ≡ value = omega arith in
    ap (λ (n : ℕ). Ok (n ∷ [])) same

pub decode_digit : (c : ℕ) → decode_sized (48 ∷ c ∷ []) 1 ≡ of_digit c (hex_digit_value c)
unfolding decode_pairs
decode_digit c = digit_pair c (hex_digit_value c)

-- a digit's value is below 16, and the digit is ASCII
pub hex_digit_small : (c v : ℕ) → hex_digit_value c ≡ Some v → (v < 16) × (c < 128)
hex_digit_small c v h = (grind arith, grind arith)

-- a reader of one digit
digit_read : (c : ℕ) (rest digits : List ℕ) (o : Option ℕ) → hex_digit_value c ≡ o → Ok digits ≡ of_digit c o → (hex_digit_at (c ∷ rest) ≡ Ok (get_or digits 0 0, rest)) × (get_or digits 0 0 < 16) × (c < 128)
unfolding hex_digit_at
digit_read c rest digits None is read = absurd cc
digit_read c rest digits (Some value) is read =
    let one : digits ≡ value ∷ [] = cc in
    let small = hex_digit_small c value is in
    rw (one, is) (refl, small.0, small.1)

pub hex_digit_ok : (text digits : List ℕ) → 0 < length text → Ok digits ≡ decode_sized (48 ∷ get_or text 0 0 ∷ []) 1 → (hex_digit_at text ≡ Ok (get_or digits 0 0, drop 1 text)) × (get_or digits 0 0 < 16) × (get_or text 0 0 < 128)
hex_digit_ok [] digits some read = absurd (omega arith)
hex_digit_ok (c ∷ rest) digits some read = digit_read c rest digits (hex_digit_value c) refl (read ∙ decode_digit c)

digit_refused : (c : ℕ) (rest : List ℕ) (error : FromHexError) (o : Option ℕ) → hex_digit_value c ≡ o → Err error ≡ of_digit c o → hex_digit_at (c ∷ rest) ≡ Err (fault_at Escape (c ∷ rest))
unfolding hex_digit_at
digit_refused c rest error None is read = rw is refl
digit_refused c rest error (Some value) is read = absurd cc

pub hex_digit_err : (text : List ℕ) (error : FromHexError) → 0 < length text → Err error ≡ decode_sized (48 ∷ get_or text 0 0 ∷ []) 1 → hex_digit_at text ≡ Err (fault_at Escape text)
hex_digit_err [] error some read = absurd (omega arith)
hex_digit_err (c ∷ rest) error some read = digit_refused c rest error (hex_digit_value c) refl (read ∙ decode_digit c)
