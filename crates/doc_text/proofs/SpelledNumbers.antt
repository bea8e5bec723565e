-- Numbers and hexadecimal digits are read as they are spelled.
use Rattle.std.proofs.Common.{◌≡◌, ◌≢◌, ℕ, ℤ, ◌%◌, ◌^◌, ◌<◌, true, false, List, [], ◌∷◌, ◌++◌, ◌==◌, length, Ok, refl, sym, ap, ◌∙◌, arith, inl, inr, pos, nat_le}
use Rattle.std.specs.List.{prefix_len, AllByRecursion, AllPass}
use Rattle.std.specs.Char.{is_ascii_digit, digit_value}
use Rattle.std.specs.Str.Parse.{AllDigits, IsNumeral, digits_value, signed_digits_value}
use Rattle.std.proofs.lemmas.Str.Parse.{digit_from_value}
use Rattle.std.proofs.lemmas.List.{take_at, drop_at}
use Rattle.std.proofs.lemmas.List.Elements.{All-head, All-tail}
use Rattle.hex.specs.Hex.{is_hex_digit, decode_of}
use Rattle.hex.proofs.HexLemmas.{decode_of-ok}
use Rattle.bson_doc.specs.Tree.{int32, int64}
use Rattle.doc_text.specs.Integers.{fits, digits_at, integer_at, natural_at, long_at, kind_at, number_at}
use Rattle.doc_text.specs.HexText.{binary_hex_at, id_hex_at}
use Rattle.doc_text.specs.Spelling.{SpellsInteger, SpellsNatural, continues_number}
use Rattle.doc_text.proofs.Numerals.{integer_plain, integer_minus}
use Rattle.doc_text.proofs.HexTexts.{closed_right, decoded}
use Rattle.doc_text.proofs.SpelledMarks.{run_over}

digit_is : (c : ℕ) → digit_value c < 10 → is_ascii_digit c ≡ true
digit_is c small =
    let digit = digit_from_value c small in
    grind arith

digits_pass : (digits : List ℕ) → AllDigits 10 digits → AllByRecursion (λ c. is_ascii_digit c ≡ true) digits
digits_pass [] all = tt
digits_pass (c ∷ digits) all = (digit_is c all.0, digits_pass digits all.1)

some_digits : (n : ℕ) → 0 < n → (n == 0) ≡ false
some_digits n some = grind arith

digits_over : (digits rest : List ℕ) → IsNumeral 10 digits → prefix_len is_ascii_digit rest ≡ 0 → digits_at (digits ++ rest) ≡ Ok (digits, rest)
unfolding digits_at
digits_over digits rest numeral stop =
    rw (run_over is_ascii_digit digits rest (digits_pass digits numeral.1) stop, some_digits (length digits) numeral.0, take_at digits rest (length digits) refl, drop_at digits rest (length digits) refl) refl

-- a numeral doesn't begin with a minus sign
no_minus : (digits rest after : List ℕ) → IsNumeral 10 digits → digits ++ rest ≢ 45 ∷ after
no_minus [] rest after numeral is = absurd (omega (arith, numeral.0))
no_minus (c ∷ digits) rest after numeral is =
    let digit = digit_from_value c numeral.1.0 in
    let minus : c ≡ 45 = cc is in
    absurd (omega arith)

pub unsigned_value : (digits : List ℕ) → IsNumeral 10 digits → signed_digits_value 10 digits ≡ pos (digits_value 10 digits)
unsigned_value [] numeral = absurd (omega (arith, numeral.0))
unsigned_value (c ∷ digits) numeral =
    let digit = digit_from_value c numeral.1.0 in
    let no_minus_sign : (c == 45) ≡ false = grind arith in
    let no_plus_sign : (c == 43) ≡ false = grind arith in
    rw (no_minus_sign, no_plus_sign) refl

pub integer_over : (z : ℤ) (s rest : List ℕ) → SpellsInteger z s → prefix_len is_ascii_digit rest ≡ 0 → (integer_at (s ++ rest) ≡ Ok (s, rest)) × (signed_digits_value 10 s ≡ z)
integer_over z s rest spelled stop =
    let digits = spelled.0 in
    let numeral = spelled.1 in
    elim spelled.2 as (λ _. (integer_at (s ++ rest) ≡ Ok (s, rest)) × (signed_digits_value 10 s ≡ z)) [
      | inl plain ↦ (
        rw plain.0 (integer_plain (digits ++ rest) (λ after. no_minus digits rest after numeral) ∙ digits_over digits rest numeral stop),
        rw (plain.0, plain.1) (unsigned_value digits numeral),
      )
      | inr minus ↦ (
        rw minus.0 (integer_minus (45 ∷ (digits ++ rest)) (digits ++ rest) digits rest refl (digits_over digits rest numeral stop)),
        rw (minus.0, minus.1) refl,
      )
    ]

pub natural_over : (most n : ℕ) (s rest : List ℕ) → SpellsNatural most n s → prefix_len is_ascii_digit rest ≡ 0 → natural_at most (s ++ rest) ≡ Ok (n, rest)
unfolding natural_at
natural_over most n s rest spelled stop =
    let small : nat_le (digits_value 10 s) most ≡ true = grind (arith, spelled.1, spelled.2) in
    rw (digits_over s rest spelled.0 stop, small) (ap (λ (k : ℕ). Ok (k, rest)) (sym spelled.1))

pub long_over : (z : ℤ) (s rest : List ℕ) → SpellsInteger z s → fits (2 ^ 63) z ≡ true → prefix_len is_ascii_digit rest ≡ 0 → long_at (s ++ rest) ≡ Ok (z, rest)
unfolding long_at
long_over z s rest spelled range stop =
    let read = integer_over z s rest spelled stop in
    rw (read.0, read.1, range) refl

digits_stop : (rest : List ℕ) → continues_number rest ≡ false → prefix_len is_ascii_digit rest ≡ 0
digits_stop [] stop = refl
digits_stop (c ∷ rest) stop =
    let no_digit : is_ascii_digit c ≡ false = grind arith in
    rw no_digit refl

pub int32_over : (z : ℤ) (s rest : List ℕ) → SpellsInteger z s → fits (2 ^ 31) z ≡ true → continues_number rest ≡ false → number_at (s ++ rest) ≡ Ok (int32 z, rest)
unfolding number_at
int32_over z s rest spelled range stop =
    let read = integer_over z s rest spelled (digits_stop rest stop) in
    rw read.0 (kind rest stop)
  where
    kind : (after : List ℕ) → continues_number after ≡ false → kind_at (s ++ rest) s after ≡ Ok (int32 z, after)
    kind [] none = rw ((integer_over z s rest spelled (digits_stop rest stop)).1, range) refl
    kind (c ∷ after) none =
        let no_letter : (c == 76) ≡ false = grind arith in
        rw (no_letter, (integer_over z s rest spelled (digits_stop rest stop)).1, range) refl

pub int64_over : (z : ℤ) (s rest : List ℕ) → SpellsInteger z s → fits (2 ^ 63) z ≡ true → number_at (s ++ (76 ∷ rest)) ≡ Ok (int64 z, rest)
unfolding number_at
int64_over z s rest spelled range =
    let read = integer_over z s (76 ∷ rest) spelled refl in
    rw (read.0, read.1, range) refl

-- ---- hexadecimal digits

hex_pass : (digits : List ℕ) → AllPass is_hex_digit digits → AllByRecursion (λ c. is_hex_digit c ≡ true) digits
hex_pass [] all = tt
hex_pass (c ∷ digits) all =
    (All-head (λ d. is_hex_digit d ≡ true) c digits all, hex_pass digits (All-tail (λ d. is_hex_digit d ≡ true) c digits all))

pub hex_over : (digits bytes rest : List ℕ) → decode_of digits ≡ Ok bytes → binary_hex_at (digits ++ 34 ∷ rest) ≡ Ok (bytes, rest)
unfolding binary_hex_at
hex_over digits bytes rest read =
    let parts = decode_of-ok digits bytes read in
    let even : (length digits % 2 == 0) ≡ true = rw parts.0 refl in
    rw (run_over is_hex_digit digits (34 ∷ rest) (hex_pass digits parts.1) refl, take_at digits (34 ∷ rest) (length digits) refl, drop_at digits (34 ∷ rest) (length digits) refl)
    (closed_right (length digits % 2 == 0) digits (34 ∷ rest) rest even refl ∙ ap (λ (b : List ℕ). Ok (b, rest)) (decoded digits bytes read).1)

pub id_over : (digits bytes rest : List ℕ) → decode_of digits ≡ Ok bytes → length bytes ≡ 12 → id_hex_at (digits ++ 34 ∷ rest) ≡ Ok (bytes, rest)
unfolding id_hex_at
id_over digits bytes rest read twelve =
    let parts = decode_of-ok digits bytes read in
    let len : length digits ≡ 24 = omega (arith, parts.2, twelve) in
    let long : prefix_len is_hex_digit (digits ++ 34 ∷ rest) ≡ 24 = run_over is_hex_digit digits (34 ∷ rest) (hex_pass digits parts.1) refl ∙ len in
    rw (long, take_at digits (34 ∷ rest) 24 len, drop_at digits (34 ∷ rest) 24 len)
    (closed_right true digits (34 ∷ rest) rest refl refl ∙ ap (λ (b : List ℕ). Ok (b, rest)) (decoded digits bytes read).1)
