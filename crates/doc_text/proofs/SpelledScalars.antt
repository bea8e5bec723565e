-- Values that hold no others are read as they are spelled.
use Rattle.std.proofs.Common.{◌≡◌, ◌≢◌, ℕ, ℤ, ◌+◌, ◌*◌, ◌^◌, ◌<◌, lit<, true, false, List, [], ◌∷◌, ◌++◌, ◌==◌, length, Ok, refl, sym, ap, ◌∙◌, append_assoc, arith, inl, inr}
use Rattle.std.specs.Prelude.{codes}
use Rattle.std.specs.Char.{is_ascii_digit}
use Rattle.std.specs.Str.Parse.{IsNumeral}
use Rattle.std.proofs.lemmas.Str.Parse.{digit_from_value}
use Rattle.bson_doc.specs.Tree.{Tree, int32, int64, text, binary, object_id, date, timestamp}
use Rattle.doc_text.specs.Integers.{fits, number_at}
use Rattle.doc_text.specs.Scalars.{string_at, date_at, first_at, binary_at, id_at, time_at, constant_at, scalar_at}
use Rattle.doc_text.specs.Spelling.{IsSpaced, IsClosing, SpellsString, SpellsInteger, SpellsNatural, SpellsHex, continues_number}
use Rattle.doc_text.proofs.SpelledMarks.{NoSpace, no_space, mark_over, spaced_over, closing_over, word_over, opened_over, spaced_stops, closing_stops}
use Rattle.doc_text.proofs.SpelledNumbers.{int32_over, int64_over, long_over, natural_over, hex_over, id_over}
use Rattle.doc_text.proofs.SpelledStrings.{letters_over}

-- ---- the first byte of a numeral

pub numeral_no_space : (digits rest : List ℕ) → IsNumeral 10 digits → NoSpace (digits ++ rest)
numeral_no_space [] rest numeral = absurd (omega (arith, numeral.0))
numeral_no_space (c ∷ digits) rest numeral =
    let digit = digit_from_value c numeral.1.0 in
    no_space c (digits ++ rest) (grind arith)

pub integer_no_space : (z : ℤ) (s rest : List ℕ) → SpellsInteger z s → NoSpace (s ++ rest)
integer_no_space z s rest spelled =
    elim spelled.2 as (λ _. NoSpace (s ++ rest)) [
      | inl plain ↦ rw plain.0 (numeral_no_space spelled.0 rest spelled.1)
      | inr minus ↦ rw minus.0 refl
    ]

scalar_number : (c : ℕ) (rest : List ℕ) → c < 58 → c ≢ 34 → scalar_at (c ∷ rest) ≡ number_at (c ∷ rest)
unfolding scalar_at
scalar_number c rest small other =
    let a : (c == 34) ≡ false = grind arith in
    let b : (c == 110) ≡ false = grind arith in
    let d : (c == 116) ≡ false = grind arith in
    let e : (c == 102) ≡ false = grind arith in
    let f : (c == 68) ≡ false = grind arith in
    let g : (c == 66) ≡ false = grind arith in
    let h : (c == 73) ≡ false = grind arith in
    let i : (c == 84) ≡ false = grind arith in
    rw (a, b, d, e, f, g, h, i) refl

numeral_is_number : (digits rest : List ℕ) → IsNumeral 10 digits → scalar_at (digits ++ rest) ≡ number_at (digits ++ rest)
numeral_is_number [] rest numeral = absurd (omega (arith, numeral.0))
numeral_is_number (c ∷ digits) rest numeral =
    let digit = digit_from_value c numeral.1.0 in
    scalar_number c (digits ++ rest) (omega arith) (λ mark. omega arith)

integer_is_number : (z : ℤ) (s rest : List ℕ) → SpellsInteger z s → scalar_at (s ++ rest) ≡ number_at (s ++ rest)
integer_is_number z s rest spelled =
    elim spelled.2 as (λ _. scalar_at (s ++ rest) ≡ number_at (s ++ rest)) [
      | inl plain ↦ rw plain.0 (numeral_is_number spelled.0 rest spelled.1)
      | inr minus ↦ rw minus.0 (scalar_number 45 (spelled.0 ++ rest) (lit< tt) (λ mark. omega arith))
    ]

-- ---- each kind

pub int32_read : (z : ℤ) (s rest : List ℕ) → SpellsInteger z s → fits (2 ^ 31) z ≡ true → continues_number rest ≡ false → scalar_at (s ++ rest) ≡ Ok (int32 z, rest)
int32_read z s rest spelled range stop = integer_is_number z s rest spelled ∙ int32_over z s rest spelled range stop

pub int64_read : (z : ℤ) (numeral s rest : List ℕ) → SpellsInteger z numeral → fits (2 ^ 63) z ≡ true → s ≡ numeral ++ codes "L" → scalar_at (s ++ rest) ≡ Ok (int64 z, rest)
int64_read z numeral s rest spelled range whole =
    let regroup : s ++ rest ≡ numeral ++ (76 ∷ rest) = ap (λ (x : List ℕ). x ++ rest) whole ∙ append_assoc numeral (codes "L") rest in
    rw regroup (integer_is_number z numeral (76 ∷ rest) spelled ∙ int64_over z numeral rest spelled range)

pub string_read : (bytes s rest : List ℕ) → SpellsString false bytes s → scalar_at (s ++ rest) ≡ Ok (text bytes, rest)
unfolding scalar_at string_at
string_read bytes s rest spelled =
    rw (spelled.whole, mark_over 34 (spelled.tail ++ rest), letters_over false spelled.letters bytes spelled.tail rest (length (spelled.tail ++ rest)) spelled.spelled (omega arith)) refl

pub constant_read : (word : List ℕ) (value : Tree) (rest : List ℕ) → constant_at word value (word ++ rest) ≡ Ok (value, rest)
unfolding constant_at
constant_read word value rest = rw (word_over word rest) refl

pub date_read : (z : ℤ) (opening numeral closing s rest : List ℕ) → IsSpaced 40 opening → SpellsInteger z numeral → fits (2 ^ 63) z ≡ true → IsClosing 41 closing
    → s ≡ codes "Date" ++ (opening ++ (numeral ++ closing)) → scalar_at (s ++ rest) ≡ Ok (date z, rest)
unfolding scalar_at date_at
date_read z opening numeral closing s rest spaced spelled range closed whole =
    let regroup : s ++ rest ≡ codes "Date" ++ (opening ++ (numeral ++ (closing ++ rest))) = ap (λ (x : List ℕ). x ++ rest) whole ∙ simp append_assoc in
    let inside = opened_over (codes "Date") opening (numeral ++ (closing ++ rest)) spaced (integer_no_space z numeral (closing ++ rest) spelled) in
    let number = long_over z numeral (closing ++ rest) spelled range (closing_stops is_ascii_digit 41 closing rest refl refl closed) in
    rw (regroup, inside, number, closing_over 41 closing rest refl closed) refl

-- digits between quotation marks, and what follows them
hex_parts : (digits bytes s rest : List ℕ) → s ≡ 34 ∷ digits ++ 34 ∷ [] → s ++ rest ≡ 34 ∷ (digits ++ (34 ∷ rest))
hex_parts digits bytes s rest whole = ap (λ (x : List ℕ). x ++ rest) whole ∙ ap (λ (x : List ℕ). 34 ∷ x) (append_assoc digits (34 ∷ []) rest)

pub id_read : (bytes opening digits closing s rest : List ℕ) → IsSpaced 40 opening → SpellsHex bytes digits → length bytes ≡ 12 → IsClosing 41 closing
    → s ≡ codes "Id" ++ (opening ++ (digits ++ closing)) → scalar_at (s ++ rest) ≡ Ok (object_id bytes, rest)
unfolding scalar_at id_at
id_read bytes opening digits closing s rest spaced spelled twelve closed whole =
    let after = closing ++ rest in
    let regroup : s ++ rest ≡ codes "Id" ++ (opening ++ (34 ∷ (spelled.0 ++ (34 ∷ after)))) =
    ap (λ (x : List ℕ). x ++ rest) whole ∙ simp append_assoc (ap (λ (x : List ℕ). codes "Id" ++ (opening ++ x)) (hex_parts spelled.0 bytes digits after spelled.2)) in
    let inside = opened_over (codes "Id") opening (34 ∷ (spelled.0 ++ (34 ∷ after))) spaced refl in
    rw (regroup, inside, mark_over 34 (spelled.0 ++ (34 ∷ after)), id_over spelled.0 bytes after spelled.1 twelve, closing_over 41 closing rest refl closed) refl

first_over : (most n : ℕ) (word opening numeral comma rest : List ℕ) → IsSpaced 40 opening → SpellsNatural most n numeral → IsSpaced 44 comma → NoSpace rest
    → first_at word most (word ++ (opening ++ (numeral ++ (comma ++ rest)))) ≡ Ok (n, rest)
unfolding first_at
first_over most n word opening numeral comma rest spaced number parted none =
    let inside = opened_over word opening (numeral ++ (comma ++ rest)) spaced (numeral_no_space numeral (comma ++ rest) number.0) in
    let one = natural_over most n numeral (comma ++ rest) number (spaced_stops is_ascii_digit 44 comma rest refl refl parted) in
    rw (inside, one, spaced_over 44 comma rest refl parted none) refl

pub binary_read : (subtype : ℕ) (bytes opening numeral comma digits closing s rest : List ℕ) → IsSpaced 40 opening → SpellsNatural 255 subtype numeral → IsSpaced 44 comma → SpellsHex bytes digits → IsClosing 41 closing
    → s ≡ codes "Bin" ++ (opening ++ (numeral ++ (comma ++ (digits ++ closing)))) → scalar_at (s ++ rest) ≡ Ok (binary subtype bytes, rest)
unfolding scalar_at binary_at
binary_read subtype bytes opening numeral comma digits closing s rest spaced number parted spelled closed whole =
    let after = closing ++ rest in
    let marked = 34 ∷ (spelled.0 ++ (34 ∷ after)) in
    let regroup : s ++ rest ≡ codes "Bin" ++ (opening ++ (numeral ++ (comma ++ (34 ∷ (spelled.0 ++ (34 ∷ (closing ++ rest))))))) =
    ap (λ (x : List ℕ). x ++ rest) whole ∙ simp append_assoc (ap (λ (x : List ℕ). codes "Bin" ++ (opening ++ (numeral ++ (comma ++ x)))) (hex_parts spelled.0 bytes digits (closing ++ rest) spelled.2)) in
    let first = first_over 255 subtype (codes "Bin") opening numeral comma marked spaced number parted refl in
    rw (regroup, first, mark_over 34 (spelled.0 ++ (34 ∷ after)), hex_over spelled.0 bytes after spelled.1, closing_over 41 closing rest refl closed) refl

pub time_read : (seconds increment ts : ℕ) (opening one comma two closing s rest : List ℕ) → IsSpaced 40 opening → SpellsNatural 4294967295 seconds one → IsSpaced 44 comma → SpellsNatural 4294967295 increment two → IsClosing 41 closing
    → ts ≡ seconds * 2 ^ 32 + increment → s ≡ codes "Time" ++ (opening ++ (one ++ (comma ++ (two ++ closing)))) → scalar_at (s ++ rest) ≡ Ok (timestamp ts, rest)
unfolding scalar_at time_at
time_read seconds increment ts opening one comma two closing s rest spaced number parted other closed is whole =
    let regroup : s ++ rest ≡ codes "Time" ++ (opening ++ (one ++ (comma ++ (two ++ (closing ++ rest))))) = ap (λ (x : List ℕ). x ++ rest) whole ∙ simp append_assoc in
    let first = first_over 4294967295 seconds (codes "Time") opening one comma (two ++ (closing ++ rest)) spaced number parted (numeral_no_space two (closing ++ rest) other.0) in
    let third = natural_over 4294967295 increment two (closing ++ rest) other (closing_stops is_ascii_digit 41 closing rest refl refl closed) in
    rw (regroup, first, third, closing_over 41 closing rest refl closed) (ap (λ (n : ℕ). Ok (timestamp n, rest)) (sym is))
