-- Numerals at the start of a text.
use Rattle.std.proofs.Common.{◌≡◌, ◌≢◌, ℕ, suc, lit<, ◌+◌, ◌-◌, ◌<◌, Bool, true, false, cond, List, [], ◌∷◌, ◌++◌, length, take, drop, Ok, refl, sym, ap, subst, ◌∙◌, arith, inl, inr}
use Rattle.std.specs.List.{prefix_len}
use Rattle.std.specs.Char.{is_ascii_digit, digit_value}
use Rattle.std.specs.Str.{IsUtf8, IsCharBoundary}
use Rattle.std.specs.Str.Parse.{AllDigits}
use Rattle.std.proofs.lemmas.Bool.{cases_eq}
use Rattle.std.proofs.lemmas.List.{take-append-drop, take_at, drop_at, length-append}
use Rattle.std.proofs.lemmas.Str.{IsCharBoundary-at_seam, IsCharBoundary-after_ascii, IsUtf8-drop}
use Rattle.std.proofs.lemmas.Str.Parse.{digit_from_value}
use Rattle.doc_text.specs.Integers.{digits_at, integer_at}
use Rattle.bson_doc.proofs.BindLemmas.{guard_ok}

digit_below_ten : (c : ℕ) → is_ascii_digit c ≡ true → digit_value c < 10
digit_below_ten c h = grind arith

-- a run of digits has digits alone
all_digits : (b : Bool) (c : ℕ) (rest : List ℕ) (n : ℕ) → is_ascii_digit c ≡ b → AllDigits 10 (take n rest) → AllDigits 10 (take (cond b (1 + n) 0) (c ∷ rest))
all_digits true c rest n e digits =
    let one : 1 + n ≡ suc n = omega arith in
    rw one (digit_below_ten c e, digits)
all_digits false c rest n e digits = tt

pub run_of_digits : (text : List ℕ) → AllDigits 10 (take (prefix_len is_ascii_digit text) text)
run_of_digits [] = tt
run_of_digits (c ∷ rest) = all_digits (is_ascii_digit c) c rest (prefix_len is_ascii_digit rest) refl (run_of_digits rest)

-- the digits are a prefix of the text
pub digits_parts : (text digits rest : List ℕ) → digits_at text ≡ Ok (digits, rest) → text ≡ digits ++ rest
unfolding digits_at
digits_parts text digits rest e =
    let read = guard_ok _ _ _ _ e in
    let front : take (prefix_len is_ascii_digit text) text ≡ digits = ap (λ (p : List ℕ × List ℕ). p.0) read.1 in
    let back : drop (prefix_len is_ascii_digit text) text ≡ rest = ap (λ (p : List ℕ × List ℕ). p.1) read.1 in
    rw (← front, ← back) (sym (take-append-drop (prefix_len is_ascii_digit text) text))

-- with no sign an integer is digits
pub integer_plain : (text : List ℕ) → ((rest : List ℕ) → text ≢ 45 ∷ rest) → integer_at text ≡ digits_at text
unfolding integer_at digits_at
integer_plain [] other = refl
integer_plain (c ∷ rest) other =
    elim (cases_eq c 45) [
      | inl minus ↦ absurd (other rest (ap (λ (x : ℕ). x ∷ rest) minus))
      | inr digit ↦ grind arith
    ]

-- after a minus sign, an integer is that sign and the digits
pub integer_minus : (text unsigned digits rest : List ℕ) → text ≡ 45 ∷ unsigned → digits_at unsigned ≡ Ok (digits, rest) → integer_at text ≡ Ok (45 ∷ digits, rest)
unfolding integer_at
integer_minus text unsigned digits rest is read = rw (is, read) refl

pub minus_parts : (text unsigned digits rest : List ℕ) → text ≡ 45 ∷ unsigned → digits_at unsigned ≡ Ok (digits, rest) → text ≡ (45 ∷ digits) ++ rest
minus_parts text unsigned digits rest is read = is ∙ ap (λ (x : List ℕ). 45 ∷ x) (digits_parts unsigned digits rest read)

pub front_at : (text front rest : List ℕ) → text ≡ front ++ rest → take (length text - length rest) text ≡ front
front_at text front rest parts =
    let len : length front ≡ length text - length rest = omega (arith, length-append front rest, ap length parts) in
    subst (λ (t : List ℕ). take (length text - length rest) t ≡ front) (sym parts) (take_at front rest (length text - length rest) len)

pub back_at : (text front rest : List ℕ) → text ≡ front ++ rest → drop (length text - length rest) text ≡ rest
back_at text front rest parts =
    let len : length front ≡ length text - length rest = omega (arith, length-append front rest, ap length parts) in
    subst (λ (t : List ℕ). drop (length text - length rest) t ≡ rest) (sym parts) (drop_at front rest (length text - length rest) len)

utf8_after : (c : ℕ) (rest : List ℕ) → c < 128 → IsUtf8 (c ∷ rest) → IsUtf8 rest
utf8_after c rest ascii utf8 = IsUtf8-drop (c ∷ rest) 1 utf8 (IsCharBoundary-after_ascii (c ∷ rest) 0 utf8 (omega arith) ascii)

utf8_after_digits : (digits rest : List ℕ) → AllDigits 10 digits → IsUtf8 (digits ++ rest) → IsUtf8 rest
utf8_after_digits [] rest all utf8 = utf8
utf8_after_digits (c ∷ digits) rest all utf8 =
    let digit = digit_from_value c all.0 in
    utf8_after_digits digits rest all.1 (utf8_after c (digits ++ rest) (omega arith) utf8)

-- a text may be cut after a minus sign and digits
pub boundary_at : (text digits rest : List ℕ) → text ≡ (45 ∷ digits) ++ rest → AllDigits 10 digits → IsUtf8 text → IsCharBoundary text (length text - length rest)
boundary_at text digits rest parts all utf8 =
    let whole : IsUtf8 (45 ∷ digits ++ rest) = subst (λ (t : List ℕ). IsUtf8 t) parts utf8 in
    let after = utf8_after_digits digits rest all (utf8_after 45 (digits ++ rest) (lit< tt) whole) in
    let len : length (45 ∷ digits) ≡ length text - length rest = omega (arith, length-append (45 ∷ digits) rest, ap length parts) in
    subst (λ (n : ℕ). IsCharBoundary text n) len (IsCharBoundary-at_seam text (45 ∷ digits) rest parts after)
