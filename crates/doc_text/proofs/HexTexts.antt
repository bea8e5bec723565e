-- Digits between quotation marks.
use Rattle.std.proofs.Common.{◌≡◌, ◌≢◌, ℕ, zero, suc, ◌+◌, ◌%◌, ◌≤◌, Bool, true, false, cond, List, [], ◌∷◌, ◌==◌, length, take, drop, min, Result, Ok, Err, refl, sym, ap, ◌∙◌, arith, inl, inr}
use Rattle.std.specs.Result.{result_unwrap_or}
use Rattle.std.specs.List.{prefix_len, take_while, AllPass}
use Rattle.std.proofs.lemmas.List.{length-take}
use Rattle.std.proofs.lemmas.List.Folds.{length-prefix_len}
use Rattle.std.proofs.lemmas.List.Sums.{prefix_len-le-length}
use Rattle.std.proofs.lemmas.Bool.{cases_eq}
use Rattle.std.proofs.lemmas.List.Elements.{All-cons, All-nil}
use Rattle.hex.specs.Hex.{is_hex_digit, decode_of, decode_sized}
use Rattle.hex.specs.declared.error.FromHexError.{FromHexError}
use Rattle.hex.proofs.HexLemmas.{decode_of-ok, decode_of-digits, decode_sized-twice}
use Rattle.doc_text.specs.HexText.{bytes_of, closed_at, hex_fault, binary_hex_at, id_hex_at}

digit_run : (b : Bool) (c : ℕ) (rest : List ℕ) (n : ℕ) → is_hex_digit c ≡ b → AllPass is_hex_digit (take n rest) → AllPass is_hex_digit (take (cond b (1 + n) 0) (c ∷ rest))
digit_run true c rest n e digits =
    let one : 1 + n ≡ suc n = omega arith in
    rw one (All-cons (λ d. is_hex_digit d ≡ true) c (take n rest) e digits)
digit_run false c rest n e digits = All-nil (λ d. is_hex_digit d ≡ true)

-- a run of digits has digits alone
pub run_of_hex_digits : (text : List ℕ) → AllPass is_hex_digit (take (prefix_len is_hex_digit text) text)
run_of_hex_digits [] = All-nil (λ d. is_hex_digit d ≡ true)
run_of_hex_digits (c ∷ rest) = digit_run (is_hex_digit c) c rest (prefix_len is_hex_digit rest) refl (run_of_hex_digits rest)

pub closed_wrong_mark : (right : Bool) (digits stop : List ℕ) → ((rest : List ℕ) → stop ≢ 34 ∷ rest) → closed_at right digits stop ≡ Err (hex_fault stop)
closed_wrong_mark right digits [] other = refl
closed_wrong_mark right digits (c ∷ rest) other =
    elim (cases_eq c 34) [
      | inl mark ↦ absurd (other rest (ap (λ (x : ℕ). x ∷ rest) mark))
      | inr wrong ↦ grind arith
    ]

pub closed_wrong_count : (right : Bool) (digits stop : List ℕ) → right ≡ false → closed_at right digits stop ≡ Err (hex_fault stop)
closed_wrong_count right digits [] wrong = refl
closed_wrong_count right digits (c ∷ rest) wrong = rw wrong (grind arith)

pub closed_right : (right : Bool) (digits stop rest : List ℕ) → right ≡ true → stop ≡ 34 ∷ rest → closed_at right digits stop ≡ Ok (bytes_of digits, rest)
closed_right right digits stop rest enough mark = rw (mark, enough) refl

-- digits decode where their number is even
pub decoded : (digits bytes : List ℕ) → decode_of digits ≡ Ok bytes → (length digits % 2 ≡ 0) × (bytes_of digits ≡ bytes)
decoded digits bytes read = ((decode_of-ok digits bytes read).0, ap (λ (r : Result (List ℕ) FromHexError). result_unwrap_or r []) read)

pub not_decoded : (digits : List ℕ) (error : FromHexError) → AllPass is_hex_digit digits → decode_of digits ≡ Err error → length digits % 2 ≡ 0 → ⊥
not_decoded digits error all refused even =
    let read = decode_of-digits digits even all in
    cc (sym refused ∙ read.1)

-- 24 digits decode into 12 bytes
pub not_sized : (digits : List ℕ) (error : FromHexError) → AllPass is_hex_digit digits → Err error ≡ decode_sized digits 12 → length digits ≡ 24 → ⊥
not_sized digits error all refused len =
    not_decoded digits error all (sym (decode_sized-twice digits 12 len) ∙ sym refused) (omega (arith, len))

-- ---- what the readers refuse

pub binary_wrong_mark : (text stop : List ℕ) → stop ≡ drop (prefix_len is_hex_digit text) text → ((rest : List ℕ) → stop ≢ 34 ∷ rest) → binary_hex_at text ≡ Err (hex_fault stop)
unfolding binary_hex_at
binary_wrong_mark text stop is other =
    rw (← is) (closed_wrong_mark (prefix_len is_hex_digit text % 2 == 0) (take (prefix_len is_hex_digit text) text) stop other)

-- so many digits are read of an ObjectId
pub id_len : (text run : List ℕ) (n : ℕ) → run ≡ take_while is_hex_digit text → n ≡ min (length run) 24 → n ≡ min (prefix_len is_hex_digit text) 24
id_len text run n is len = omega (arith, len, ap length is, length-prefix_len is_hex_digit text)

pub id_wrong_mark : (text stop : List ℕ) (n : ℕ) → n ≡ min (prefix_len is_hex_digit text) 24 → stop ≡ drop n text → ((rest : List ℕ) → stop ≢ 34 ∷ rest) → id_hex_at text ≡ Err (hex_fault stop)
unfolding id_hex_at
id_wrong_mark text stop n len is other =
    rw (← len, ← is) (closed_wrong_mark (n == 24) (take n text) stop other)

longer : (b : Bool) (n m : ℕ) → suc n ≤ cond b (1 + m) 0 → (b ≡ true) × (n ≤ m)
longer true n m within = (refl, omega arith)
longer false n m within = absurd (omega arith)

-- some digits of a run
pub some_digits : (text : List ℕ) (n : ℕ) → n ≤ prefix_len is_hex_digit text → AllPass is_hex_digit (take n text)
some_digits text zero within = All-nil (λ d. is_hex_digit d ≡ true)
some_digits [] (suc n) within = absurd (omega arith)
some_digits (c ∷ rest) (suc n) within =
    let first : (is_hex_digit c ≡ true) × (n ≤ prefix_len is_hex_digit rest) = longer (is_hex_digit c) n (prefix_len is_hex_digit rest) within in
    All-cons (λ d. is_hex_digit d ≡ true) c (take n rest) first.0 (some_digits rest n first.1)

pub id_wrong_count : (text digits stop : List ℕ) (n : ℕ) (error : FromHexError) → n ≡ min (prefix_len is_hex_digit text) 24 → digits ≡ take n text → stop ≡ drop n text
    → Err error ≡ decode_sized digits 12 → id_hex_at text ≡ Err (hex_fault stop)
unfolding id_hex_at
id_wrong_count text digits stop n error len front is refused =
    rw (← len, ← is) (elim (cases_eq n 24) [
      | inl enough ↦
          let long = prefix_len-le-length is_hex_digit text in
          let all : AllPass is_hex_digit digits = rw front (some_digits text n (omega (arith, len))) in
          absurd (not_sized digits error all refused (omega (arith, ap length front, length-take n text, len, long)))
      | inr few ↦ closed_wrong_count (n == 24) (take n text) stop (grind arith)
    ])
