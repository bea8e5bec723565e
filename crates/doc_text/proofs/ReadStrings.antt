-- The text read is a spelling of the result: strings and names.
use Rattle.std.proofs.Common.{◌≡◌, ℕ, zero, suc, ◌+◌, ◌*◌, Bool, true, false, cond, List, [], ◌∷◌, ◌++◌, ◌==◌, ◌&&◌, length, take, Option, Some, None, Result, Ok, Err, refl, sym, ap, subst, ◌∙◌, append_assoc, arith, inl, inr}
use Rattle.std.specs.Prelude.{encode_utf8, Contains, nat_le}
use Rattle.std.specs.List.{prefix_len, list_all}
use Rattle.std.proofs.lemmas.List.{take-append-drop}
use Rattle.hex.specs.Hex.{hex_digit_value}
use denote.Ref.{Bor}
use Rattle.std.specs.Result.{IfOk}
use Rattle.bson_doc.specs.declared.text.Text.{Text}
use Rattle.doc_text.specs.declared.fault.ReadError.{ReadError}
use Rattle.doc_text.specs.Fault.{Gives}
use Rattle.doc_text.specs.Bytes.{is_plain, is_name_byte, is_name_start}
use Rattle.doc_text.specs.Strings.{hex_digit_at, unicode_at, named_character, or_escape, escape_at, letters_at}
use Rattle.doc_text.specs.Names.{name_at}
use Rattle.doc_text.specs.Printing.{is_bare}
use Rattle.doc_text.specs.Spelling.{Letter, itself, named, coded, written, IsCode, Means, SpellsLetters, SpellsString, SpellsName}
use Rattle.doc_text.proofs.NamesAreClean.{no_zero, letters_clean, bare_clean}
use Rattle.doc_text.proofs.ReadIsSpelled.{same}
use Rattle.bson_doc.proofs.BindLemmas.{Gets, bind_gets, gets_more, cond_gets}

-- ---- escapes

abbrev DigitRead : List ℕ → ℕ × List ℕ → Type 0
DigitRead input x = (c : ℕ) × (hex_digit_value c ≡ Some x.0) × (input ≡ c ∷ x.1)

one_digit : (c : ℕ) (rest : List ℕ) (found : Option ℕ) → hex_digit_value c ≡ found → Gets (or_escape found (c ∷ rest) rest) (DigitRead (c ∷ rest))
one_digit c rest None is = tt
one_digit c rest (Some value) is = (c, is, refl)

digit_gets : (input : List ℕ) → Gets (hex_digit_at input) (DigitRead input)
unfolding hex_digit_at
digit_gets [] = tt
digit_gets (c ∷ rest) = one_digit c rest (hex_digit_value c) refl

-- the written character that an escape is
abbrev EscapeRead : Bool → List ℕ → ℕ × List ℕ → Type 0
EscapeRead in_name input x = (letter : Letter) × Means in_name letter (encode_utf8 x.0) × (92 ∷ input ≡ written letter ++ x.1)

unicode_gets : (in_name : Bool) (input : List ℕ) → Gets (unicode_at in_name input) (EscapeRead in_name (117 ∷ input))
unfolding unicode_at
unicode_gets in_name input =
    bind_gets (hex_digit_at input) _ (DigitRead input) (EscapeRead in_name (117 ∷ input)) (digit_gets input) (λ first one.
    bind_gets (hex_digit_at first.1) _ (DigitRead first.1) (EscapeRead in_name (117 ∷ input)) (digit_gets first.1) (λ second two.
    cond_gets (first.0 == 13 && nat_le 8 second.0) _ _ (EscapeRead in_name (117 ∷ input)) (λ _. tt) (λ no_surrogate.
    bind_gets (hex_digit_at second.1) _ (DigitRead second.1) (EscapeRead in_name (117 ∷ input)) (digit_gets second.1) (λ third three.
    bind_gets (hex_digit_at third.1) _ (DigitRead third.1) (EscapeRead in_name (117 ∷ input)) (digit_gets third.1) (λ fourth four.
    cond_gets (in_name && ((first.0 * 16 + second.0) * 16 + third.0) * 16 + fourth.0 == 0) _ _ (EscapeRead in_name (117 ∷ input)) (λ _. tt) (λ no_zero_code.
    let code : IsCode in_name one.0 two.0 three.0 four.0 (((first.0 * 16 + second.0) * 16 + third.0) * 16 + fourth.0) = record {
      first = first.0;
      second = second.0;
      third = third.0;
      fourth = fourth.0;
      first_digit = one.1;
      second_digit = two.1;
      third_digit = three.1;
      fourth_digit = four.1;
      value = refl;
      no_surrogate = no_surrogate;
      no_zero = no_zero_code;
    } in
    let digits : input ≡ one.0 ∷ two.0 ∷ three.0 ∷ four.0 ∷ fourth.1 = one.2 ∙ ap (λ (x : List ℕ). one.0 ∷ x) (two.2 ∙ ap (λ (x : List ℕ). two.0 ∷ x) (three.2 ∙ ap (λ (x : List ℕ). three.0 ∷ x) four.2)) in
    (coded one.0 two.0 three.0 four.0, (((first.0 * 16 + second.0) * 16 + third.0) * 16 + fourth.0, code, refl), ap (λ (x : List ℕ). 92 ∷ 117 ∷ x) digits)))))))

one_escape : (in_name : Bool) (c : ℕ) (rest : List ℕ) (found : Option ℕ) → named_character c ≡ found → Gets (or_escape found (c ∷ rest) rest) (EscapeRead in_name (c ∷ rest))
one_escape in_name c rest None is = tt
one_escape in_name c rest (Some character) is = (named c, (character, is, refl), refl)

escape_gets : (in_name : Bool) (input : List ℕ) → Gets (escape_at in_name input) (EscapeRead in_name input)
unfolding escape_at
escape_gets in_name [] = tt
escape_gets in_name (c ∷ rest) =
    cond_gets (c == 117) (unicode_at in_name rest) (or_escape (named_character c) (c ∷ rest) rest) (EscapeRead in_name (c ∷ rest))
    (λ unicode. subst (λ (x : ℕ). Gets (unicode_at in_name rest) (EscapeRead in_name (x ∷ rest))) (sym (same c 117 unicode)) (unicode_gets in_name rest))
    (λ other. one_escape in_name c rest (named_character c) refl)

-- ---- strings

abbrev pub LettersRead : Bool → List ℕ → List ℕ × List ℕ → Type 0
LettersRead in_name input x = (letters : List Letter) × (s : List ℕ) × SpellsLetters in_name letters x.0 s × (input ≡ s ++ x.1)

pub letters_gets : (in_name : Bool) (most : ℕ) (input : List ℕ) → Gets (letters_at in_name most input) (LettersRead in_name input)
unfolding letters_at
letters_gets in_name most [] = tt
letters_gets in_name zero (c ∷ rest) = tt
letters_gets in_name (suc most) (c ∷ rest) =
    cond_gets (c == 34) _ _ (LettersRead in_name (c ∷ rest)) (λ mark. ([], 34 ∷ [], (refl, refl), ap (λ (x : ℕ). x ∷ rest) (same c 34 mark))) (λ _.
    cond_gets (c == 92) _ _ (LettersRead in_name (c ∷ rest)) (λ backslash.
    bind_gets (escape_at in_name rest) _ (EscapeRead in_name rest) (LettersRead in_name (c ∷ rest)) (escape_gets in_name rest) (λ character one.
    bind_gets (letters_at in_name most character.1) _ (LettersRead in_name character.1) (LettersRead in_name (c ∷ rest)) (letters_gets in_name most character.1) (λ others later. (
      one.0 ∷ later.0,
      written one.0 ++ later.1,
      (encode_utf8 character.0, others.0, later.1, one.1, later.2, refl, refl),
      ap (λ (x : ℕ). x ∷ rest) (same c 92 backslash) ∙ one.2 ∙ ap (λ (x : List ℕ). written one.0 ++ x) later.3 ∙ sym (append_assoc (written one.0) later.1 others.1),
    )))) (λ _.
    cond_gets (is_plain c) _ _ (LettersRead in_name (c ∷ rest)) (λ plain.
    bind_gets (letters_at in_name most rest) _ (LettersRead in_name rest) (LettersRead in_name (c ∷ rest)) (letters_gets in_name most rest) (λ others later.
    (itself c ∷ later.0, c ∷ later.1, (c ∷ [], others.0, later.1, (plain, refl), later.2, refl, refl), ap (λ (x : List ℕ). c ∷ x) later.3))) (λ _. tt)))

-- a name that was read as a string has no zero byte
pub clean_string : (text : List ℕ) (r : Result (Text × Bor (List ℕ)) ReadError) → Gives (λ x. (x.0, x.1.now)) r (letters_at true (length text) text) → IfOk r (λ x. ¬ Contains x.0 0)
clean_string text (Ok x) read =
    let got : LettersRead true text (x.0, x.1.now) = rw read at (letters_gets true (length text) text) in
    no_zero x.0 (letters_clean got.0 x.0 got.1 got.2)
clean_string text (Err e) read = tt

-- ---- names

all_names : (b : Bool) (c n : ℕ) (rest : List ℕ) → is_name_byte c ≡ b → list_all is_name_byte (take n rest) ≡ true → list_all is_name_byte (take (cond b (1 + n) 0) (c ∷ rest)) ≡ true
all_names true c n rest inside later =
    let one : 1 + n ≡ suc n = omega arith in
    rw one (rw (inside, later) refl)
all_names false c n rest outside later = refl

run_of_names : (input : List ℕ) → list_all is_name_byte (take (prefix_len is_name_byte input) input) ≡ true
run_of_names [] = refl
run_of_names (c ∷ rest) = all_names (is_name_byte c) c (prefix_len is_name_byte rest) rest refl (run_of_names rest)

start_inside : (c : ℕ) → is_name_start c ≡ true → is_name_byte c ≡ true
start_inside c starts = rw starts refl

bare_step : (b : Bool) (c n : ℕ) (rest : List ℕ) → is_name_start c ≡ true → b ≡ true → list_all is_name_byte (take n rest) ≡ true → is_bare (take (cond b (1 + n) 0) (c ∷ rest)) ≡ true
bare_step true c n rest starts holds later =
    let one : 1 + n ≡ suc n = omega arith in
    rw one (rw (starts, later) refl)
bare_step false c n rest starts holds later = absurd cc

bare_run : (c : ℕ) (rest : List ℕ) → is_name_start c ≡ true → is_bare (take (prefix_len is_name_byte (c ∷ rest)) (c ∷ rest)) ≡ true
bare_run c rest starts = bare_step (is_name_byte c) c (prefix_len is_name_byte rest) rest starts (start_inside c starts) (run_of_names rest)

-- a name without a zero byte
abbrev pub NameRead : List ℕ → List ℕ × List ℕ → Type 0
NameRead input x = (s : List ℕ) × SpellsName x.0 s × (input ≡ s ++ x.1) × (¬ Contains x.0 0)

pub name_gets : (input : List ℕ) → Gets (name_at input) (NameRead input)
unfolding name_at
name_gets [] = tt
name_gets (c ∷ rest) =
    cond_gets (c == 34) _ _ (NameRead (c ∷ rest))
    (λ mark. gets_more (letters_at true (length rest) rest) (LettersRead true rest) (NameRead (c ∷ rest)) (letters_gets true (length rest) rest) (λ x got.
    let quoted : SpellsString true x.0 (34 ∷ got.1) = record { letters = got.0; tail = got.1; spelled = got.2; whole = refl } in
    (34 ∷ got.1, inr quoted, ap (λ (k : ℕ). k ∷ rest) (same c 34 mark) ∙ ap (λ (t : List ℕ). 34 ∷ t) got.3, no_zero x.0 (letters_clean got.0 x.0 got.1 got.2))))
    (λ _. cond_gets (is_name_start c) _ _ (NameRead (c ∷ rest))
    (λ starts. (take (prefix_len is_name_byte (c ∷ rest)) (c ∷ rest), inl (bare_run c rest starts, refl), sym (take-append-drop (prefix_len is_name_byte (c ∷ rest)) (c ∷ rest)), no_zero (take (prefix_len is_name_byte (c ∷ rest)) (c ∷ rest)) (bare_clean (c ∷ rest))))
    (λ _. tt))
