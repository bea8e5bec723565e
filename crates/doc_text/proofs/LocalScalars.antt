-- How far the readers of values that hold no others look.
use Rattle.std.proofs.Common.{◌≡◌, ℕ, ℤ, suc, ◌+◌, ◌%◌, ◌^◌, ◌<◌, ◌≤◌, min, Bool, true, false, cond, List, [], ◌∷◌, ◌++◌, ◌==◌, ◌&&◌, length, take, drop, Ok, Err, ap, inl, inr, arith, nat_le}
use Rattle.std.specs.List.{prefix_len}
use Rattle.std.specs.Char.{is_ascii_digit}
use Rattle.std.specs.Str.Parse.{digits_value, signed_digits_value}
use Rattle.std.proofs.lemmas.Bool.{cases_lt}
use Rattle.std.proofs.lemmas.List.{length-append, length-drop}
use Rattle.bson_doc.specs.Bind.{◌>>=◌}
use Rattle.hex.specs.Hex.{is_hex_digit}
use Rattle.bson_doc.specs.Tree.{Tree, int32, int64}
use Rattle.doc_text.specs.declared.fault.Rule.TheVariants.{Unexpected, Number, Hex}
use Rattle.doc_text.specs.Bytes.{is_space}
use Rattle.doc_text.specs.Class.{after_spaces}
use Rattle.doc_text.specs.Fault.{Read, fails}
use Rattle.doc_text.specs.Marks.{mark_at, spaced_at, closing_at, word_at, opened_at}
use Rattle.doc_text.specs.Integers.{fits, digits_at, integer_at, natural_at, long_at, kind_at, number_at}
use Rattle.doc_text.specs.HexText.{bytes_of, closed_at, hex_fault, binary_hex_at, id_hex_at}
use Rattle.doc_text.proofs.Locality.{mark, read, Within, Alike, Local, within_more, alike_within, cond_within, cond_alike, bind_within, bind_alike, bind_local, front_alike, refused, ok_alike, marked_alike, map_local, cut, run_same, run_past, run_alike, after_alike, drop_within}

-- ---- marks

pub mark_local : (byte : ℕ) → Local mark (mark_at byte)
unfolding mark_at
mark_local byte = record {
  within = within;
  alike = λ c front after other. cond_alike mark after other (c == byte) _ _ _ _ (marked_alike front after other) (refused mark after other Unexpected (c ∷ (front ++ after)) (c ∷ (front ++ other)));
}
  where
    within : (text : List ℕ) → Within mark (length text) (mark_at byte text)
    within [] = λ _. omega arith
    within (c ∷ rest) = cond_within mark (suc (length rest)) (c == byte) (Ok rest) (fails Unexpected (c ∷ rest)) (omega arith) (λ _. omega arith)

pub spaces_local : Local mark (λ text. Ok (after_spaces text))
spaces_local = record {
  within = λ text. drop_within (prefix_len is_space text) text;
  alike = λ c front after other. after_alike is_space (c ∷ front) after other;
}

pub closing_local : (byte : ℕ) → Local mark (closing_at byte)
unfolding closing_at
closing_local byte = bind_local mark mark (λ text. Ok (after_spaces text)) (mark_at byte) spaces_local (λ _. mark_local byte)

pub spaced_local : (byte : ℕ) → Local mark (spaced_at byte)
unfolding spaced_at closing_at
spaced_local byte = bind_local mark mark (closing_at byte) (λ rest. Ok (after_spaces rest)) (closing_local byte) (λ _. spaces_local)

pub word_local : (word : List ℕ) → Local mark (word_at word)
unfolding word_at
word_local [] = record { within = λ text. omega arith; alike = λ c front after other. marked_alike (c ∷ front) after other }
word_local (letter ∷ letters) = bind_local mark mark (mark_at letter) (λ rest. word_at letters rest) (mark_local letter) (λ _. word_local letters)

pub opened_local : (word : List ℕ) → Local mark (opened_at word)
unfolding opened_at
opened_local word = bind_local mark mark (word_at word) (λ rest. spaced_at 40 rest) (word_local word) (λ _. spaced_local 40)

-- ---- numbers

digits_within : (text : List ℕ) → Within read (length text) (digits_at text)
unfolding digits_at
digits_within text =
    cond_within read (length text) (prefix_len is_ascii_digit text == 0) (fails Unexpected text) (Ok (take (prefix_len is_ascii_digit text) text, drop (prefix_len is_ascii_digit text) text)) (λ _. omega arith) (drop_within (prefix_len is_ascii_digit text) text)

-- whether there is a first digit is seen at the first byte
digits_alike : (c : ℕ) (front after other : List ℕ) → Alike read after other (digits_at (c ∷ (front ++ after))) (digits_at (c ∷ (front ++ other)))
unfolding digits_at
digits_alike c front after other = step (is_ascii_digit c) (prefix_len is_ascii_digit (front ++ after)) (prefix_len is_ascii_digit (front ++ other)) (run_alike is_ascii_digit (c ∷ front) after other)
  where
    step : (b : Bool) (n k : ℕ)
        → Alike read after other (Ok (take (cond b (1 + n) 0) (c ∷ (front ++ after)), drop (cond b (1 + n) 0) (c ∷ (front ++ after)))) (Ok (take (cond b (1 + k) 0) (c ∷ (front ++ other)), drop (cond b (1 + k) 0) (c ∷ (front ++ other))))
        → Alike read after other
        (cond (cond b (1 + n) 0 == 0) (fails Unexpected (c ∷ (front ++ after))) (Ok (take (cond b (1 + n) 0) (c ∷ (front ++ after)), drop (cond b (1 + n) 0) (c ∷ (front ++ after)))))
        (cond (cond b (1 + k) 0 == 0) (fails Unexpected (c ∷ (front ++ other))) (Ok (take (cond b (1 + k) 0) (c ∷ (front ++ other)), drop (cond b (1 + k) 0) (c ∷ (front ++ other)))))
    step true n k run =
        let one : (1 + n == 0) ≡ false = grind arith in
        let two : (1 + k == 0) ≡ false = grind arith in
        rw (one, two) run
    step false n k run = refused read after other Unexpected (c ∷ (front ++ after)) (c ∷ (front ++ other))

pub digits_local : Local read digits_at
digits_local = record { within = digits_within; alike = digits_alike }

-- digits after a minus sign
abbrev signed_at : List ℕ → Read (List ℕ)
signed_at text = digits_at text >>= λ digits. Ok (45 ∷ digits.0, digits.1)

signed_local : Local read signed_at
signed_local = map_local digits_at (λ digits. 45 ∷ digits) digits_local

integer_within : (text : List ℕ) → Within read (length text) (integer_at text)
unfolding integer_at
integer_within [] = λ _. omega arith
integer_within (c ∷ rest) =
    cond_within read (suc (length rest)) (c == 45) (signed_at rest) (digits_at (c ∷ rest)) (within_more read (length rest) (suc (length rest)) (signed_at rest) (omega arith) (signed_local.within rest)) (digits_local.within (c ∷ rest))

pub integer_local : Local read integer_at
unfolding integer_at
integer_local = record {
  within = integer_within;
  alike = λ c front after other. cond_alike read after other (c == 45) _ _ _ _ (front_alike read signed_at signed_local front after other) (digits_local.alike c front after other);
}

-- a number is in its range, or it is refused where it begins
pub range_within : {A : Type 0} (n : ℕ) (b : Bool) (v : A) (rest text : List ℕ) → length rest ≤ n → Within read n (cond b (Ok (v, rest)) (fails Number text))
range_within n true v rest text small = small
range_within n false v rest text small = λ local. absurd local

pub range_alike : {A : Type 0} (b : Bool) (v : A) (front after other s t : List ℕ) → Alike read after other (cond b (Ok (v, front ++ after)) (fails Number s)) (cond b (Ok (v, front ++ other)) (fails Number t))
range_alike true v front after other s t = ok_alike v front after other
range_alike false v front after other s t = λ local. absurd local

pub natural_local : (most : ℕ) → Local read (natural_at most)
unfolding natural_at
natural_local most = record {
  within = λ text. bind_within read read (length text) (digits_at text) _ (digits_local.within text) (λ x small. range_within (length text) (nat_le (digits_value 10 x.0) most) (digits_value 10 x.0) x.1 text small);
  alike = λ c front after other.
      bind_alike read read (length (c ∷ (front ++ after))) after other (digits_at (c ∷ (front ++ after))) (digits_at (c ∷ (front ++ other))) _ _ (digits_local.within (c ∷ (front ++ after))) (digits_local.alike c front after other)
      (λ x close. range_within (length after) (nat_le (digits_value 10 x.0) most) (digits_value 10 x.0) x.1 (c ∷ (front ++ after)) close)
      (λ x d m _. range_alike (nat_le (digits_value 10 x.0) most) (digits_value 10 x.0) (d ∷ m) after other (c ∷ (front ++ after)) (c ∷ (front ++ other)));
}

pub long_local : Local read long_at
unfolding long_at
long_local = record {
  within = λ text. bind_within read read (length text) (integer_at text) _ (integer_local.within text) (λ x small. range_within (length text) (fits (2 ^ 63) (signed_digits_value 10 x.0)) (signed_digits_value 10 x.0) x.1 text small);
  alike = λ c front after other.
      bind_alike read read (length (c ∷ (front ++ after))) after other (integer_at (c ∷ (front ++ after))) (integer_at (c ∷ (front ++ other))) _ _ (integer_local.within (c ∷ (front ++ after))) (integer_local.alike c front after other)
      (λ x close. range_within (length after) (fits (2 ^ 63) (signed_digits_value 10 x.0)) (signed_digits_value 10 x.0) x.1 (c ∷ (front ++ after)) close)
      (λ x d m _. range_alike (fits (2 ^ 63) (signed_digits_value 10 x.0)) (signed_digits_value 10 x.0) (d ∷ m) after other (c ∷ (front ++ after)) (c ∷ (front ++ other)));
}

abbrev tested : Bool → ℤ → List ℕ → List ℕ → Read ℤ
tested b v rest text = cond b (Ok (v, rest)) (fails Number text)

made_within : (n : ℕ) (make : ℤ → Tree) (b : Bool) (v : ℤ) (rest text : List ℕ) → length rest ≤ n → Within read n (tested b v rest text >>= λ x. Ok (make x.0, x.1))
made_within n make true v rest text small = small
made_within n make false v rest text small = λ local. absurd local

made_alike : (make : ℤ → Tree) (b : Bool) (v : ℤ) (front after other s t : List ℕ)
    → Alike read after other (tested b v (front ++ after) s >>= λ x. Ok (make x.0, x.1)) (tested b v (front ++ other) t >>= λ x. Ok (make x.0, x.1))
made_alike make true v front after other s t = ok_alike (make v) front after other
made_alike make false v front after other s t = λ local. absurd local

kind_within : (n : ℕ) (text numeral rest : List ℕ) → length rest ≤ n → Within read n (kind_at text numeral rest)
kind_within n text numeral [] small = made_within n int32 (fits (2 ^ 31) (signed_digits_value 10 numeral)) (signed_digits_value 10 numeral) [] text small
kind_within n text numeral (c ∷ rest) small =
    cond_within read n (c == 76) _ _ (made_within n int64 (fits (2 ^ 63) (signed_digits_value 10 numeral)) (signed_digits_value 10 numeral) rest text (omega arith)) (made_within n int32 (fits (2 ^ 31) (signed_digits_value 10 numeral)) (signed_digits_value 10 numeral) (c ∷ rest) text small)

pub number_local : Local read number_at
unfolding number_at
number_local = record {
  within = λ text. bind_within read read (length text) (integer_at text) _ (integer_local.within text) (λ x small. kind_within (length text) text x.0 x.1 small);
  alike = λ c front after other.
      bind_alike read read (length (c ∷ (front ++ after))) after other (integer_at (c ∷ (front ++ after))) (integer_at (c ∷ (front ++ other))) _ _ (integer_local.within (c ∷ (front ++ after))) (integer_local.alike c front after other)
      (λ x close. kind_within (length after) (c ∷ (front ++ after)) x.0 x.1 close)
      (λ x d m _. cond_alike read after other (d == 76) _ _ _ _
      (made_alike int64 (fits (2 ^ 63) (signed_digits_value 10 x.0)) (signed_digits_value 10 x.0) m after other (c ∷ (front ++ after)) (c ∷ (front ++ other)))
      (made_alike int32 (fits (2 ^ 31) (signed_digits_value 10 x.0)) (signed_digits_value 10 x.0) (d ∷ m) after other (c ∷ (front ++ after)) (c ∷ (front ++ other))));
}

-- ---- hexadecimal digits

closed_within : (right : Bool) (n : ℕ) (digits stop : List ℕ) → length stop ≤ n → Within read n (closed_at right digits stop)
closed_within right n digits [] small = λ _. small
closed_within right n digits (c ∷ rest) small = cond_within read n (c == 34 && right) (Ok (bytes_of digits, rest)) (Err (hex_fault (c ∷ rest))) (omega arith) (λ _. small)

closed_alike : (right : Bool) (digits : List ℕ) (c : ℕ) (front after other : List ℕ) → Alike read after other (closed_at right digits (c ∷ (front ++ after))) (closed_at right digits (c ∷ (front ++ other)))
closed_alike right digits c front after other =
    cond_alike read after other (c == 34 && right) _ _ _ _ (ok_alike (bytes_of digits) front after other) (refused read after other Hex (c ∷ (front ++ after)) (c ∷ (front ++ other)))

-- where the digits are cut at one place, whatever follows the prefix
cut_alike : (right : ℕ → Bool) (n k : ℕ) (front after other : List ℕ) → (n < length front → k ≡ n)
    → Alike read after other (closed_at (right n) (take n (front ++ after)) (drop n (front ++ after))) (closed_at (right k) (take k (front ++ other)) (drop k (front ++ other)))
cut_alike right n k front after other same =
    elim (cases_lt n (length front)) [
      | inl inside ↦
          let parts = cut n front after other inside in
          rw (same inside, parts.same, parts.rest, parts.other_rest) (closed_alike (right n) (take n (front ++ after)) parts.first parts.later after other)
      | inr past ↦
          let small : length (drop n (front ++ after)) ≤ length after = omega (arith, length-drop n (front ++ after), length-append front after) in
          alike_within read after other _ _ (closed_within (right n) (length after) (take n (front ++ after)) (drop n (front ++ after)) small)
    ]

pub binary_hex_local : Local read binary_hex_at
unfolding binary_hex_at
binary_hex_local = record {
  within = λ text. closed_within (prefix_len is_hex_digit text % 2 == 0) (length text) (take (prefix_len is_hex_digit text) text) (drop (prefix_len is_hex_digit text) text) (drop_within (prefix_len is_hex_digit text) text);
  alike = λ c front after other.
      cut_alike (λ n. n % 2 == 0) (prefix_len is_hex_digit (c ∷ (front ++ after))) (prefix_len is_hex_digit (c ∷ (front ++ other))) (c ∷ front) after other (run_same is_hex_digit (c ∷ front) after other);
}

least_same : (n k len : ℕ) → (n < len → k ≡ n) → (len ≤ n → len ≤ k) → min n 24 < len → min k 24 ≡ min n 24
least_same n k len same past inside =
    elim (cases_lt n len) [
      | inl short ↦ ap (λ (i : ℕ). min i 24) (same short)
      | inr long ↦ let later = past long in omega arith
    ]

pub id_hex_local : Local read id_hex_at
unfolding id_hex_at
id_hex_local = record {
  within = λ text. closed_within (min (prefix_len is_hex_digit text) 24 == 24) (length text) (take (min (prefix_len is_hex_digit text) 24) text) (drop (min (prefix_len is_hex_digit text) 24) text) (drop_within (min (prefix_len is_hex_digit text) 24) text);
  alike = λ c front after other.
      cut_alike (λ n. n == 24) (min (prefix_len is_hex_digit (c ∷ (front ++ after))) 24) (min (prefix_len is_hex_digit (c ∷ (front ++ other))) 24) (c ∷ front) after other
      (least_same (prefix_len is_hex_digit (c ∷ (front ++ after))) (prefix_len is_hex_digit (c ∷ (front ++ other))) (length (c ∷ front)) (run_same is_hex_digit (c ∷ front) after other) (run_past is_hex_digit (c ∷ front) after other));
}
