-- How far the readers of strings, names and whole scalars look.
use Rattle.std.proofs.Common.{ℕ, zero, suc, ◌+◌, ◌*◌, ◌^◌, ◌≤◌, Bool, true, false, cond, List, [], ◌∷◌, ◌++◌, ◌==◌, ◌&&◌, length, Option, Some, None, Ok, Err, refl, arith, nat_le}
use Rattle.std.specs.Prelude.{codes, encode_utf8}
use Rattle.std.specs.List.{prefix_len}
use Rattle.std.proofs.lemmas.List.{length-append}
use Rattle.bson_doc.specs.Bind.{◌>>=◌}
use Rattle.hex.specs.Hex.{hex_digit_value}
use Rattle.bson_doc.specs.Tree as tree
use Rattle.bson_doc.specs.Tree.{Tree, null, binary, object_id, boolean, date, timestamp}
use Rattle.doc_text.specs.declared.fault.Rule.{Rule}
use Rattle.doc_text.specs.declared.fault.Rule.TheVariants.{Unexpected, Escape, NameZero}
use Rattle.doc_text.specs.Bytes.{is_plain, is_name_byte, is_name_start}
use Rattle.doc_text.specs.Fault.{Read, fails}
use Rattle.doc_text.specs.Marks.{mark_at, spaced_at, closing_at, word_at, opened_at}
use Rattle.doc_text.specs.Integers.{natural_at, long_at}
use Rattle.doc_text.specs.HexText.{binary_hex_at, id_hex_at}
use Rattle.doc_text.specs.Strings.{or_escape, hex_digit_at, unicode_at, named_character, escape_at, letters_at}
use Rattle.doc_text.specs.Names.{name_at}
use Rattle.doc_text.specs.Scalars.{string_at, date_at, first_at, binary_at, id_at, time_at, constant_at, scalar_at}
use Rattle.doc_text.proofs.Locality.{mark, read, Within, Alike, Local, within_more, alike_within, cond_within, cond_alike, bind_within, bind_alike, bind_local, front_alike, refused, ok_alike, ok_local, map_local, run_alike, drop_within}
use Rattle.doc_text.proofs.LocalScalars.{mark_local, closing_local, spaced_local, word_local, opened_local, natural_local, long_local, number_local, binary_hex_local, id_hex_local}

-- ---- escapes

found_within : (o : Option ℕ) (c : ℕ) (rest : List ℕ) → Within read (suc (length rest)) (or_escape o (c ∷ rest) rest)
found_within None c rest = λ _. omega arith
found_within (Some v) c rest = omega arith

found_alike : (o : Option ℕ) (c : ℕ) (front after other : List ℕ) → Alike read after other (or_escape o (c ∷ (front ++ after)) (front ++ after)) (or_escape o (c ∷ (front ++ other)) (front ++ other))
found_alike None c front after other = refused read after other Escape (c ∷ (front ++ after)) (c ∷ (front ++ other))
found_alike (Some v) c front after other = ok_alike v front after other

digit_within : (text : List ℕ) → Within read (length text) (hex_digit_at text)
unfolding hex_digit_at
digit_within [] = λ _. omega arith
digit_within (c ∷ rest) = found_within (hex_digit_value c) c rest

digit_local : Local read hex_digit_at
unfolding hex_digit_at
digit_local = record { within = digit_within; alike = λ c front after other. found_alike (hex_digit_value c) c front after other }

-- A digit with a test, which refuses it where it stands, and what is read after it.
abbrev guarded_at : (ℕ → Bool) → Rule → (ℕ → List ℕ → Read ℕ) → List ℕ → Read ℕ
guarded_at bad rule next text = hex_digit_at text >>= λ digit. cond (bad digit.0) (fails rule text) (next digit.0 digit.1)

guarded_local : (bad : ℕ → Bool) (rule : Rule) (next : ℕ → List ℕ → Read ℕ) → ((v : ℕ) → Local read (next v)) → Local read (guarded_at bad rule next)
unfolding hex_digit_at
guarded_local bad rule next later = record {
  within = λ text. bind_within read read (length text) (hex_digit_at text) _ (digit_local.within text) (λ x small.
      cond_within read (length text) (bad x.0) (fails rule text) (next x.0 x.1) (λ _. omega arith) (within_more read (length x.1) (length text) (next x.0 x.1) small ((later x.0).within x.1)));
  alike = λ c front after other. step (hex_digit_value c) c front after other;
}
  where
    step : (o : Option ℕ) (c : ℕ) (front after other : List ℕ)
        → Alike read after other (or_escape o (c ∷ (front ++ after)) (front ++ after) >>= λ digit. cond (bad digit.0) (fails rule (c ∷ (front ++ after))) (next digit.0 digit.1)) (or_escape o (c ∷ (front ++ other)) (front ++ other) >>= λ digit. cond (bad digit.0) (fails rule (c ∷ (front ++ other))) (next digit.0 digit.1))
    step None c front after other = refused read after other Escape (c ∷ (front ++ after)) (c ∷ (front ++ other))
    step (Some v) c front after other =
        cond_alike read after other (bad v) _ _ _ _ (refused read after other rule (c ∷ (front ++ after)) (c ∷ (front ++ other))) (front_alike read (next v) (later v) front after other)

abbrev fourth_at : Bool → ℕ → ℕ → ℕ → List ℕ → Read ℕ
fourth_at in_name first second third =
    guarded_at (λ fourth. in_name && (((first * 16 + second) * 16 + third) * 16 + fourth == 0)) NameZero (λ fourth rest. Ok (((first * 16 + second) * 16 + third) * 16 + fourth, rest))

fourth_local : (in_name : Bool) (first second third : ℕ) → Local read (fourth_at in_name first second third)
fourth_local in_name first second third = guarded_local _ NameZero _ (λ fourth. ok_local (((first * 16 + second) * 16 + third) * 16 + fourth))

abbrev third_at : Bool → ℕ → ℕ → List ℕ → Read ℕ
third_at in_name first second text = hex_digit_at text >>= λ third. fourth_at in_name first second third.0 third.1

unicode_local : (in_name : Bool) → Local read (unicode_at in_name)
unfolding unicode_at
unicode_local in_name =
    bind_local read read hex_digit_at (λ first. guarded_at (λ second. first.0 == 13 && nat_le 8 second) Escape (third_at in_name first.0) first.1) digit_local (λ first.
    guarded_local (λ second. first.0 == 13 && nat_le 8 second) Escape (third_at in_name first.0) (λ second.
    bind_local read read hex_digit_at (λ third. fourth_at in_name first.0 second third.0 third.1) digit_local (λ third. fourth_local in_name first.0 second third.0)))

escape_within : (in_name : Bool) (text : List ℕ) → Within read (length text) (escape_at in_name text)
unfolding escape_at
escape_within in_name [] = λ _. omega arith
escape_within in_name (c ∷ rest) =
    cond_within read (suc (length rest)) (c == 117) (unicode_at in_name rest) (or_escape (named_character c) (c ∷ rest) rest) (within_more read (length rest) (suc (length rest)) (unicode_at in_name rest) (omega arith) ((unicode_local in_name).within rest)) (found_within (named_character c) c rest)

escape_local : (in_name : Bool) → Local read (escape_at in_name)
unfolding escape_at
escape_local in_name = record {
  within = escape_within in_name;
  alike = λ c front after other. cond_alike read after other (c == 117) _ _ _ _ (front_alike read (unicode_at in_name) (unicode_local in_name) front after other) (found_alike (named_character c) c front after other);
}

-- ---- strings

letters_within : (in_name : Bool) (most : ℕ) (text : List ℕ) → Within read (length text) (letters_at in_name most text)
unfolding letters_at
letters_within in_name most [] = λ _. omega arith
letters_within in_name zero (c ∷ rest) = λ _. omega arith
letters_within in_name (suc most) (c ∷ rest) =
    cond_within read (suc (length rest)) (c == 34) _ _ (omega arith)
    (cond_within read (suc (length rest)) (c == 92) _ _
    (bind_within read read (suc (length rest)) (escape_at in_name rest) _ (within_more read (length rest) (suc (length rest)) (escape_at in_name rest) (omega arith) (escape_within in_name rest)) (λ character small.
    bind_within read read (suc (length rest)) (letters_at in_name most character.1) _ (within_more read (length character.1) (suc (length rest)) (letters_at in_name most character.1) small (letters_within in_name most character.1)) (λ others fewer. fewer)))
    (cond_within read (suc (length rest)) (is_plain c) _ _
    (bind_within read read (suc (length rest)) (letters_at in_name most rest) _ (within_more read (length rest) (suc (length rest)) (letters_at in_name most rest) (omega arith) (letters_within in_name most rest)) (λ others fewer. fewer))
    (λ _. omega arith)))

-- what was read before a string's later characters
more_alike : (front : List ℕ) (after other : List ℕ) (r s : Read (List ℕ)) → Alike read after other r s → Alike read after other (r >>= λ others. Ok (front ++ others.0, others.1)) (s >>= λ others. Ok (front ++ others.0, others.1))
more_alike front after other (Ok x) s one = λ far. let p = one far in (p.0, p.1, p.2, rw p.3 refl)
more_alike front after other (Err e) s one = λ local far. let p = one local far in (p.0, rw p.1 refl)

-- enough characters may be read of either text
letters_alike : (in_name : Bool) (most most2 : ℕ) (front after other : List ℕ) → length (front ++ after) ≤ most → length (front ++ other) ≤ most2 → Alike read after other (letters_at in_name most (front ++ after)) (letters_at in_name most2 (front ++ other))
unfolding letters_at
letters_alike in_name most most2 [] after other fits fits2 = alike_within read after other (letters_at in_name most after) (letters_at in_name most2 other) (letters_within in_name most after)
letters_alike in_name zero most2 (c ∷ front) after other fits fits2 = absurd (omega arith)
letters_alike in_name (suc most) zero (c ∷ front) after other fits fits2 = absurd (omega arith)
letters_alike in_name (suc most) (suc most2) (c ∷ front) after other fits fits2 =
    cond_alike read after other (c == 34) _ _ _ _ (ok_alike [] front after other)
    (cond_alike read after other (c == 92) _ _ _ _
    (bind_alike read read (length (front ++ after)) after other (escape_at in_name (front ++ after)) (escape_at in_name (front ++ other)) _ _ (escape_within in_name (front ++ after)) (front_alike read (escape_at in_name) (escape_local in_name) front after other)
    (λ x close. bind_within read read (length after) (letters_at in_name most x.1) _ (within_more read (length x.1) (length after) (letters_at in_name most x.1) close (letters_within in_name most x.1)) (λ others fewer. fewer))
    (λ x d m small. more_alike (encode_utf8 x.0) after other _ _ (letters_alike in_name most most2 (d ∷ m) after other (omega arith) (omega (arith, length-append (d ∷ m) after, length-append (d ∷ m) other, length-append front after, length-append front other)))))
    (cond_alike read after other (is_plain c) _ _ _ _
    (more_alike (c ∷ []) after other _ _ (letters_alike in_name most most2 front after other (omega arith) (omega arith)))
    (refused read after other Unexpected (c ∷ (front ++ after)) (c ∷ (front ++ other)))))

abbrev pub string_after : Bool → List ℕ → Read (List ℕ)
string_after in_name text = letters_at in_name (length text) text

pub letters_local : (in_name : Bool) → Local read (string_after in_name)
letters_local in_name = record {
  within = λ text. letters_within in_name (length text) text;
  alike = λ c front after other. letters_alike in_name (length (c ∷ (front ++ after))) (length (c ∷ (front ++ other))) (c ∷ front) after other (omega arith) (omega arith);
}

-- ---- names

name_within : (text : List ℕ) → Within read (length text) (name_at text)
unfolding name_at
name_within [] = λ _. omega arith
name_within (c ∷ rest) =
    cond_within read (suc (length rest)) (c == 34) _ _ (within_more read (length rest) (suc (length rest)) (string_after true rest) (omega arith) (letters_within true (length rest) rest))
    (cond_within read (suc (length rest)) (is_name_start c) _ _ (drop_within (prefix_len is_name_byte (c ∷ rest)) (c ∷ rest)) (λ _. omega arith))

pub name_local : Local read name_at
unfolding name_at
name_local = record {
  within = name_within;
  alike = λ c front after other.
      cond_alike read after other (c == 34) _ _ _ _ (front_alike read (string_after true) (letters_local true) front after other)
      (cond_alike read after other (is_name_start c) _ _ _ _ (run_alike is_name_byte (c ∷ front) after other) (refused read after other Unexpected (c ∷ (front ++ after)) (c ∷ (front ++ other))));
}

-- ---- scalars

string_local : Local read string_at
unfolding string_at
string_local = bind_local mark read (mark_at 34) (λ rest. string_after false rest >>= λ string. Ok (tree.text string.0, string.1)) (mark_local 34) (λ _. map_local (string_after false) tree.text (letters_local false))

-- a value with its closing mark
closed_local : (value : Tree) → Local read (λ rest. closing_at 41 rest >>= λ end. Ok (value, end))
closed_local value = bind_local mark read (closing_at 41) (λ end. Ok (value, end)) (closing_local 41) (λ _. ok_local value)

date_local : Local read date_at
unfolding date_at
date_local =
    bind_local mark read (opened_at (codes "Date")) _ (opened_local (codes "Date")) (λ _.
    bind_local read read long_at _ long_local (λ milliseconds. closed_local (date milliseconds.0)))

id_local : Local read id_at
unfolding id_at
id_local =
    bind_local mark read (opened_at (codes "Id")) _ (opened_local (codes "Id")) (λ _.
    bind_local mark read (mark_at 34) _ (mark_local 34) (λ _.
    bind_local read read id_hex_at _ id_hex_local (λ content. closed_local (object_id content.0))))

first_local : (word : List ℕ) (most : ℕ) → Local read (first_at word most)
unfolding first_at
first_local word most =
    bind_local mark read (opened_at word) _ (opened_local word) (λ _.
    bind_local read read (natural_at most) _ (natural_local most) (λ number.
    bind_local mark read (spaced_at 44) (λ rest. Ok (number.0, rest)) (spaced_local 44) (λ _. ok_local number.0)))

binary_local : Local read binary_at
unfolding binary_at
binary_local =
    bind_local read read (first_at (codes "Bin") 255) _ (first_local (codes "Bin") 255) (λ subtype.
    bind_local mark read (mark_at 34) _ (mark_local 34) (λ _.
    bind_local read read binary_hex_at _ binary_hex_local (λ content. closed_local (binary subtype.0 content.0))))

time_local : Local read time_at
unfolding time_at
time_local =
    bind_local read read (first_at (codes "Time") 4294967295) _ (first_local (codes "Time") 4294967295) (λ seconds.
    bind_local read read (natural_at 4294967295) _ (natural_local 4294967295) (λ increment. closed_local (timestamp (seconds.0 * 2 ^ 32 + increment.0))))

constant_local : (word : List ℕ) (value : Tree) → Local read (constant_at word value)
unfolding constant_at
constant_local word value = bind_local mark read (word_at word) (λ rest. Ok (value, rest)) (word_local word) (λ _. ok_local value)

scalar_within : (text : List ℕ) → Within read (length text) (scalar_at text)
unfolding scalar_at
scalar_within [] = λ _. omega arith
scalar_within (c ∷ rest) =
    cond_within read (suc (length rest)) (c == 34) _ _ (string_local.within (c ∷ rest))
    (cond_within read (suc (length rest)) (c == 110) _ _ ((constant_local (codes "null") null).within (c ∷ rest))
    (cond_within read (suc (length rest)) (c == 116) _ _ ((constant_local (codes "true") (boolean true)).within (c ∷ rest))
    (cond_within read (suc (length rest)) (c == 102) _ _ ((constant_local (codes "false") (boolean false)).within (c ∷ rest))
    (cond_within read (suc (length rest)) (c == 68) _ _ (date_local.within (c ∷ rest))
    (cond_within read (suc (length rest)) (c == 66) _ _ (binary_local.within (c ∷ rest))
    (cond_within read (suc (length rest)) (c == 73) _ _ (id_local.within (c ∷ rest))
    (cond_within read (suc (length rest)) (c == 84) _ _ (time_local.within (c ∷ rest)) (number_local.within (c ∷ rest)))))))))

pub scalar_local : Local read scalar_at
unfolding scalar_at
scalar_local = record {
  within = scalar_within;
  alike = λ c front after other.
      cond_alike read after other (c == 34) _ _ _ _ (string_local.alike c front after other)
      (cond_alike read after other (c == 110) _ _ _ _ ((constant_local (codes "null") null).alike c front after other)
      (cond_alike read after other (c == 116) _ _ _ _ ((constant_local (codes "true") (boolean true)).alike c front after other)
      (cond_alike read after other (c == 102) _ _ _ _ ((constant_local (codes "false") (boolean false)).alike c front after other)
      (cond_alike read after other (c == 68) _ _ _ _ (date_local.alike c front after other)
      (cond_alike read after other (c == 66) _ _ _ _ (binary_local.alike c front after other)
      (cond_alike read after other (c == 73) _ _ _ _ (id_local.alike c front after other)
      (cond_alike read after other (c == 84) _ _ _ _ (time_local.alike c front after other) (number_local.alike c front after other))))))));
}
