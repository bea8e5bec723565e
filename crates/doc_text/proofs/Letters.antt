-- A string is read run by run, escape by escape.
use Rattle.std.proofs.Common.{◌≡◌, ◌≢◌, ℕ, zero, suc, ◌+◌, ◌-◌, ◌<◌, ◌≤◌, Bool, true, false, cond, List, [], ◌∷◌, ◌++◌, ◌==◌, length, take, drop, get_or, Ok, Err, refl, sym, ap, ◌∙◌, append_assoc, arith}
use Rattle.std.specs.Prelude.{encode_utf8}
use Rattle.std.specs.List.{prefix_len}
use Rattle.std.proofs.lemmas.List.{append-nil, length-drop, get_or-drop}
use Rattle.std.proofs.lemmas.List.Sums.{prefix_len_stops}
use Rattle.bson_doc.specs.Bind.{◌>>=◌}
use Rattle.doc_text.specs.declared.fault.Rule.TheVariants.{Unexpected}
use Rattle.doc_text.specs.declared.fault.ReadError.{ReadError}
use Rattle.doc_text.specs.declared.fault.ReadError.TheVariants as stops
use Rattle.doc_text.specs.Bytes.{is_plain}
use Rattle.doc_text.specs.Fault.{Read, fault_at, Fails}
use Rattle.doc_text.specs.Strings.{escape_at, letters_at}

-- what was read before, and what is still read
abbrev pub with_front : List ℕ → Read (List ℕ) → Read (List ℕ)
with_front front read = read >>= λ x. Ok (front ++ x.0, x.1)

pub with_front-nil : (read : Read (List ℕ)) → with_front [] read ≡ read
with_front-nil (Ok x) = refl
with_front-nil (Err e) = refl

pub with_front-append : (xs ys : List ℕ) (read : Read (List ℕ)) → with_front (xs ++ ys) read ≡ with_front xs (with_front ys read)
with_front-append xs ys (Ok x) = ap (λ (bytes : List ℕ). Ok (bytes, x.1)) (append_assoc xs ys x.0)
with_front-append xs ys (Err e) = refl

with_front-cons : (c : ℕ) (front : List ℕ) (read : Read (List ℕ)) → (with_front front read >>= λ others. Ok (c ∷ others.0, others.1)) ≡ with_front (c ∷ front) read
with_front-cons c front (Ok x) = refl
with_front-cons c front (Err e) = refl

-- the third of four branches
third : {A : Type 0} (a b c : Bool) (x y z w : A) → a ≡ false → b ≡ false → c ≡ true → cond a x (cond b y (cond c z w)) ≡ z
third false false true x y z w p q r = refl
third false false false x y z w p q r = absurd cc
third false true c x y z w p q r = absurd cc
third true b c x y z w p q r = absurd cc

-- a plain byte stands for itself
pub letters_at-plain : (in_name : Bool) (most c : ℕ) (rest : List ℕ) → is_plain c ≡ true → letters_at in_name (suc most) (c ∷ rest) ≡ (letters_at in_name most rest >>= λ others. Ok (c ∷ others.0, others.1))
unfolding letters_at
letters_at-plain in_name most c rest plain =
    let no_mark : (c == 34) ≡ false = grind arith in
    let no_backslash : (c == 92) ≡ false = grind arith in
    third (c == 34) (c == 92) (is_plain c) _ _ _ _ no_mark no_backslash plain

run_step : (in_name : Bool) (b : Bool) (most c n : ℕ) (rest : List ℕ) → is_plain c ≡ b
    → letters_at in_name most rest ≡ with_front (take n rest) (letters_at in_name (most - n) (drop n rest))
    → letters_at in_name (suc most) (c ∷ rest) ≡ with_front (take (cond b (1 + n) 0) (c ∷ rest)) (letters_at in_name (suc most - cond b (1 + n) 0) (drop (cond b (1 + n) 0) (c ∷ rest)))
run_step in_name true most c n rest plain later =
    let one : 1 + n ≡ suc n = omega arith in
    let left : suc most - suc n ≡ most - n = omega arith in
    rw (one, left, letters_at-plain in_name most c rest plain, later) (with_front-cons c (take n rest) (letters_at in_name (most - n) (drop n rest)))
run_step in_name false most c n rest plain later =
    let same : suc most - 0 ≡ suc most = omega arith in
    rw same (sym (with_front-nil (letters_at in_name (suc most) (c ∷ rest))))

-- a run of plain bytes stands for itself
pub letters_at-run : (in_name : Bool) (most : ℕ) (text : List ℕ) → length text ≤ most
    → letters_at in_name most text ≡ with_front (take (prefix_len is_plain text) text) (letters_at in_name (most - prefix_len is_plain text) (drop (prefix_len is_plain text) text))
letters_at-run in_name most [] within =
    let same : most - 0 ≡ most = omega arith in
    rw same (sym (with_front-nil (letters_at in_name most [])))
letters_at-run in_name zero (c ∷ rest) within = absurd (omega arith)
letters_at-run in_name (suc most) (c ∷ rest) within =
    run_step in_name (is_plain c) most c (prefix_len is_plain rest) rest refl (letters_at-run in_name most rest (omega arith))

-- the closing quotation mark
pub letters_at-mark : (in_name : Bool) (most : ℕ) (rest : List ℕ) → letters_at in_name (suc most) (34 ∷ rest) ≡ Ok ([], rest)
unfolding letters_at
letters_at-mark in_name most rest = refl

-- an escape
pub letters_at-escape : (in_name : Bool) (most : ℕ) (rest : List ℕ) → letters_at in_name (suc most) (92 ∷ rest) ≡ (escape_at in_name rest >>= λ character. with_front (encode_utf8 character.0) (letters_at in_name most character.1))
unfolding letters_at
letters_at-escape in_name most rest = refl

-- nothing else goes on
letters_at-other : (in_name : Bool) (most c : ℕ) (rest : List ℕ) → is_plain c ≡ false → c ≢ 34 → c ≢ 92 → letters_at in_name (suc most) (c ∷ rest) ≡ Err (fault_at Unexpected (c ∷ rest))
unfolding letters_at
letters_at-other in_name most c rest special no_mark no_backslash = grind arith

letters_at-end : (in_name : Bool) (most : ℕ) → letters_at in_name most [] ≡ Err (fault_at Unexpected [])
unfolding letters_at
letters_at-end in_name zero = refl
letters_at-end in_name (suc most) = refl

-- ---- one turn of a reader, which takes a run and then what follows it

-- what is still read after the run
pub past_run : (in_name : Bool) (most : ℕ) (front text run stop : List ℕ) (total : Read (List ℕ)) → length text ≤ most
    → run ≡ take (prefix_len is_plain text) text → stop ≡ drop (prefix_len is_plain text) text
    → with_front front (letters_at in_name most text) ≡ total
    → with_front (front ++ run) (letters_at in_name (most - prefix_len is_plain text) stop) ≡ total
past_run in_name most front text run stop total within run-is stop-is so_far =
    with_front-append front run (letters_at in_name (most - prefix_len is_plain text) stop)
    ∙ rw (run-is, stop-is) (ap (with_front front) (sym (letters_at-run in_name most text within)) ∙ so_far)

-- the string ends
pub closed : (in_name : Bool) (most : ℕ) (front stop rest : List ℕ) (total : Read (List ℕ)) → length stop ≤ most → stop ≡ 34 ∷ rest
    → with_front front (letters_at in_name most stop) ≡ total → total ≡ Ok (front, rest)
closed in_name zero front stop rest total within is so_far = absurd (omega (arith, ap length is))
closed in_name (suc most) front stop rest total within is so_far =
    sym so_far ∙ rw (is, letters_at-mark in_name most rest) (ap (λ (bytes : List ℕ). Ok (bytes, rest)) (append-nil front))

-- the string goes on after an escape
pub escaped : (in_name : Bool) (most code : ℕ) (front stop inside rest : List ℕ) (total : Read (List ℕ)) → length stop ≤ most → stop ≡ 92 ∷ inside
    → escape_at in_name inside ≡ Ok (code, rest) → with_front front (letters_at in_name most stop) ≡ total
    → with_front (front ++ encode_utf8 code) (letters_at in_name (most - 1) rest) ≡ total
escaped in_name zero code front stop inside rest total within is read so_far = absurd (omega (arith, ap length is))
escaped in_name (suc most) code front stop inside rest total within is read so_far =
    let left : suc most - 1 ≡ most = omega arith in
    let same : letters_at in_name (suc most) stop ≡ with_front (encode_utf8 code) (letters_at in_name most rest) = rw (is, letters_at-escape in_name most inside, read) refl in
    rw left (with_front-append front (encode_utf8 code) (letters_at in_name most rest) ∙ ap (with_front front) (sym same) ∙ so_far)

-- an escape is refused
pub not_escaped : (in_name : Bool) (most : ℕ) (front stop inside : List ℕ) (error : ReadError) (total : Read (List ℕ)) → length stop ≤ most → stop ≡ 92 ∷ inside
    → Fails error (escape_at in_name inside) → with_front front (letters_at in_name most stop) ≡ total
    → Fails error total
not_escaped in_name most front stop inside stops.Memory total within is refused so_far = tt
not_escaped in_name zero front stop inside (stops.Fault fault) total within is refused so_far = absurd (omega (arith, ap length is))
not_escaped in_name (suc most) front stop inside (stops.Fault fault) total within is refused so_far =
    sym so_far ∙ rw (is, letters_at-escape in_name most inside, refused) refl

-- nothing goes on
pub stuck : (in_name : Bool) (most : ℕ) (front stop : List ℕ) (total : Read (List ℕ)) → length stop ≤ most
    → (0 < length stop → is_plain (get_or stop 0 0) ≡ false) → ((rest : List ℕ) → stop ≢ 34 ∷ rest) → ((rest : List ℕ) → stop ≢ 92 ∷ rest)
    → with_front front (letters_at in_name most stop) ≡ total → total ≡ Err (fault_at Unexpected stop)
stuck in_name most front [] total within special no_mark no_backslash so_far = sym so_far ∙ rw (letters_at-end in_name most) refl
stuck in_name zero front (c ∷ rest) total within special no_mark no_backslash so_far = absurd (omega arith)
stuck in_name (suc most) front (c ∷ rest) total within special no_mark no_backslash so_far =
    let mark : c ≢ 34 = λ e. no_mark rest (ap (λ (x : ℕ). x ∷ rest) e) in
    let backslash : c ≢ 92 = λ e. no_backslash rest (ap (λ (x : ℕ). x ∷ rest) e) in
    sym so_far ∙ rw (letters_at-other in_name most c rest (special (omega arith)) mark backslash) refl

-- a run stops before a byte that isn't plain
pub stop_is_special : (text stop : List ℕ) → stop ≡ drop (prefix_len is_plain text) text → 0 < length stop → is_plain (get_or stop 0 0) ≡ false
stop_is_special text stop is some =
    let inside : prefix_len is_plain text < length text = omega (arith, length-drop (prefix_len is_plain text) text, ap length is) in
    let same : get_or stop 0 0 ≡ get_or text (prefix_len is_plain text) 0 = rw is (get_or-drop {A = ℕ} (prefix_len is_plain text) text 0 0 ∙ ap (λ (i : ℕ). get_or text i 0) (omega arith)) in
    rw same (prefix_len_stops is_plain text 0 inside)
