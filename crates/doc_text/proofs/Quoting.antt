-- A string is printed run by run, escape by escape.
use Rattle.std.proofs.Common.{◌≡◌, ◌≢◌, ℕ, suc, ◌+◌, ◌<◌, Bool, true, false, cond, List, [], ◌∷◌, ◌++◌, ◌==◌, ◌&&◌, length, take, drop, get_or, refl, sym, ap, ◌∙◌, append_assoc, arith}
use Rattle.std.specs.List.{flat_map, prefix_len, list_all}
use Rattle.std.specs.Prelude.{codes}
use Rattle.std.proofs.lemmas.List.{append-nil}
use Rattle.hex.specs.Hex.{encode_lower}
use Rattle.doc_text.specs.Bytes.{is_plain, is_name_byte, is_name_start}
use Rattle.doc_text.specs.Printing.{printed_byte, is_bare}

-- a branch of seven
sixth : {A : Type 0} (a b c d e f : Bool) (t u v w x y z : A) → a ≡ false → b ≡ false → c ≡ false → d ≡ false → e ≡ false → f ≡ true
    → cond a t (cond b u (cond c v (cond d w (cond e x (cond f y z))))) ≡ y
sixth false false false false false true t u v w x y z p q r s o h = refl
sixth false false false false false false t u v w x y z p q r s o h = absurd cc
sixth false false false false true f t u v w x y z p q r s o h = absurd cc
sixth false false false true e f t u v w x y z p q r s o h = absurd cc
sixth false false true d e f t u v w x y z p q r s o h = absurd cc
sixth false true c d e f t u v w x y z p q r s o h = absurd cc
sixth true b c d e f t u v w x y z p q r s o h = absurd cc

seventh : {A : Type 0} (a b c d e f : Bool) (t u v w x y z : A) → a ≡ false → b ≡ false → c ≡ false → d ≡ false → e ≡ false → f ≡ false
    → cond a t (cond b u (cond c v (cond d w (cond e x (cond f y z))))) ≡ z
seventh false false false false false false t u v w x y z p q r s o h = refl
seventh false false false false false true t u v w x y z p q r s o h = absurd cc
seventh false false false false true f t u v w x y z p q r s o h = absurd cc
seventh false false false true e f t u v w x y z p q r s o h = absurd cc
seventh false false true d e f t u v w x y z p q r s o h = absurd cc
seventh false true c d e f t u v w x y z p q r s o h = absurd cc
seventh true b c d e f t u v w x y z p q r s o h = absurd cc

pub plain_printed : (c : ℕ) → is_plain c ≡ true → printed_byte c ≡ c ∷ []
plain_printed c plain =
    let not34 : (c == 34) ≡ false = grind arith in
    let not92 : (c == 92) ≡ false = grind arith in
    let not10 : (c == 10) ≡ false = grind arith in
    let not13 : (c == 13) ≡ false = grind arith in
    let not9 : (c == 9) ≡ false = grind arith in
    sixth (c == 34) (c == 92) (c == 10) (c == 13) (c == 9) (is_plain c) _ _ _ _ _ _ _ not34 not92 not10 not13 not9 plain

pub code_printed : (c : ℕ) → is_plain c ≡ false → c ≢ 34 → c ≢ 92 → c ≢ 10 → c ≢ 13 → c ≢ 9 → printed_byte c ≡ codes "\\u00" ++ encode_lower (c ∷ [])
code_printed c special p q r s t =
    let not34 : (c == 34) ≡ false = grind arith in
    let not92 : (c == 92) ≡ false = grind arith in
    let not10 : (c == 10) ≡ false = grind arith in
    let not13 : (c == 13) ≡ false = grind arith in
    let not9 : (c == 9) ≡ false = grind arith in
    seventh (c == 34) (c == 92) (c == 10) (c == 13) (c == 9) (is_plain c) _ _ _ _ _ _ _ not34 not92 not10 not13 not9 special

run_step : (b : Bool) (c n : ℕ) (rest : List ℕ) → is_plain c ≡ b → flat_map printed_byte rest ≡ take n rest ++ flat_map printed_byte (drop n rest)
    → printed_byte c ++ flat_map printed_byte rest ≡ take (cond b (1 + n) 0) (c ∷ rest) ++ flat_map printed_byte (drop (cond b (1 + n) 0) (c ∷ rest))
run_step true c n rest plain later =
    let one : 1 + n ≡ suc n = omega arith in
    rw (one, plain_printed c plain, later) refl
run_step false c n rest plain later = refl

-- a run of plain bytes is printed as it is
pub run_printed : (text : List ℕ) → flat_map printed_byte text ≡ take (prefix_len is_plain text) text ++ flat_map printed_byte (drop (prefix_len is_plain text) text)
run_printed [] = refl
run_printed (c ∷ rest) = run_step (is_plain c) c (prefix_len is_plain rest) rest refl (run_printed rest)

-- what is still to be printed after a run, and after an escape
pub first_printed : (stop : List ℕ) → 0 < length stop → flat_map printed_byte stop ≡ printed_byte (get_or stop 0 0) ++ flat_map printed_byte (drop 1 stop)
first_printed [] some = absurd (omega arith)
first_printed (c ∷ rest) some = refl

-- a name is bare where no byte stops its run
bare_step : (b : Bool) (c n : ℕ) (rest : List ℕ) (more : Bool) → is_name_byte c ≡ b → (length (drop n rest) == 0) ≡ more → (length (drop (cond b (1 + n) 0) (c ∷ rest)) == 0) ≡ (b && more)
bare_step true c n rest more inside later =
    let one : 1 + n ≡ suc n = omega arith in
    rw one later
bare_step false c n rest more inside later = grind arith

pub run_whole : (name : List ℕ) → (length (drop (prefix_len is_name_byte name) name) == 0) ≡ list_all is_name_byte name
run_whole [] = refl
run_whole (c ∷ rest) = bare_step (is_name_byte c) c (prefix_len is_name_byte rest) rest (list_all is_name_byte rest) refl (run_whole rest)

pub bare_name : (name rest : List ℕ) (r : Bool) → 0 < length name → is_name_start (get_or name 0 0) ≡ true → rest ≡ drop (prefix_len is_name_byte name) name → r ≡ (length rest == 0) → r ≡ is_bare name
bare_name [] rest r some start after is = absurd (omega arith)
bare_name (c ∷ later) rest r some start after is =
    let inside : is_name_byte c ≡ true = grind arith in
    is ∙ rw (after, run_whole (c ∷ later), inside, start) refl

-- ---- one turn of a writer

pub after_run : (front text run stop whole : List ℕ) → run ≡ take (prefix_len is_plain text) text → stop ≡ drop (prefix_len is_plain text) text
    → front ++ flat_map printed_byte text ≡ whole → (front ++ run) ++ flat_map printed_byte stop ≡ whole
after_run front text run stop whole run-is stop-is so_far =
    append_assoc front run (flat_map printed_byte stop) ∙ ap (λ (x : List ℕ). front ++ x) (rw (run-is, stop-is) (sym (run_printed text))) ∙ so_far

pub after_escape : (front stop whole : List ℕ) → 0 < length stop → front ++ flat_map printed_byte stop ≡ whole
    → (front ++ printed_byte (get_or stop 0 0)) ++ flat_map printed_byte (drop 1 stop) ≡ whole
after_escape front stop whole some so_far =
    append_assoc front (printed_byte (get_or stop 0 0)) (flat_map printed_byte (drop 1 stop)) ∙ ap (λ (x : List ℕ). front ++ x) (sym (first_printed stop some)) ∙ so_far

pub at_end : (front stop old body : List ℕ) → length stop ≡ 0 → front ++ flat_map printed_byte stop ≡ old ++ 34 ∷ body → front ++ 34 ∷ [] ≡ old ++ (34 ∷ (body ++ 34 ∷ []))
at_end front [] old body none so_far =
    ap (λ (x : List ℕ). x ++ 34 ∷ []) (sym (append-nil front) ∙ so_far) ∙ append_assoc old (34 ∷ body) (34 ∷ [])
at_end front (c ∷ rest) old body none so_far = absurd (omega arith)
