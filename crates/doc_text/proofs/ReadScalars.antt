-- The text read is a spelling of the result: values that hold no others.
use Rattle.std.proofs.Common.{◌≡◌, ℕ, ◌^◌, ◌≤◌, true, false, List, [], ◌∷◌, ◌++◌, ◌==◌, length, refl, sym, ap, ◌∙◌, append_assoc, arith}
use Rattle.std.specs.Prelude.{codes}
use Rattle.bson_doc.specs.Length.{value_levels}
use Rattle.bson_doc.specs.Tree.{Tree, null, boolean}
use Rattle.doc_text.specs.Marks.{mark_at, spaced_at, closing_at, word_at, opened_at}
use Rattle.doc_text.specs.Integers.{fits, natural_at, long_at}
use Rattle.doc_text.specs.Strings.{letters_at}
use Rattle.doc_text.specs.HexText.{binary_hex_at, id_hex_at}
use Rattle.doc_text.specs.Scalars.{string_at, date_at, first_at, binary_at, id_at, time_at, constant_at, scalar_at}
use Rattle.doc_text.specs.Spelling.{IsSpaced, IsClosing, SpellsString, SpellsInteger, SpellsNatural, Spells, EndsThere}
use Rattle.doc_text.proofs.ReadIsSpelled.{After, Opening, StandsAs, HexRead, opened_gets, mark_gets, spaced_gets, closing_gets, word_gets, natural_gets, long_gets, number_gets, binary_hex_gets, id_hex_gets}
use Rattle.doc_text.proofs.ReadStrings.{LettersRead, letters_gets}
use Rattle.bson_doc.proofs.BindLemmas.{Gets, bind_gets, cond_gets}

string_gets : (most : ℕ) (input : List ℕ) → Gets (string_at input) (StandsAs most input)
unfolding string_at
string_gets most input =
    bind_gets (mark_at 34 input) _ (λ rest. input ≡ 34 ∷ rest) (StandsAs most input) (mark_gets 34 input) (λ rest opened.
    bind_gets (letters_at false (length rest) rest) _ (LettersRead false rest) (StandsAs most input) (letters_gets false (length rest) rest) (λ string got.
    let spelled : SpellsString false string.0 (34 ∷ got.1) = record { letters = got.0; tail = got.1; spelled = got.2; whole = refl } in
    (34 ∷ got.1, spelled, opened ∙ ap (λ (x : List ℕ). 34 ∷ x) got.3, tt, omega arith)))

constant_gets : (most : ℕ) (word : List ℕ) (value : Tree) (input : List ℕ) → Spells value word → ((rest : List ℕ) → EndsThere value rest) → value_levels value ≤ most → Gets (constant_at word value input) (StandsAs most input)
unfolding constant_at
constant_gets most word value input spelled whole shallow =
    bind_gets (word_at word input) _ (λ rest. input ≡ word ++ rest) (StandsAs most input) (word_gets word input) (λ rest got. (word, spelled, got, whole rest, shallow))

date_gets : (most : ℕ) (input : List ℕ) → Gets (date_at input) (StandsAs most input)
unfolding date_at
date_gets most input =
    bind_gets (opened_at (codes "Date") input) _ (Opening (codes "Date") input) (StandsAs most input) (opened_gets (codes "Date") input) (λ inside b.
    bind_gets (long_at inside) _ (λ x. After (λ s. SpellsInteger x.0 s × (fits (2 ^ 63) x.0 ≡ true)) inside x.1) (StandsAs most input) (long_gets inside) (λ number c.
    bind_gets (closing_at 41 number.1) _ (After (IsClosing 41) number.1) (StandsAs most input) (closing_gets 41 number.1) (λ rest d.
    let whole : input ≡ (codes "Date" ++ (b.0 ++ (c.0 ++ d.0))) ++ rest =
    b.2 ∙ ap (λ (x : List ℕ). codes "Date" ++ x) (ap (λ (x : List ℕ). b.0 ++ x) (c.2 ∙ ap (λ (x : List ℕ). c.0 ++ x) d.2)) ∙ sym (simp append_assoc) in
    (codes "Date" ++ (b.0 ++ (c.0 ++ d.0)), (b.0, c.0, d.0, b.1, c.1.0, c.1.1, d.1, refl), whole, tt, omega arith))))

id_gets : (most : ℕ) (input : List ℕ) → Gets (id_at input) (StandsAs most input)
unfolding id_at
id_gets most input =
    bind_gets (opened_at (codes "Id") input) _ (Opening (codes "Id") input) (StandsAs most input) (opened_gets (codes "Id") input) (λ inside b.
    bind_gets (mark_at 34 inside) _ (λ rest. inside ≡ 34 ∷ rest) (StandsAs most input) (mark_gets 34 inside) (λ quoted c.
    bind_gets (id_hex_at quoted) _ (λ x. HexRead quoted x × (length x.0 ≡ 12)) (StandsAs most input) (id_hex_gets quoted) (λ content d.
    bind_gets (closing_at 41 content.1) _ (After (IsClosing 41) content.1) (StandsAs most input) (closing_gets 41 content.1) (λ rest e.
    let digits = 34 ∷ d.0.0 ++ 34 ∷ [] in
    let tail : inside ≡ (34 ∷ d.0.0 ++ 34 ∷ []) ++ content.1 = c ∙ ap (λ (x : List ℕ). 34 ∷ x) (d.0.2 ∙ sym (append_assoc d.0.0 (34 ∷ []) content.1)) in
    let whole : input ≡ (codes "Id" ++ (b.0 ++ ((34 ∷ d.0.0 ++ 34 ∷ []) ++ e.0))) ++ rest =
    b.2 ∙ ap (λ (x : List ℕ). codes "Id" ++ x) (ap (λ (x : List ℕ). b.0 ++ x) (tail ∙ ap (λ (x : List ℕ). (34 ∷ d.0.0 ++ 34 ∷ []) ++ x) e.2)) ∙ sym (simp append_assoc) in
    (codes "Id" ++ (b.0 ++ (digits ++ e.0)), (b.0, digits, e.0, b.1, (d.0.0, d.0.1, refl), d.1, e.1, refl), whole, tt, omega arith)))))

-- a word, an opening parenthesis, a number and a comma
abbrev FirstRead : List ℕ → ℕ → List ℕ → ℕ × List ℕ → Type 0
FirstRead word most input x =
    (opening numeral comma : List ℕ) × IsSpaced 40 opening × SpellsNatural most x.0 numeral × IsSpaced 44 comma × (input ≡ word ++ (opening ++ (numeral ++ (comma ++ x.1))))

first_gets : (word : List ℕ) (most : ℕ) (input : List ℕ) → Gets (first_at word most input) (FirstRead word most input)
unfolding first_at
first_gets word most input =
    bind_gets (opened_at word input) _ (Opening word input) (FirstRead word most input) (opened_gets word input) (λ inside a.
    bind_gets (natural_at most inside) _ (λ x. After (SpellsNatural most x.0) inside x.1) (FirstRead word most input) (natural_gets most inside) (λ number b.
    bind_gets (spaced_at 44 number.1) _ (After (IsSpaced 44) number.1) (FirstRead word most input) (spaced_gets 44 number.1) (λ rest c.
    (a.0, b.0, c.0, a.1, b.1, c.1, a.2 ∙ ap (λ (x : List ℕ). word ++ (a.0 ++ x)) (b.2 ∙ ap (λ (x : List ℕ). b.0 ++ x) c.2)))))

binary_gets : (most : ℕ) (input : List ℕ) → Gets (binary_at input) (StandsAs most input)
unfolding binary_at
binary_gets most input =
    bind_gets (first_at (codes "Bin") 255 input) _ (FirstRead (codes "Bin") 255 input) (StandsAs most input) (first_gets (codes "Bin") 255 input) (λ subtype b.
    bind_gets (mark_at 34 subtype.1) _ (λ rest. subtype.1 ≡ 34 ∷ rest) (StandsAs most input) (mark_gets 34 subtype.1) (λ quoted c.
    bind_gets (binary_hex_at quoted) _ (HexRead quoted) (StandsAs most input) (binary_hex_gets quoted) (λ content d.
    bind_gets (closing_at 41 content.1) _ (After (IsClosing 41) content.1) (StandsAs most input) (closing_gets 41 content.1) (λ rest e.
    let digits = 34 ∷ d.0 ++ 34 ∷ [] in
    let tail : subtype.1 ≡ (34 ∷ d.0 ++ 34 ∷ []) ++ (e.0 ++ rest) = c ∙ ap (λ (x : List ℕ). 34 ∷ x) (d.2 ∙ sym (append_assoc d.0 (34 ∷ []) content.1)) ∙ ap (λ (x : List ℕ). (34 ∷ d.0 ++ 34 ∷ []) ++ x) e.2 in
    let whole : input ≡ (codes "Bin" ++ (b.0 ++ (b.1 ++ (b.2 ++ ((34 ∷ d.0 ++ 34 ∷ []) ++ e.0))))) ++ rest =
    b.6 ∙ ap (λ (x : List ℕ). codes "Bin" ++ (b.0 ++ (b.1 ++ (b.2 ++ x)))) tail ∙ sym (simp append_assoc) in
    (codes "Bin" ++ (b.0 ++ (b.1 ++ (b.2 ++ (digits ++ e.0)))), (b.0, b.1, b.2, digits, e.0, b.3, b.4, b.5, (d.0, d.1, refl), e.1, refl), whole, tt, omega arith)))))

time_gets : (most : ℕ) (input : List ℕ) → Gets (time_at input) (StandsAs most input)
unfolding time_at
time_gets most input =
    bind_gets (first_at (codes "Time") 4294967295 input) _ (FirstRead (codes "Time") 4294967295 input) (StandsAs most input) (first_gets (codes "Time") 4294967295 input) (λ seconds b.
    bind_gets (natural_at 4294967295 seconds.1) _ (λ x. After (SpellsNatural 4294967295 x.0) seconds.1 x.1) (StandsAs most input) (natural_gets 4294967295 seconds.1) (λ increment k.
    bind_gets (closing_at 41 increment.1) _ (After (IsClosing 41) increment.1) (StandsAs most input) (closing_gets 41 increment.1) (λ rest e.
    let whole : input ≡ (codes "Time" ++ (b.0 ++ (b.1 ++ (b.2 ++ (k.0 ++ e.0))))) ++ rest =
    b.6 ∙ ap (λ (x : List ℕ). codes "Time" ++ (b.0 ++ (b.1 ++ (b.2 ++ x)))) (k.2 ∙ ap (λ (x : List ℕ). k.0 ++ x) e.2) ∙ sym (simp append_assoc) in
    (codes "Time" ++ (b.0 ++ (b.1 ++ (b.2 ++ (k.0 ++ e.0)))), (seconds.0, increment.0, b.0, b.1, b.2, k.0, e.0, b.3, b.4, b.5, k.1, e.1, refl, refl), whole, tt, omega arith))))

pub scalar_gets : (most : ℕ) (input : List ℕ) → Gets (scalar_at input) (StandsAs most input)
unfolding scalar_at
scalar_gets most [] = tt
scalar_gets most (c ∷ rest) =
    cond_gets (c == 34) _ _ (StandsAs most (c ∷ rest)) (λ _. string_gets most (c ∷ rest)) (λ _.
    cond_gets (c == 110) _ _ (StandsAs most (c ∷ rest)) (λ _. constant_gets most (codes "null") null (c ∷ rest) refl (λ _. tt) (omega arith)) (λ _.
    cond_gets (c == 116) _ _ (StandsAs most (c ∷ rest)) (λ _. constant_gets most (codes "true") (boolean true) (c ∷ rest) refl (λ _. tt) (omega arith)) (λ _.
    cond_gets (c == 102) _ _ (StandsAs most (c ∷ rest)) (λ _. constant_gets most (codes "false") (boolean false) (c ∷ rest) refl (λ _. tt) (omega arith)) (λ _.
    cond_gets (c == 68) _ _ (StandsAs most (c ∷ rest)) (λ _. date_gets most (c ∷ rest)) (λ _.
    cond_gets (c == 66) _ _ (StandsAs most (c ∷ rest)) (λ _. binary_gets most (c ∷ rest)) (λ _.
    cond_gets (c == 73) _ _ (StandsAs most (c ∷ rest)) (λ _. id_gets most (c ∷ rest)) (λ _.
    cond_gets (c == 84) _ _ (StandsAs most (c ∷ rest)) (λ _. time_gets most (c ∷ rest)) (λ _.
    number_gets most (c ∷ rest)))))))))
