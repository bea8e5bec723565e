-- A value and a field are read from their first byte on.
use Rattle.std.proofs.Common.{◌≡◌, ℕ, zero, suc, true, false, List, [], ◌∷◌, ◌++◌, None, Ok, refl, ap, ◌∙◌, append_assoc, arith, inl, inr}
use Rattle.std.specs.Prelude.{codes}
use Rattle.std.specs.List.{prefix_len}
use Rattle.std.proofs.lemmas.Bool.{cases_eq}
use Rattle.bson_doc.specs.Tree.{Tree, null, boolean, Fields, found, with_field}
use Rattle.doc_text.specs.Bytes.{is_name_byte}
use Rattle.doc_text.specs.Integers.{digits_at, integer_at, number_at}
use Rattle.doc_text.specs.Marks.{begins_with}
use Rattle.doc_text.specs.Names.{name_at}
use Rattle.doc_text.specs.Scalars.{scalar_at}
use Rattle.doc_text.specs.Values.{key_at, field_at, value_at}
use Rattle.doc_text.specs.Spelling.{SpellsField, Spells, EndsThere}
use Rattle.doc_text.proofs.SpelledMarks.{NoSpace, no_space, spaced_over, spaced_stops, goes_on, goes_no_further}
use Rattle.doc_text.proofs.SpelledScalars.{constant_read}
use Rattle.doc_text.proofs.SpelledStrings.{name_over}

-- what spells a value is read as that value
abbrev pub Reads : ℕ → Tree → Type 0
Reads most value = (s rest : List ℕ) → Spells value s → EndsThere value rest → value_at most (s ++ rest) ≡ Ok (value, rest)

-- ---- the first byte of what is read

brace_is_no_scalar : (rest : List ℕ) (x : Tree × List ℕ) → scalar_at (123 ∷ rest) ≡ Ok x → ⊥
unfolding scalar_at number_at integer_at digits_at
brace_is_no_scalar rest x read = cc read

bracket_is_no_scalar : (rest : List ℕ) (x : Tree × List ℕ) → scalar_at (91 ∷ rest) ≡ Ok x → ⊥
unfolding scalar_at number_at integer_at digits_at
bracket_is_no_scalar rest x read = cc read

scalar_no_bracket : (text : List ℕ) (x : Tree × List ℕ) → scalar_at text ≡ Ok x → (begins_with 123 text ≡ false) × (begins_with 91 text ≡ false)
scalar_no_bracket [] x read = (refl, refl)
scalar_no_bracket (c ∷ rest) x read = (
  elim (cases_eq c 123) [
    | inl brace ↦ absurd (brace_is_no_scalar rest x (rw brace at read))
    | inr other ↦ grind arith
  ],
  elim (cases_eq c 91) [
    | inl bracket ↦ absurd (bracket_is_no_scalar rest x (rw bracket at read))
    | inr other ↦ grind arith
  ],
)

pub value_scalar : (most : ℕ) (input : List ℕ) (x : Tree × List ℕ) → scalar_at input ≡ Ok x → value_at most input ≡ Ok x
unfolding value_at
value_scalar zero input x read =
    let parts = scalar_no_bracket input x read in
    rw (parts.0, parts.1) read
value_scalar (suc most) input x read =
    let parts = scalar_no_bracket input x read in
    rw (parts.0, parts.1) read

blank_is_no_value : (most : ℕ) (rest : List ℕ) (x : Tree × List ℕ) → value_at most (32 ∷ rest) ≡ Ok x → ⊥
unfolding value_at scalar_at number_at integer_at digits_at
blank_is_no_value zero rest x read = cc read
blank_is_no_value (suc most) rest x read = cc read

pub value_no_space : (most : ℕ) (text : List ℕ) (x : Tree × List ℕ) → value_at most text ≡ Ok x → NoSpace text
value_no_space most [] x read = refl
value_no_space most (c ∷ rest) x read =
    elim (cases_eq c 32) [
      | inl blank ↦ absurd (blank_is_no_value most rest x (rw blank at read))
      | inr other ↦ no_space c rest (grind arith)
    ]

name_no_space : (text : List ℕ) (x : List ℕ × List ℕ) → name_at text ≡ Ok x → NoSpace text
unfolding name_at
name_no_space [] x read = refl
name_no_space (c ∷ rest) x read =
    elim (cases_eq c 32) [
      | inl blank ↦ absurd (cc (rw blank at read))
      | inr other ↦ no_space c rest (grind arith)
    ]

-- ---- one field

field_named : (name : List ℕ) (P : List ℕ → Type 0) (one rest : List ℕ) → (spelled : SpellsField name P one) → name_at (one ++ rest) ≡ Ok (name, spelled.1 ++ (spelled.2 ++ rest))
field_named name P one rest spelled =
    let regroup : one ++ rest ≡ spelled.0 ++ (spelled.1 ++ (spelled.2 ++ rest)) = ap (λ (x : List ℕ). x ++ rest) spelled.6 ∙ simp append_assoc in
    rw regroup (name_over name spelled.0 (spelled.1 ++ (spelled.2 ++ rest)) spelled.3 (spaced_stops is_name_byte 58 spelled.1 (spelled.2 ++ rest) refl refl spelled.4))

pub field_no_space : (name : List ℕ) (P : List ℕ → Type 0) (one rest : List ℕ) → SpellsField name P one → NoSpace (one ++ rest)
field_no_space name P one rest spelled = name_no_space (one ++ rest) (name, spelled.1 ++ (spelled.2 ++ rest)) (field_named name P one rest spelled)

pub field_over : (most : ℕ) (so_far : Fields) (name : List ℕ) (value : Tree) (one rest : List ℕ) → found name so_far ≡ None → SpellsField name (Spells value) one → Reads most value → prefix_len goes_on rest ≡ 0
    → field_at (value_at most) so_far (one ++ rest) ≡ Ok (with_field so_far name value, rest)
unfolding field_at key_at
field_over most so_far name value one rest new spelled reads stop =
    let valued = reads spelled.2 rest spelled.5 (goes_no_further value rest stop) in
    let coloned = spaced_over 58 spelled.1 (spelled.2 ++ rest) refl spelled.4 (value_no_space most (spelled.2 ++ rest) (value, rest) valued) in
    rw (field_named name (Spells value) one rest spelled, new, coloned, valued) refl

-- a name and a value don't begin with a closing mark
pub name_no_brace : (text : List ℕ) (x : List ℕ × List ℕ) → name_at text ≡ Ok x → begins_with 125 text ≡ false
unfolding name_at
name_no_brace [] x read = refl
name_no_brace (c ∷ rest) x read =
    elim (cases_eq c 125) [
      | inl brace ↦ absurd (cc (rw brace at read))
      | inr other ↦ grind arith
    ]

closing_is_no_value : (most : ℕ) (rest : List ℕ) (x : Tree × List ℕ) → value_at most (93 ∷ rest) ≡ Ok x → ⊥
unfolding value_at scalar_at number_at integer_at digits_at
closing_is_no_value zero rest x read = cc read
closing_is_no_value (suc most) rest x read = cc read

pub value_no_bracket : (most : ℕ) (text : List ℕ) (x : Tree × List ℕ) → value_at most text ≡ Ok x → begins_with 93 text ≡ false
value_no_bracket most [] x read = refl
value_no_bracket most (c ∷ rest) x read =
    elim (cases_eq c 93) [
      | inl bracket ↦ absurd (closing_is_no_value most rest x (rw bracket at read))
      | inr other ↦ grind arith
    ]

pub field_name : (name : List ℕ) (P : List ℕ → Type 0) (one rest : List ℕ) → SpellsField name P one → (after : List ℕ) × (name_at (one ++ rest) ≡ Ok (name, after))
field_name name P one rest spelled = (spelled.1 ++ (spelled.2 ++ rest), field_named name P one rest spelled)

pub constant_null : (rest : List ℕ) → scalar_at (codes "null" ++ rest) ≡ Ok (null, rest)
unfolding scalar_at
constant_null rest = constant_read (codes "null") null rest

pub constant_true : (rest : List ℕ) → scalar_at (codes "true" ++ rest) ≡ Ok (boolean true, rest)
unfolding scalar_at
constant_true rest = constant_read (codes "true") (boolean true) rest

pub constant_false : (rest : List ℕ) → scalar_at (codes "false" ++ rest) ≡ Ok (boolean false, rest)
unfolding scalar_at
constant_false rest = constant_read (codes "false") (boolean false) rest
