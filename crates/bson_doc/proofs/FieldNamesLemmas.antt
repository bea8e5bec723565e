-- A set of names with one more name.
use Rattle.std.proofs.Common.{ℕ, ◌++◌, ◌≡◌, ◌≤◌, ◌<◌, true, false, List, length, take, drop, get_or, arith, refl, ap, sym, ◌∙◌, inl, inr}
use Rattle.std.specs.Prelude.{cond, nat_le}
use Rattle.std.proofs.Math.Seq.{take-append_seam}
use Rattle.std.proofs.lemmas.Bool.{cases_Bool, leb-true, leb-false}
use Rattle.std.proofs.lemmas.Slice.Eq.{bytes_eq-Decides}
use Rattle.std.proofs.lemmas.Map.Text.{is_eq-slice_cmp, btree_set_updates_text}
use Rattle.std.specs.Str.{bytes_eq}
use Rattle.std.specs.Ordering.{nat_cmp}
use Rattle.std.specs.Cmp.Lexicographic.{slice_cmp}
use Rattle.std.specs.BTreeSet.{BTreeSet, Updates}
use Rattle.std.specs.declared.string.String.{String}
use Rattle.std.specs.declared.alloc.Global.{Global}
use Rattle.std.specs.String.{string_cmp, string_bytes}
use Rattle.std.specs.BTreeSet as sorted
use Rattle.bson_doc.specs.declared.names.FieldNames.{FieldNames}
use Rattle.bson_doc.specs.Names.{zeros, short_form, has_name}

form_tells : (a b : List ℕ) → short_form a ≡ short_form b → a ≡ b
form_tells a b same =
    let lengths : length a ≡ length b = ap (λ (l : List ℕ). get_or l 0 0) same in
    sym (take-append_seam a (drop (length a) zeros)) ∙ ap (λ (l : List ℕ). take (length a) (drop 1 l)) same
    ∙ ap (λ n. take n (b ++ drop (length b) zeros)) lengths ∙ take-append_seam b (drop (length b) zeros)

same_form : (a b : List ℕ) → bytes_eq (short_form a) (short_form b) ≡ bytes_eq a b
same_form a b = elim (cases_Bool (bytes_eq a b)) [
  | inl same ↦ (bytes_eq-Decides (short_form a) (short_form b)).1 (ap short_form ((bytes_eq-Decides a b).0 same)) ∙ sym same
  | inr apart ↦ elim (cases_Bool (bytes_eq (short_form a) (short_form b))) [
    | inl same ↦ absurd (let both = sym apart ∙ (bytes_eq-Decides a b).1 (form_tells a b ((bytes_eq-Decides (short_form a) (short_form b)).0 same)) in cc)
    | inr other ↦ other ∙ sym apart
  ]
]

lengths_apart : (a b : List ℕ) → length a < length b → (bytes_eq a b ≡ false) × (bytes_eq b a ≡ false)
lengths_apart a b less = (
  elim (cases_Bool (bytes_eq a b)) [
    | inl same ↦ absurd (let is = ap length ((bytes_eq-Decides a b).0 same) in omega arith)
    | inr apart ↦ apart
  ],
  elim (cases_Bool (bytes_eq b a)) [
    | inl same ↦ absurd (let is = ap length ((bytes_eq-Decides b a).0 same) in omega arith)
    | inr apart ↦ apart
  ],
)

pub short_inserted : (names : FieldNames) (short : BTreeSet (List ℕ)) (name : List ℕ) → length name ≤ 15
    → Updates (slice_cmp nat_cmp) names.short short (short_form name) true
    → (other : List ℕ) → has_name (record { short = short; long = names.long }) other ≡ cond (bytes_eq name other) true (has_name names other)
short_inserted names short name fits updates other = elim (cases_Bool (nat_le (length other) 15)) [
  | inl small ↦ rw small (updates.0 (short_form other)
      ∙ ap (λ b. cond b true (sorted.contains (slice_cmp nat_cmp) names.short (short_form other))) (is_eq-slice_cmp (short_form name) (short_form other) ∙ same_form name other))
  | inr large ↦ rw (large, (lengths_apart name other (let past = leb-false (length other) 15 large in omega arith)).0) refl
]

pub long_inserted : (names : FieldNames) (long : BTreeSet (String Global)) (name : List ℕ) → 15 < length name
    → sorted.UpdatesBy string_cmp (λ k. slice_cmp nat_cmp name (string_bytes k)) names.long long true
    → (other : List ℕ) → has_name (record { short = names.short; long = long }) other ≡ cond (bytes_eq name other) true (has_name names other)
long_inserted names long name past updates other = elim (cases_Bool (nat_le (length other) 15)) [
  | inl small ↦ rw (small, (lengths_apart other name (let fits = leb-true (length other) 15 small in omega arith)).1) refl
  | inr large ↦ rw large (btree_set_updates_text name names.long long true updates other)
]
