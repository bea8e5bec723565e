-- Equality tests that decide: of texts, values, documents and lists of values, of optimes, and of lists item by
-- item.
use Rattle.std.proofs.Common.{◌≡◌, ◌&&◌, ◌==◌, ◌<◌, ℕ, Bool, List, ap, subst, sym, arith, length}
use Rattle.std.specs.Prelude.{slice_index_or}
use Rattle.std.proofs.lemmas.List.{same_lists}
use Rattle.std.proofs.lemmas.Bool.Decides.{nat_tests}
use Rattle.std.proofs.lemmas.Slice.Eq.{bytes_eq-Decides, slice_eq-Decides}
use Rattle.std.specs.Bool.{Decides}
use Rattle.std.specs.Cmp.Lexicographic.{pointwise}
use Rattle.std.specs.Str.{bytes_eq}
use Rattle.bson_doc.specs.Tree.{Fields, Trees}
use Rattle.bson_doc.specs.View.{tree_of}
use Rattle.bson_doc.specs.SameLaws.{same_fields-decides, same_items-decides, same_tree-decides}
use Rattle.bson_doc.specs.Same.{same_tree, same_fields, same_items}
use Rattle.bson_doc.specs.declared.doc.Value.{Value}
use Rattle.entry_bytes.proofs.LayoutLemmas.{same_value}
use Rattle.rs_optime.specs.declared.optime.OpTime.{OpTime}

same_value-decides : (v w : Value) → Decides (same_tree (tree_of v) (tree_of w)) (v ≡ w)
same_value-decides v w =
    let trees = same_tree-decides (tree_of v) (tree_of w) in
    (λ same. same_value v w (trees.0 same), λ equal. trees.1 (ap tree_of equal))

by_test : {A : Type 0} (test : A → A → Bool) → ((a b : A) → Decides (test a b) (a ≡ b)) → (a b : A) (answer : Bool) → answer ≡ test a b → Decides answer (a ≡ b)
by_test test decides a b answer is = subst (λ t. Decides t (a ≡ b)) (sym is) (decides a b)

pub text_tested : (a b : List ℕ) (answer : Bool) → answer ≡ bytes_eq a b → Decides answer (a ≡ b)
text_tested = by_test bytes_eq bytes_eq-Decides

pub document_tested : (a b : Fields) (answer : Bool) → answer ≡ same_fields a b → Decides answer (a ≡ b)
document_tested = by_test same_fields same_fields-decides

pub items_tested : (a b : Trees) (answer : Bool) → answer ≡ same_items a b → Decides answer (a ≡ b)
items_tested = by_test same_items same_items-decides

pub value_tested : (a b : Value) (answer : Bool) → answer ≡ same_tree (tree_of a) (tree_of b) → Decides answer (a ≡ b)
value_tested = by_test (λ (a b : Value). same_tree (tree_of a) (tree_of b)) same_value-decides

-- the first ones, this many, are the same
abbrev pub AgreeTo : {A : Type 0} → ℕ → List A → List A → Type 0
AgreeTo {A} count one other = (k : ℕ) (d : A) → k < count → slice_index_or one k d ≡ slice_index_or other k d

pub agreeing_same : {A : Type 0} (one other : List A) → length one ≡ length other → AgreeTo (length one) one other → one ≡ other
agreeing_same one other same agree = same_lists one other same agree

-- ---- optimes
abbrev same_optime : OpTime → OpTime → Bool
same_optime p q = (p.term == q.term) && (p.ts == q.ts)

optime_same : (p q : OpTime) → Decides (same_optime p q) (p ≡ q)
optime_same p q = grind (arith, nat_tests)

pub optimes_tested : (one other : List OpTime) (answer : Bool) → answer ≡ pointwise same_optime one other → Decides answer (one ≡ other)
optimes_tested = slice_eq-Decides optime_same
