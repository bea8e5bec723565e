-- The test whether two values are the same is true for equal values and for no others. So it
-- is an equivalence.
use Rattle.std.proofs.Common.{◌≡◌, ◌&&◌, ◌==◌, ℕ, List, Bool, true, false, refl, sym, subst, ap}
use Rattle.std.proofs.lemmas.Bool.{and_from, and_parts, false≢true}
use Rattle.std.proofs.lemmas.Slice.Eq.{bytes_eq-Decides}
use Rattle.std.specs.Bool.{Decides}
use Rattle.std.specs.Cmp.{IsEquivalence, IsPartialEquivalence, partial_equiv_from_equiv, decided, on_equiv, signed_Decides, unsigned_Decides}
use Rattle.std.specs.Ordering.{on}
use Rattle.std.specs.Str.{bytes_eq}
use Rattle.bson_doc.specs.Tree.{Tree, null, int32, int64, text, document, array, binary, object_id, boolean, date, timestamp, Fields, no_fields, field, Trees, no_items, item}
use Rattle.bson_doc.specs.View.{tree_of}
use Rattle.bson_doc.specs.Same.{same_truth, same_tree, same_fields, same_items}

truths-equal : (p q : Bool) → same_truth p q ≡ true → p ≡ q
truths-equal true q same = sym same
truths-equal false true same = absurd (false≢true same)
truths-equal false false same = refl

truth-itself : (p : Bool) → same_truth p p ≡ true
truth-itself true = refl
truth-itself false = refl

text-itself : (bytes : List ℕ) → bytes_eq bytes bytes ≡ true
text-itself bytes = (bytes_eq-Decides bytes bytes).1 refl

mutual
  same_tree-equal : (v w : Tree) → same_tree v w ≡ true → v ≡ w
  same_tree-equal null null same = refl
  same_tree-equal (int32 m) (int32 n) same = ap int32 ((signed_Decides m n).0 same)
  same_tree-equal (int64 m) (int64 n) same = ap int64 ((signed_Decides m n).0 same)
  same_tree-equal (text a) (text b) same = ap text ((bytes_eq-Decides a b).0 same)
  same_tree-equal (document a) (document b) same = ap document (same_fields-equal a b same)
  same_tree-equal (array a) (array b) same = ap array (same_items-equal a b same)
  same_tree-equal (binary s a) (binary t b) same =
      let parts = and_parts (s == t) (bytes_eq a b) same in
      let kinds : s ≡ t = (unsigned_Decides s t).0 parts.0 in
      let bytes : a ≡ b = (bytes_eq-Decides a b).0 parts.1 in cc
  same_tree-equal (object_id a) (object_id b) same = ap object_id ((bytes_eq-Decides a b).0 same)
  same_tree-equal (boolean a) (boolean b) same = ap boolean (truths-equal a b same)
  same_tree-equal (date m) (date n) same = ap date ((signed_Decides m n).0 same)
  same_tree-equal (timestamp a) (timestamp b) same = ap timestamp ((unsigned_Decides a b).0 same)
  same_tree-equal _ _ same = absurd (false≢true same)

  same_fields-equal : (a b : Fields) → same_fields a b ≡ true → a ≡ b
  same_fields-equal no_fields no_fields same = refl
  same_fields-equal (field n v a) (field m w b) same =
      let parts = and_parts (bytes_eq n m && same_tree v w) (same_fields a b) same in
      let first = and_parts (bytes_eq n m) (same_tree v w) parts.0 in
      let name : n ≡ m = (bytes_eq-Decides n m).0 first.0 in
      let value : v ≡ w = same_tree-equal v w first.1 in
      let rest : a ≡ b = same_fields-equal a b parts.1 in cc
  same_fields-equal no_fields (field m w b) same = absurd (false≢true same)
  same_fields-equal (field n v a) no_fields same = absurd (false≢true same)

  same_items-equal : (a b : Trees) → same_items a b ≡ true → a ≡ b
  same_items-equal no_items no_items same = refl
  same_items-equal (item v a) (item w b) same =
      let parts = and_parts (same_tree v w) (same_items a b) same in
      let value : v ≡ w = same_tree-equal v w parts.0 in
      let rest : a ≡ b = same_items-equal a b parts.1 in cc
  same_items-equal no_items (item w b) same = absurd (false≢true same)
  same_items-equal (item v a) no_items same = absurd (false≢true same)

mutual
  same_tree-itself : (v : Tree) → same_tree v v ≡ true
  same_tree-itself null = refl
  same_tree-itself (int32 m) = (signed_Decides m m).1 refl
  same_tree-itself (int64 m) = (signed_Decides m m).1 refl
  same_tree-itself (text a) = text-itself a
  same_tree-itself (document a) = same_fields-itself a
  same_tree-itself (array a) = same_items-itself a
  same_tree-itself (binary s a) =
      and_from (s == s) (bytes_eq a a) ((unsigned_Decides s s).1 refl) (text-itself a)
  same_tree-itself (object_id a) = text-itself a
  same_tree-itself (boolean a) = truth-itself a
  same_tree-itself (date m) = (signed_Decides m m).1 refl
  same_tree-itself (timestamp a) = (unsigned_Decides a a).1 refl

  same_fields-itself : (a : Fields) → same_fields a a ≡ true
  same_fields-itself no_fields = refl
  same_fields-itself (field n v a) =
      and_from (bytes_eq n n && same_tree v v) (same_fields a a)
      (and_from (bytes_eq n n) (same_tree v v) (text-itself n) (same_tree-itself v)) (same_fields-itself a)

  same_items-itself : (a : Trees) → same_items a a ≡ true
  same_items-itself no_items = refl
  same_items-itself (item v a) =
      and_from (same_tree v v) (same_items a a) (same_tree-itself v) (same_items-itself a)

pub same_tree-decides : (v w : Tree) → Decides (same_tree v w) (v ≡ w)
same_tree-decides v w = (same_tree-equal v w, λ e. subst (λ x. same_tree v x ≡ true) e (same_tree-itself v))

pub same_fields-decides : (a b : Fields) → Decides (same_fields a b) (a ≡ b)
same_fields-decides a b =
    (same_fields-equal a b, λ e. subst (λ x. same_fields a x ≡ true) e (same_fields-itself a))

pub same_items-decides : (a b : Trees) → Decides (same_items a b) (a ≡ b)
same_items-decides a b =
    (same_items-equal a b, λ e. subst (λ x. same_items a x ≡ true) e (same_items-itself a))

pub same_value-laws : IsEquivalence (on tree_of same_tree) × IsPartialEquivalence (on tree_of same_tree)
same_value-laws =
    let laws = on_equiv tree_of (decided same_tree same_tree-decides) in (laws, partial_equiv_from_equiv laws)

pub same_fields-laws : IsEquivalence same_fields × IsPartialEquivalence same_fields
same_fields-laws = let laws = decided same_fields same_fields-decides in (laws, partial_equiv_from_equiv laws)

pub same_items-laws : IsEquivalence same_items × IsPartialEquivalence same_items
same_items-laws = let laws = decided same_items same_items-decides in (laws, partial_equiv_from_equiv laws)
