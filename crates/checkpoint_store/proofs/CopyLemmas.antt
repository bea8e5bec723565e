-- Documents copied one after another, in the order of their places.
use Rattle.std.proofs.Common.{◌≡◌, ◌∙◌, ap, subst, sym, refl, append_assoc, append-nil, cond, false, Less, None, Some, List, [], ◌∷◌, ◌++◌}
use Rattle.std.specs.Cmp.{eq_by_cmp_equiv}
use Rattle.std.specs.FinMap as maps
use Rattle.std.specs.FinMap.{find, from_entries_push}
use Rattle.std.specs.List.{AllByRecursion}
use Rattle.std.specs.List.Sorted.{IsStrictlySortedBy}
use Rattle.std.specs.Map.{keys_of}
use Rattle.std.specs.Ordering.{eq_by_cmp, is_eq}
use Rattle.bson_doc.specs.Place.{Place, place_cmp}
use Rattle.bson_doc.specs.Tree.{Fields}
use Rattle.bson_doc.proofs.KeyLemmas.{place_cmp-total, place_cmp-antisymmetric}
use Rattle.doc_fold.specs.Map.{documents_of}
use Rattle.oplog_entry.specs.Docs.{Documents}

-- the copies are the documents in front of those that are left
pub record CopiedSoFar (whole rest : List (Place × Fields)) (copies : Documents) : Type 0 where
  pub front : List (Place × Fields)
  pub split : whole ≡ front ++ rest
  pub made : copies ≡ documents_of front

later_less : (other place : Place) (document : Fields) (front rest : List (Place × Fields)) → AllByRecursion (λ o. place_cmp other o ≡ Less) (keys_of (front ++ (place, document) ∷ rest))
    → place_cmp other place ≡ Less
later_less other place document [] rest later = later.0
later_less other place document (e ∷ front) rest later = later_less other place document front rest later.1

-- in order, no place stands before itself
none_before : (place : Place) (document : Fields) (front rest : List (Place × Fields)) → IsStrictlySortedBy place_cmp (keys_of (front ++ (place, document) ∷ rest)) → find place_cmp place front ≡ None
unfolding IsStrictlySortedBy
none_before place document [] rest order = refl
none_before place document (e ∷ front) rest order =
    let other : eq_by_cmp place_cmp place e.0 ≡ false =
    (eq_by_cmp_equiv place_cmp-total).symm place e.0 ∙ ap is_eq (later_less e.0 place document front rest order.0) in
    ap (λ b. cond b (Some e.1) (find place_cmp place front)) other ∙ none_before place document front rest order.1

pub none_copied : (whole : List (Place × Fields)) (copies : Documents) → copies ≡ maps.empty → CopiedSoFar whole whole copies
none_copied whole copies none = record { front = []; split = refl; made = none }

pub copied_more : (whole rest : List (Place × Fields)) (copies : Documents) (place : Place) (document : Fields) → IsStrictlySortedBy place_cmp (keys_of whole)
    → CopiedSoFar whole ((place, document) ∷ rest) copies → CopiedSoFar whole rest (maps.insert copies place document)
copied_more whole rest copies place document order so = record {
  front = so.front ++ (place, document) ∷ [];
  split = so.split ∙ sym (append_assoc so.front ((place, document) ∷ []) rest);
  made = ap (λ m. maps.insert m place document) so.made
      ∙ sym (from_entries_push place_cmp-total place_cmp-antisymmetric so.front place document
      (none_before place document so.front rest (subst (λ es. IsStrictlySortedBy place_cmp (keys_of es)) so.split order)));
}

pub all_copied : (whole rest : List (Place × Fields)) (copies : Documents) → CopiedSoFar whole rest copies → rest ≡ [] → copies ≡ documents_of whole
all_copied whole rest copies so none =
    so.made ∙ ap documents_of (sym (append-nil so.front) ∙ ap (λ l. so.front ++ l) (sym none) ∙ sym so.split)
