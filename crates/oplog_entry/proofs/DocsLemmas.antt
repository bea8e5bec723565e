-- How the documents of a log follow one more entry.
use Rattle.std.proofs.Common.{◌≡◌, false, cond, List, [], ◌∷◌, ◌++◌, Option, None, Some, refl, sym, ap, ◌∙◌}
use Rattle.std.proofs.lemmas.List.Sums.{fold-append}
use Rattle.std.specs.Ordering.{eq_by_cmp, is_eq}
use Rattle.std.specs.Cmp.{tied_itself}
use Rattle.std.specs.declared.cmp.Ordering.{Ordering}
use Rattle.std.specs.declared.cmp.Ordering.TheVariants.{Less, Equal, Greater}
use Rattle.std.specs.FinMap.{empty, get, get-insert, get-remove, get_tied, same_map}
use Rattle.bson_doc.specs.Tree.{Fields}
use Rattle.bson_doc.proofs.KeyLemmas.{place_cmp-total, place_cmp-antisymmetric}
use Rattle.bson_doc.specs.Place.{Place, place_cmp}
use Rattle.oplog_entry.specs.declared.entry.Entry.{Entry}
use Rattle.oplog_entry.specs.Step.{place_of, document_after}
use Rattle.oplog_entry.specs.Docs.{Documents, put_at, applied_at, applied, docs}

-- one entry more is one step more
pub docs-append : (log : List Entry) (entry : Entry) → docs (log ++ entry ∷ []) ≡ applied (docs log) entry
docs-append log entry = fold-append applied empty log (entry ∷ [])

pub get-put_at : (documents : Documents) (place : Place) (now : Option Fields) (q : Place) → get (put_at documents place now) q ≡ cond (eq_by_cmp place_cmp q place) now (get documents q)
get-put_at documents place None q = get-remove place_cmp-total documents place q
get-put_at documents place (Some document) q = get-insert place_cmp-total documents place document q

-- what stands at a place after an entry that touches the document of a place
pub get-applied : (documents : Documents) (entry : Entry) (place q : Place) → place_of entry.op ≡ Some place → get (applied documents entry) q ≡ cond (eq_by_cmp place_cmp q place) (document_after entry.op (get documents place)) (get documents q)
get-applied documents entry place q at =
    ap (λ p. get (applied_at documents entry.op p) q) at ∙ get-put_at documents place (document_after entry.op (get documents place)) q

-- at its place, and at another
pub get-applied-here : (documents : Documents) (entry : Entry) (place : Place) → place_of entry.op ≡ Some place → get (applied documents entry) place ≡ document_after entry.op (get documents place)
get-applied-here documents entry place at =
    get-applied documents entry place place at ∙ ap (λ r. cond (is_eq r) (document_after entry.op (get documents place)) (get documents place)) (tied_itself place_cmp-total place)

pub get-applied-other : (documents : Documents) (entry : Entry) (place q : Place) → place_of entry.op ≡ Some place → eq_by_cmp place_cmp q place ≡ false → get (applied documents entry) q ≡ get documents q
get-applied-other documents entry place q at apart =
    get-applied documents entry place q at ∙ ap (λ b. cond b (document_after entry.op (get documents place)) (get documents q)) apart

-- an entry that touches no document changes none
pub applied-nothing : (documents : Documents) (entry : Entry) → place_of entry.op ≡ None → applied documents entry ≡ documents
applied-nothing documents entry none = ap (applied_at documents entry.op) none

-- to put what stands there changes nothing
put_at-same : (documents : Documents) (place : Place) (now : Option Fields) → get documents place ≡ now → put_at documents place now ≡ documents
put_at-same documents place now is =
    same_map place_cmp-total place_cmp-antisymmetric _ _ (λ q. get-put_at documents place now q ∙ at_tie q (place_cmp q place) refl)
  where
    at_tie : (q : Place) (r : Ordering) → place_cmp q place ≡ r → cond (is_eq r) now (get documents q) ≡ get documents q
    at_tie q Less e = refl
    at_tie q Equal e = sym is ∙ get_tied place_cmp-total documents q place e
    at_tie q Greater e = refl

-- where the document that an entry leaves is one that it leaves as it is, the entry done twice is the entry done once
pub applied-twice : (documents : Documents) (entry : Entry) (place : Place) → place_of entry.op ≡ Some place → document_after entry.op (document_after entry.op (get documents place)) ≡ document_after entry.op (get documents place) → applied (applied documents entry) entry ≡ applied documents entry
applied-twice documents entry place at twice =
    let here = get-applied-here documents entry place at in
    ap (applied_at (applied documents entry) entry.op) at
    ∙ put_at-same (applied documents entry) place _ (here ∙ sym twice ∙ ap (document_after entry.op) (sym here))
