-- How the documents of a map follow the map's changes.
use Rattle.std.proofs.Common.{◌≡◌, cond, List, [], ◌∷◌, Option, Some, refl, sym, ap, ◌∙◌}
use Rattle.std.specs.Ordering.{eq_by_cmp}
use Rattle.std.specs.Cmp.{eq_by_cmp_equiv}
use Rattle.std.specs.Map.{lookup}
use Rattle.std.specs.BTreeMap.{is_at}
use Rattle.std.specs.FinMap.{find, get, get-from_entries, same_map}
use Rattle.bson_doc.specs.Tree.{Fields}
use Rattle.bson_doc.specs.Place.{Place, place_cmp}
use Rattle.bson_doc.proofs.KeyLemmas.{place_cmp-total, place_cmp-antisymmetric}
use Rattle.oplog_entry.specs.Docs.{put_at, applied_at, applied}
use Rattle.oplog_entry.specs.Step.{place_of, document_after}
use Rattle.oplog_entry.specs.declared.entry.Entry.{Entry}
use Rattle.oplog_entry.proofs.DocsLemmas.{get-put_at, applied-twice}
use Rattle.doc_fold.specs.Map.{documents_of}

-- what a map's entries have at a place
abbrev pub document_at : List (Place × Fields) → Place → Option Fields
document_at entries place = lookup (is_at (place_cmp place)) entries

find-document_at : (entries : List (Place × Fields)) (q : Place) → find place_cmp q entries ≡ document_at entries q
find-document_at [] q = refl
find-document_at (e ∷ entries) q = ap (cond (is_at (place_cmp q) e.0) (Some e.1)) (find-document_at entries q)

pub get-documents_of : (entries : List (Place × Fields)) (q : Place) → get (documents_of entries) q ≡ document_at entries q
get-documents_of entries q = get-from_entries place_cmp-total entries q ∙ find-document_at entries q

-- entries that differ at one place make documents that differ there
pub put_at-documents_of : (entries later : List (Place × Fields)) (place : Place) (now : Option Fields) → ((q : Place) → document_at later q ≡ cond (is_at (place_cmp place) q) now (document_at entries q)) → documents_of later ≡ put_at (documents_of entries) place now
put_at-documents_of entries later place now differ =
    same_map place_cmp-total place_cmp-antisymmetric _ _ (λ q.
    get-documents_of later q ∙ differ q
    ∙ ap (λ b. cond b now (document_at entries q)) ((eq_by_cmp_equiv place_cmp-total).symm place q)
    ∙ sym (get-put_at (documents_of entries) place now q ∙ ap (cond (eq_by_cmp place_cmp q place) now) (get-documents_of entries q)))

-- a map that an entry's step was made in has the documents after the entry
pub applied-documents_of : (entries later : List (Place × Fields)) (entry : Entry) (place : Place) (before now : Option Fields) → place_of entry.op ≡ Some place → before ≡ document_at entries place → now ≡ document_after entry.op before → ((q : Place) → document_at later q ≡ cond (is_at (place_cmp place) q) now (document_at entries q)) → documents_of later ≡ applied (documents_of entries) entry
applied-documents_of entries later entry place before now at stood is differ =
    put_at-documents_of entries later place now differ
    ∙ ap (put_at (documents_of entries) place) (is ∙ ap (document_after entry.op) (stood ∙ sym (get-documents_of entries place)))
    ∙ ap (applied_at (documents_of entries) entry.op) (sym at)

-- and the entry changes nothing in it once more
pub applied-documents_of-twice : (entries later : List (Place × Fields)) (entry : Entry) (place : Place) (before now : Option Fields) → place_of entry.op ≡ Some place → before ≡ document_at entries place → now ≡ document_after entry.op before → document_after entry.op now ≡ now → ((q : Place) → document_at later q ≡ cond (is_at (place_cmp place) q) now (document_at entries q)) → applied (documents_of later) entry ≡ documents_of later
applied-documents_of-twice entries later entry place before now at stood is twice differ =
    let once = applied-documents_of entries later entry place before now at stood is differ in
    let left : now ≡ document_after entry.op (get (documents_of entries) place) = is ∙ ap (document_after entry.op) (stood ∙ sym (get-documents_of entries place)) in
    ap (λ d. applied d entry) once
    ∙ applied-twice (documents_of entries) entry place at (ap (document_after entry.op) (sym left) ∙ twice ∙ left)
    ∙ sym once
