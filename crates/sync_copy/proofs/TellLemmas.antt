-- What is read back is what was pinned.
use Rattle.std.proofs.Common.{◌≡◌, ◌∙◌, ap, ap₂, sym, subst, refl, append_assoc, append-nil, ℕ, T, Bool, true, false, ◌&&◌, Less, List, [], ◌∷◌, ◌++◌, map, length, Option, Result}
use Rattle.std.proofs.lemmas.List.{map-append}
use Rattle.std.specs.FinMap.{entries, entries-from_sorted, from_sorted, get-from_entries, get-from_sorted, is_sorted, same_map}
use Rattle.std.specs.FinMap.Entries.{below_all}
use Rattle.std.specs.List.{AllByRecursion}
use Rattle.std.specs.List.Sorted.{IsStrictlySortedBy}
use Rattle.std.specs.Map.{keys_of}
use Rattle.std.specs.Ordering.{is_lt}
use Rattle.bson_doc.proofs.KeyLemmas.{place_cmp-total, place_cmp-antisymmetric}
use Rattle.bson_doc.specs.Place.{Place, place_cmp}
use Rattle.bson_doc.specs.Tree.{Fields}
use Rattle.doc_fold.specs.Map.{documents_of as map_of}
use Rattle.rs_optime.specs.declared.optime.OpTime.{OpTime}
use Rattle.oplog_entry.specs.Docs.{Documents}
use Rattle.oplog_entry.specs.declared.entry.Entry.{Entry}
use Rattle.repl_msg.specs.declared.record.Kept.{Kept}
use Rattle.checkpoint_store.specs.declared.stable.Stable.{Stable}
use Rattle.initial_sync.specs.Copies.{IsOf, documents_of}
use Rattle.initial_sync.specs.Pinned.{IsPinned, listed_of, placed}
use Rattle.initial_sync.specs.declared.pinned.Kept1.{Kept1}
use Rattle.initial_sync.specs.declared.pinned.Pinned.{Pinned}
use Rattle.set_model.specs.Reads.{listed}
use Rattle.sync_words.specs.Putting.{PutsText}
use Rattle.sync_words.specs.Texts.{synced_text}
use Rattle.sync_words.specs.declared.stop.SyncStop.{SyncStop}
use Rattle.sync_copy.specs.Making.{pinned_text}

abbrev pub named : Place × Fields → List ℕ × Fields
named e = (e.0.0, e.1)

listed_places : (documents : List Kept1) → listed_of documents ≡ map named (map placed documents)
listed_places [] = refl
listed_places (one ∷ documents) = ap (λ (l : List (List ℕ × Fields)). (one.ns, one.doc) ∷ l) (listed_places documents)

pub told_so : (number : ℕ) (pinned : Pinned) (kept : Kept) (stable : Stable) → IsPinned pinned → IsOf pinned.term pinned.entries.items kept → stable ≡ documents_of pinned.entries.items
    → (old new : Option (List ℕ)) (ended : Result (Unit {0}) SyncStop) → PutsText old new (synced_text number stable.at (length kept.entries) (listed stable.documents)) ended
    → PutsText old new (pinned_text number pinned) ended
told_so number pinned kept stable is of same old new ended puts =
    subst (λ (t : List ℕ). PutsText old new t ended) text puts
  where
    at : stable.at ≡ pinned.at
    at = ap (λ (s : Stable). s.at) same ∙ is.last

    documents : listed stable.documents ≡ listed_of pinned.documents.items
    documents = ap (λ (s : Stable). listed s.documents) same ∙ ap (map named) (sym is.documents) ∙ sym (listed_places pinned.documents.items)

    text : synced_text number stable.at (length kept.entries) (listed stable.documents) ≡ pinned_text number pinned
    text =
        ap (λ (o : OpTime). synced_text number o (length kept.entries) (listed stable.documents)) at
        ∙ ap₂ (λ (l : List Entry) (d : List (List ℕ × Fields)). synced_text number pinned.at (length l) d) of.entries documents

-- ---- the documents of a checkpoint, one after another

-- the list has the documents in front of those that are left
pub record ListedSoFar (whole rest : List (Place × Fields)) (list : List (List ℕ × Fields)) : Type 0 where
  pub front : List (Place × Fields)
  pub split : whole ≡ front ++ rest
  pub made : list ≡ map named front

pub listed_none : (whole : List (Place × Fields)) (list : List (List ℕ × Fields)) → list ≡ [] → ListedSoFar whole whole list
listed_none whole list none = record { front = []; split = refl; made = none }

pub listed_more : (whole rest : List (Place × Fields)) (list : List (List ℕ × Fields)) (place : Place) (document : Fields) → ListedSoFar whole ((place, document) ∷ rest) list
    → ListedSoFar whole rest (list ++ (place.0, document) ∷ [])
listed_more whole rest list place document so = record {
  front = so.front ++ (place, document) ∷ [];
  split = so.split ∙ sym (append_assoc so.front ((place, document) ∷ []) rest);
  made = ap (λ l. l ++ (place.0, document) ∷ []) so.made ∙ sym (map-append named so.front ((place, document) ∷ []));
}

both_so : (a b : Bool) → T a → T b → T (a && b)
both_so true b p q = q
both_so false b p q = absurd p

all_below : (place : Place) (es : List (Place × Fields)) → AllByRecursion (λ other. place_cmp place other ≡ Less) (keys_of es) → T (below_all place_cmp place es)
all_below place [] later = tt
all_below place (e ∷ es) later = both_so _ _ (subst (λ o. T (is_lt o)) (sym later.0) tt) (all_below place es later.1)

in_order : (es : List (Place × Fields)) → IsStrictlySortedBy place_cmp (keys_of es) → T (is_sorted place_cmp es)
unfolding IsStrictlySortedBy
in_order [] order = tt
in_order (e ∷ es) order = both_so _ _ (all_below e.0 es order.0) (in_order es order.1)

entries_of_map : (es : List (Place × Fields)) → IsStrictlySortedBy place_cmp (keys_of es) → entries (map_of es) ≡ es
entries_of_map es order =
    let same : map_of es ≡ from_sorted es =
    same_map place_cmp-total place_cmp-antisymmetric _ _ (λ q. get-from_entries place_cmp-total es q ∙ sym (get-from_sorted place_cmp es q (in_order es order))) in
    ap entries same ∙ entries-from_sorted place_cmp es (in_order es order)

pub listed_all : (whole rest : List (Place × Fields)) (list : List (List ℕ × Fields)) (documents : Documents) → IsStrictlySortedBy place_cmp (keys_of whole) → map_of whole ≡ documents → ListedSoFar whole rest list → rest ≡ []
    → list ≡ listed documents
listed_all whole rest list documents order same so none =
    so.made ∙ ap (map named) (sym (append-nil so.front) ∙ ap (λ l. so.front ++ l) (sym none) ∙ sym so.split ∙ sym (entries_of_map whole order) ∙ ap entries same)
