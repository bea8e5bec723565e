-- Each document that results from a log begins with an `_id` of its own key.
use Rattle.std.proofs.Common.{fold, ◌≡◌, ℕ, Bool, true, false, cond, List, [], ◌∷◌, Option, None, Some, IfSome, All, codes, option_and_then, option_map, refl, sym, ap, subst, ◌∙◌, arith, zero}
use Rattle.std.specs.Str.{bytes_eq}
use Rattle.std.specs.FinMap.{get, get-empty, empty}
use Rattle.std.proofs.lemmas.List.Elements.{All-tail}
use Rattle.bson_doc.specs.Tree.{Tree, text, Fields, no_fields, field, Trees, no_items, item, found, with_set, without}
use Rattle.bson_doc.specs.Key.{key_of}
use Rattle.bson_doc.specs.Place.{Place, place_cmp}
use Rattle.bson_doc.specs.View.{tree_of}
use Rattle.bson_doc.specs.declared.key.IdKey.{IdKey}
use Rattle.oplog_entry.specs.Docs.{Documents, docs, applied}
use Rattle.oplog_entry.specs.Lawful.{BeginsWithId, AreUnsets, IsLawful, IsLawfulOp}
use Rattle.oplog_entry.specs.Step.{id_key, place_in, place_of, document_after, with_sets, strings_of, changed, is_at}
use Rattle.oplog_entry.specs.declared.entry.Entry.{Entry}
use Rattle.oplog_entry.specs.declared.entry.Op.{Op}
use Rattle.oplog_entry.specs.declared.entry.Op.TheVariants.{Insert, Replace, Fields as SetFields, Delete, Noop, Note}
use Rattle.oplog_entry.proofs.FieldLemmas.{same_itself, alike_swapped}
use Rattle.oplog_entry.proofs.PlaceLemmas.{is_at-only}
use Rattle.set_model.proofs.HoldLemmas.{get-step}

-- a document whose first field is its `_id`, of a value
abbrev StartsWith : Tree → Fields → Type 0
StartsWith id no_fields = ⊥
StartsWith id (field name value rest) = (name ≡ codes "_id") × (value ≡ id)

starts-with_set : (id : Tree) (document : Fields) (name : List ℕ) (value : Tree) → bytes_eq name (codes "_id") ≡ false → StartsWith id document → StartsWith id (with_set document name value)
starts-with_set id no_fields name value other starts = absurd starts
starts-with_set id (field first one rest) name value other starts =
    let apart : bytes_eq first name ≡ false = ap (λ n. bytes_eq n name) starts.0 ∙ alike_swapped (codes "_id") name ∙ other in
    rw apart starts

starts-with_sets : (id : Tree) (sets document : Fields) → found (codes "_id") sets ≡ None → StartsWith id document → StartsWith id (with_sets document sets)
starts-with_sets id no_fields document none starts = starts
starts-with_sets id (field name value rest) document none starts =
    let both = by_test (bytes_eq name (codes "_id")) none in
    starts-with_sets id rest (with_set document name value) both.1 (starts-with_set id document name value both.0 starts)
  where
    by_test : (b : Bool) → cond b (Some value) (found (codes "_id") rest) ≡ None → (b ≡ false) × (found (codes "_id") rest ≡ None)
    by_test true e = cc
    by_test false e = (refl, e)

starts-without : (id : Tree) (document : Fields) (name : List ℕ) → bytes_eq name (codes "_id") ≡ false → StartsWith id document → StartsWith id (without document name)
starts-without id no_fields name other starts = absurd starts
starts-without id (field first one rest) name other starts =
    let apart : bytes_eq first name ≡ false = ap (λ n. bytes_eq n name) starts.0 ∙ alike_swapped (codes "_id") name ∙ other in
    rw apart starts

starts-without_all : (id : Tree) (unsets : Trees) (document : Fields) → AreUnsets unsets → StartsWith id document → StartsWith id (fold without document (strings_of unsets))
starts-without_all id no_items document unsets starts = starts
starts-without_all id (item (text name) rest) document unsets starts = starts-without_all id rest (without document name) unsets.3 (starts-without id document name unsets.1 starts)
starts-without_all id (item value rest) document unsets starts = absurd unsets

-- a document of a key
abbrev pub IsOwn : IdKey → Fields → Type 0
IsOwn key document = BeginsWithId document × (id_key document ≡ Some key)

starts : (key : IdKey) (document : Fields) → IsOwn key document → (id : Tree) × StartsWith id document × (key_of id ≡ Some key)
starts key no_fields own = absurd own.0
starts key (field name value rest) own =
    let here : bytes_eq name (codes "_id") ≡ true = ap (λ n. bytes_eq n (codes "_id")) own.0 ∙ same_itself (codes "_id") in
    (value, (own.0, refl), ap (λ b. option_and_then key_of (cond b (Some value) (found (codes "_id") rest))) (sym here) ∙ own.1)

own_of_starts : (key : IdKey) (id : Tree) (document : Fields) → StartsWith id document → key_of id ≡ Some key → IsOwn key document
own_of_starts key id no_fields start is = absurd start
own_of_starts key id (field name value rest) start is =
    let here : bytes_eq name (codes "_id") ≡ true = ap (λ n. bytes_eq n (codes "_id")) start.0 ∙ same_itself (codes "_id") in
    (start.0, ap (λ b. option_and_then key_of (cond b (Some value) (found (codes "_id") rest))) here ∙ ap key_of start.1 ∙ is)

own_changed : (key : IdKey) (document sets : Fields) (unsets : Trees) → found (codes "_id") sets ≡ None → AreUnsets unsets → IsOwn key document → IsOwn key (changed document sets unsets)
own_changed key document sets unsets none clean own =
    let start = starts key document own in
    own_of_starts key start.0 (changed document sets unsets)
    (starts-without_all start.0 unsets (with_sets document sets) clean (starts-with_sets start.0 sets document none start.1)) start.2

key_in : (ns : List ℕ) (key : Option IdKey) (place : Place) → place_in ns key ≡ Some place → key ≡ Some place.1
key_in ns None place e = cc e
key_in ns (Some key) place e = ap (λ (o : Option Place). option_map (λ (p : Place). p.1) o) e

-- what a lawful op leaves at its place is of the place's key
own_after : (op : Op) (place : Place) (before : Option Fields) → IsLawfulOp op → place_of op ≡ Some place → IfSome before (λ d. IsOwn place.1 d) → IfSome (document_after op before) (λ d. IsOwn place.1 d)
own_after (Insert ns o) place before lawful at own = (lawful.0, key_in ns (id_key o) place at)
own_after (Replace ns id o) place before lawful at own = (lawful.0, sym lawful.2 ∙ key_in ns (key_of (tree_of id)) place at)
own_after (SetFields ns id sets unsets) place None lawful at own = tt
own_after (SetFields ns id sets unsets) place (Some document) lawful at own = own_changed place.1 document sets unsets lawful.1 lawful.2 own
own_after (Delete ns id) place before lawful at own = tt
own_after Noop place before lawful at own = own
own_after Note place before lawful at own = own

abbrev AreOwn : Documents → Type 0
AreOwn documents = (place : Place) → IfSome (get documents place) (λ d. IsOwn place.1 d)

own_applied : (documents : Documents) (entry : Entry) → IsLawfulOp entry.op → AreOwn documents → AreOwn (applied documents entry)
own_applied documents entry lawful own place =
    subst (λ o. IfSome o (λ d. IsOwn place.1 d)) (sym (get-step documents entry place)) (by_test (is_at (place_of entry.op) place) refl)
  where
    by_test : (b : Bool) → is_at (place_of entry.op) place ≡ b → IfSome (cond b (document_after entry.op (get documents place)) (get documents place)) (λ d. IsOwn place.1 d)
    by_test true here = own_after entry.op place (get documents place) lawful (is_at-only (place_of entry.op) place here) (own place)
    by_test false other = own place

own_folded : (log : List Entry) (documents : Documents) → All IsLawful log → AreOwn documents → AreOwn (fold applied documents log)
own_folded [] documents lawful own = own
own_folded (entry ∷ log) documents lawful own =
    own_folded log (applied documents entry) (All-tail IsLawful entry log lawful) (own_applied documents entry (lawful zero entry (omega arith)).op own)

pub own_docs : (log : List Entry) (place : Place) → All IsLawful log → IfSome (get (docs log) place) (λ d. IsOwn place.1 d)
own_docs log place lawful = own_folded log empty lawful (λ p. subst (λ o. IfSome o (λ d. IsOwn p.1 d)) (sym (get-empty place_cmp p)) tt) place
