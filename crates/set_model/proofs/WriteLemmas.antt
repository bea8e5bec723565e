-- A write has operators that may be stored, and a collection's name that is short.
use Rattle.std.proofs.Common.{◌≡◌, ◌≤◌, ◌<◌, codes, ℕ, Bool, true, false, cond, ◌&&◌, List, [], ◌∷◌, length, nat_lt, Option, None, Some, Result, Ok, Err, ap, subst, arith, ltb-true}
use Rattle.std.proofs.lemmas.Bool.{and_parts}
use Rattle.std.specs.Char.{is_ascii_alphabetic}
use Rattle.std.specs.List.{list_all}
use Rattle.bson_doc.specs.Key.{key_of, same_key}
use Rattle.bson_doc.specs.Place.{Place}
use Rattle.bson_doc.specs.Tree.{Tree, Fields, found}
use Rattle.bson_doc.specs.View.{tree_of}
use Rattle.bson_doc.specs.declared.key.IdKey.{IdKey}
use Rattle.doc_update.proofs.StoredLemmas.{IsSoundUpdate}
use Rattle.doc_update.specs.Check.{checked, with_key, insert_checked, replace_checked, same_id, update_checked, by_rule, broken_rule, names_id}
use Rattle.doc_update.specs.declared.write.WriteOp.{WriteOp}
use Rattle.doc_update.specs.declared.write.WriteOp.TheVariants as ops
use Rattle.doc_update.specs.Refusal.{Reason, ImmutableId}
use Rattle.set_model.specs.Limits.{IsSoundWrite, collection_of, is_collection, is_name_byte}

pub sound_update : (op : WriteOp) → IsSoundWrite op → IsSoundUpdate op
sound_update (ops.Insert ns document) sound = tt
sound_update (ops.Replace ns id document) sound = tt
sound_update (ops.Update ns id operators) sound = sound.1
sound_update (ops.Delete ns id) sound = tt

-- a collection's name has at most 64 letters
name_length : (name : List ℕ) → is_collection name ≡ true → length name ≤ 64
name_length [] is = cc is
name_length (first ∷ others) is =
    let less : length others < 64 = ltb-true (length others) 64 (and_parts (nat_lt (length others) 64) (list_all is_name_byte others) (rest (is_ascii_alphabetic first) (nat_lt (length others) 64) (list_all is_name_byte others) is)).0 in
    omega (arith, less)
  where
    rest : (a b c : Bool) → (a && b && c) ≡ true → (b && c) ≡ true
    rest true b c all = all
    rest false b c all = cc all

-- the collection of a place that was checked
first_is : (one two : Place) → ◌≡◌ {A = Result Place Reason} (Ok one) (Ok two) → one.0 ≡ two.0
first_is one two same = ap (λ (p : Place). p.0) (whole same)
  where
    whole : ◌≡◌ {A = Result Place Reason} (Ok one) (Ok two) → one ≡ two
    whole same = cc same

keyed_place : (ns : List ℕ) (key : Option IdKey) (place : Place) → with_key ns key ≡ Ok place → ns ≡ place.0
keyed_place ns None place is = cc is
keyed_place ns (Some key) place is = first_is (ns, key) place is

insert_place : (ns : List ℕ) (own : Option Tree) (place : Place) → insert_checked ns own ≡ Ok place → ns ≡ place.0
insert_place ns None place is = cc is
insert_place ns (Some id) place is = keyed_place ns (key_of id) place is

replace_place : (ns : List ℕ) (key : Option IdKey) (own : Option Tree) (place : Place) → replace_checked ns key own ≡ Ok place → ns ≡ place.0
replace_place ns None own place is = cc is
replace_place ns (Some key) None place is = first_is (ns, key) place is
replace_place ns (Some key) (Some id) place is = by_own (key_of id) is
  where
    by_test : (b : Bool) → ◌≡◌ {A = Result Place Reason} (cond b (Ok (ns, key)) (Err ImmutableId)) (Ok place) → ns ≡ place.0
    by_test true is = first_is (ns, key) place is
    by_test false is = cc is

    by_own : (own : Option IdKey) → same_id ns key own ≡ Ok place → ns ≡ place.0
    by_own None is = cc is
    by_own (Some own) is = by_test (same_key own key) is

update_place : (ns : List ℕ) (key : Option IdKey) (operators : Fields) (place : Place) → update_checked ns key operators ≡ Ok place → ns ≡ place.0
update_place ns None operators place is = cc is
update_place ns (Some key) operators place is = by_found (broken_rule operators) is
  where
    by_test : (b : Bool) → ◌≡◌ {A = Result Place Reason} (cond b (Err ImmutableId) (Ok (ns, key))) (Ok place) → ns ≡ place.0
    by_test true is = cc is
    by_test false is = first_is (ns, key) place is

    by_found : (rule : Option ℕ) → by_rule ns key (names_id operators) rule ≡ Ok place → ns ≡ place.0
    by_found (Some rule) is = cc is
    by_found None is = by_test (names_id operators) is

checked_place : (op : WriteOp) (place : Place) → checked op ≡ Ok place → collection_of op ≡ place.0
checked_place (ops.Insert ns doc) place is = insert_place ns (found (codes "_id") doc) place is
checked_place (ops.Replace ns id doc) place is = replace_place ns (key_of (tree_of id)) (found (codes "_id") doc) place is
checked_place (ops.Update ns id operators) place is = update_place ns (key_of (tree_of id)) operators place is
checked_place (ops.Delete ns id) place is = keyed_place ns (key_of (tree_of id)) place is

pub short_name : (op : WriteOp) (place : Place) → checked op ≡ Ok place → is_collection (collection_of op) ≡ true → length place.0 ≤ 64
short_name op place is name = subst (λ l. length l ≤ 64) (checked_place op place is) (name_length (collection_of op) name)
