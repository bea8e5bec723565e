-- What a write logs: a lawful op on the place that the write names. It leaves a document that begins with its
-- `_id` and isn't too large, and it is itself no longer than such a document.
use Rattle.std.proofs.Common.{◌≡◌, ◌≤◌, ◌+◌, ◌*◌, ◌∙◌, ℕ, length, Bool, true, false, not, ◌||◌, nat_lt, List, Option, None, Some, IsSome, Result, Ok, Err, IfOk, refl, sym, ap, subst, arith, codes}
use Rattle.std.specs.Prelude.{⊤, cond}
use Rattle.bson_doc.specs.Tree.{Tree, Fields, no_fields, field, found, IsDocument}
use Rattle.bson_doc.specs.Key.{key_of}
use Rattle.bson_doc.specs.Place.{Place}
use Rattle.bson_doc.specs.Sound.{IsSound as IsSoundDocument}
use Rattle.bson_doc.specs.View.{tree_of}
use Rattle.bson_doc.specs.declared.doc.Value.{Value}
use Rattle.bson_doc.specs.declared.key.IdKey.{IdKey}
use Rattle.bson_doc.specs.declared.key.IdKey.TheVariants as keys
use Rattle.bson_doc.specs.Length.{value_length, fields_length, value_levels, fields_levels, document_length, document_levels}
use Rattle.oplog_entry.specs.Lawful.{BeginsWithId, IsLawfulOp, AreUnsets}
use Rattle.oplog_entry.specs.Step.{id_key, place_in, place_of, changed, document_after}
use Rattle.oplog_entry.specs.declared.entry.Op.{Op}
use Rattle.oplog_entry.specs.declared.entry.Op.TheVariants as ops
use Rattle.doc_update.specs.Check.{checked, insert_checked, replace_checked, update_checked, with_key, by_rule, broken_rule, all_known, all_documents, all_good, all_names, is_empty, has_twice, names_id}
use Rattle.doc_update.specs.Effect.{id_first, is_too_large, stored, written, under, sets_of, unsets_of, updated, replace_prepared, update_prepared, prepared}
use Rattle.doc_update.specs.Increment.{has_wrong_side, has_overflow}
use Rattle.bson_doc.specs.Same.{same_fields}
use Rattle.doc_update.specs.Sound.{IsSound}
use Rattle.doc_update.specs.declared.write.WriteOp.{WriteOp}
use Rattle.doc_update.specs.declared.write.WriteOp.TheVariants.{Insert, Replace, Update, Delete}
use Rattle.doc_update.specs.declared.write.Prepared.{Prepared}
use Rattle.doc_update.specs.declared.write.Prepared.TheVariants.{Entry, Unchanged}
use Rattle.doc_update.specs.Refusal.{Reason}
use Rattle.doc_update.proofs.ApartLemmas.{IsDocument-under}
use Rattle.doc_update.proofs.ChangeLemmas.{strings_length, gone-within, id_stays, changed-after, sets-in}
use Rattle.doc_update.proofs.LengthLemmas.{length-in, levels-in}
use Rattle.doc_update.proofs.SoundLemmas.{IsDocument-sets, replace-sound, update-sound}

-- ---- what is wanted

-- what stands at a place: nothing, or a document that begins with an `_id` of its key and isn't too large
abbrev pub IsStored : Place → Option Fields → Type 0
IsStored place None = ⊤
IsStored place (Some doc) = BeginsWithId doc × (id_key doc ≡ Some place.1) × (is_too_large doc ≡ false)

-- the documents of an op, against those that may be stored
abbrev pub IsShort : Op → Type 0
IsShort (ops.Insert ns o) = is_too_large o ≡ false
IsShort (ops.Replace ns id o) = (is_too_large o ≡ false) × (value_length (tree_of id) ≤ 262143) × (value_levels (tree_of id) ≡ 0)
IsShort (ops.Fields ns id sets unsets) =
    (fields_length sets ≤ 262139) × (fields_levels sets ≤ 99) × (value_length (tree_of id) + 2 * strings_length unsets ≤ 524278) × (value_levels (tree_of id) ≡ 0)
IsShort (ops.Delete ns id) = (value_length (tree_of id) ≤ 262143) × (value_levels (tree_of id) ≡ 0)
IsShort ops.Noop = ⊤
IsShort ops.Note = ⊤

pub record IsLogged (place : Place) (before : Option Fields) (op : Op) : Type 0 where
  pub lawful : IsLawfulOp op
  pub at : place_of op ≡ Some place
  pub stored : IsStored place (document_after op before)
  pub short : IsShort op

-- ---- keys

-- a value is as long as its key, or four bytes shorter
abbrev pub key_length : IdKey → ℕ
key_length (keys.Number n) = 8
key_length (keys.Text bytes) = length bytes + 5
key_length (keys.Binary kind bytes) = length bytes + 5
key_length (keys.ObjectId bytes) = length bytes
key_length (keys.Boolean truth) = 1
key_length (keys.Date milliseconds) = 8

pub record IsKeyed (id : Tree) (key : IdKey) : Type 0 where
  pub most : value_length id ≤ key_length key
  pub least : key_length key ≤ value_length id + 4
  pub flat : value_levels id ≡ 0

some_key : (one two : IdKey) → Some one ≡ Some two → one ≡ two
some_key one two same = cc

keyed : (id : Tree) (key : IdKey) → key_of id ≡ Some key → IsKeyed id key
keyed (Tree.int32 n) key is = subst (IsKeyed (Tree.int32 n)) (some_key _ key is) (record { most = omega arith; least = omega arith; flat = refl })
keyed (Tree.int64 n) key is = subst (IsKeyed (Tree.int64 n)) (some_key _ key is) (record { most = omega arith; least = omega arith; flat = refl })
keyed (Tree.text b) key is = subst (IsKeyed (Tree.text b)) (some_key _ key is) (record { most = omega arith; least = omega arith; flat = refl })
keyed (Tree.binary s b) key is = subst (IsKeyed (Tree.binary s b)) (some_key _ key is) (record { most = omega arith; least = omega arith; flat = refl })
keyed (Tree.object_id b) key is = subst (IsKeyed (Tree.object_id b)) (some_key _ key is) (record { most = omega arith; least = omega arith; flat = refl })
keyed (Tree.boolean b) key is = subst (IsKeyed (Tree.boolean b)) (some_key _ key is) (record { most = omega arith; least = omega arith; flat = refl })
keyed (Tree.date d) key is = subst (IsKeyed (Tree.date d)) (some_key _ key is) (record { most = omega arith; least = omega arith; flat = refl })
keyed (Tree.document d) key is = cc is
keyed (Tree.array a) key is = cc is
keyed Tree.null key is = cc is
keyed (Tree.timestamp t) key is = cc is

-- two values of one key
pub same_key-length : (one two : Tree) (key : IdKey) → key_of one ≡ Some key → key_of two ≡ Some key → value_length one ≤ value_length two + 4
same_key-length one two key one_is two_is =
    let most : value_length one ≤ key_length key = (keyed one key one_is).most in
    let least : key_length key ≤ value_length two + 4 = (keyed two key two_is).least in
    omega (arith, most, least)

pub place-key : (ns : List ℕ) (key : Option IdKey) (place : Place) → place_in ns key ≡ Some place → (ns ≡ place.0) × (key ≡ Some place.1)
place-key ns None place is = cc is
place-key ns (Some key) place is = (ap (λ (p : Place). p.0) same, ap (λ (p : Place). Some p.1) same)
  where
    same : (ns, key) ≡ place
    same = cc is

-- ---- sizes

pub not_large : (doc : Fields) → is_too_large doc ≡ false → (fields_length doc ≤ 262139) × (fields_levels doc ≤ 99)
not_large doc small = (length_within, levels_within)
  where
    first : (a b : Bool) → (a || b) ≡ false → (a ≡ false) × (b ≡ false)
    first true b is = cc is
    first false b is = (refl, is)

    not_less : (a b : ℕ) → nat_lt a b ≡ false → b ≤ a
    not_less a b test = grind arith

    parts : (nat_lt 262144 (document_length doc) ≡ false) × (nat_lt 100 (document_levels doc) ≡ false)
    parts = first (nat_lt 262144 (document_length doc)) (nat_lt 100 (document_levels doc)) small

    length_within : fields_length doc ≤ 262139
    length_within = let within : 5 + fields_length doc ≤ 262144 = not_less 262144 (document_length doc) parts.0 in omega (arith, within)

    levels_within : fields_levels doc ≤ 99
    levels_within = let within : 1 + fields_levels doc ≤ 100 = not_less 100 (document_levels doc) parts.1 in omega (arith, within)

-- a stored document is its `_id` and what follows it
pub record HasId (place : Place) (doc : Fields) : Type 0 where
  pub id : Tree
  pub rest : Fields
  pub is : doc ≡ field (codes "_id") id rest
  pub key : key_of id ≡ Some place.1
  pub length_is : 5 + value_length id + fields_length rest ≤ 262139

pub id_of : (place : Place) (doc : Fields) → IsStored place (Some doc) → HasId place doc
id_of place no_fields stored = absurd stored.0
id_of place (field name value rest) stored = record {
  id = value;
  rest = rest;
  is = ap (λ n. field n value rest) stored.0;
  key = subst (λ n. id_key (field n value rest) ≡ Some place.1) stored.0 stored.1;
  length_is =
      let within : fields_length (field name value rest) ≤ 262139 = (not_large (field name value rest) stored.2).0 in
      let three : length name ≡ 3 = ap length stored.0 in
      omega (arith, within, three);
}

-- the `_id` that a write names
id_short : (place : Place) (doc : Fields) (id : Tree) → IsStored place (Some doc) → key_of id ≡ Some place.1 → (value_length id ≤ 262143) × (value_levels id ≡ 0)
id_short place doc id stored key =
    let has : HasId place doc = id_of place doc stored in
    let one : value_length id ≤ value_length has.id + 4 = same_key-length id has.id place.1 key has.key in
    let whole : 5 + value_length has.id + fields_length has.rest ≤ 262139 = has.length_is in
    (omega (arith, one, whole), (keyed id place.1 key).flat)

-- ---- what is stored and logged

logged_is : (op logged : Op) (new after : Option Fields) → ◌≡◌ {A = Result Prepared Reason} (Ok (Entry op new)) (Ok (Entry logged after)) → op ≡ logged
logged_is op logged new after same = cc

stored-entry : (op : Op) (doc : Fields) (logged : Op) (after : Option Fields) → stored op doc ≡ Ok (Entry logged after) → (op ≡ logged) × (is_too_large doc ≡ false)
stored-entry op doc logged after does = by_size (is_too_large doc) refl does
  where
    by_size : (b : Bool) → is_too_large doc ≡ b → cond b (Err Reason.DocTooLarge) (Ok (Entry op (Some doc))) ≡ Ok (Entry logged after) → (op ≡ logged) × (is_too_large doc ≡ false)
    by_size true is does = cc does
    by_size false is does = (logged_is op logged (Some doc) after does, is)

written-entry : (op : Op) (before doc : Fields) (logged : Op) (after : Option Fields) → written op before doc ≡ Ok (Entry logged after) → (op ≡ logged) × (is_too_large doc ≡ false)
written-entry op before doc logged after does = by_test (same_fields doc before) does
  where
    by_test : (b : Bool) → cond b (Ok Unchanged) (stored op doc) ≡ Ok (Entry logged after) → (op ≡ logged) × (is_too_large doc ≡ false)
    by_test true does = cc does
    by_test false does = stored-entry op doc logged after does

-- ---- an insert

ok_place : (one two : Place) → ◌≡◌ {A = Result Place Reason} (Ok one) (Ok two) → one ≡ two
ok_place one two same = cc

insert-logged : (ns : List ℕ) (doc : Fields) (own : Option Tree) (place : Place) (logged : Op) (after : Option Fields) → insert_checked ns own ≡ Ok place
    → stored (ops.Insert ns (id_first own doc)) (id_first own doc) ≡ Ok (Entry logged after) → IsLogged place None logged
insert-logged ns doc None place logged after is does = cc is
insert-logged ns doc (Some id) place logged after is does = by_key (key_of id) refl is
  where
    stands : (ops.Insert ns (id_first (Some id) doc) ≡ logged) × (is_too_large (id_first (Some id) doc) ≡ false)
    stands = stored-entry (ops.Insert ns (id_first (Some id) doc)) (id_first (Some id) doc) logged after does

    by_key : (key : Option IdKey) → key_of id ≡ key → with_key ns key ≡ Ok place → IsLogged place None logged
    by_key None key_is is = cc is
    by_key (Some key) key_is is = subst (λ p. IsLogged p None logged) (ok_place (ns, key) place is) (subst (IsLogged (ns, key) None) stands.0 (record {
      lawful = (refl, subst IsSome (sym key_is) refl);
      at = ap (place_in ns) key_is;
      stored = (refl, key_is, stands.1);
      short = stands.1;
    }))

-- ---- a replacement

-- of the result of a write that names a place
lawful_of : (place : Place) (before logged_doc : Option Fields) (logged : Op) (found : Result Prepared Reason) → found ≡ Ok (Entry logged logged_doc) → IfOk found (λ p. IsSound (Ok place) before p)
    → IsLawfulOp logged × (place_of logged ≡ Some place)
lawful_of place before after logged found is sound = let all : IsSound (Ok place) before (Entry logged after) = subst (λ r. IfOk r (λ p. IsSound (Ok place) before p)) is sound in (all.0, all.1)

replace-logged : (ns : List ℕ) (id : Value) (doc before : Fields) (place : Place) (logged : Op) (after : Option Fields) → IsStored place (Some before)
    → replace_checked ns (key_of (tree_of id)) (found (codes "_id") doc) ≡ Ok place → replace_prepared ns id doc before ≡ Ok (Entry logged after) → IsLogged place (Some before) logged
replace-logged ns id doc before place logged after stands is does =
    subst (IsLogged place (Some before)) named.0 (record {
      lawful = lawful;
      at = at;
      stored = (lawful.0, sym lawful.2 ∙ key, named.1);
      short = (named.1, short.0, short.1);
    })
  where
    named : (ops.Replace ns id (id_first (found (codes "_id") before) doc) ≡ logged) × (is_too_large (id_first (found (codes "_id") before) doc) ≡ false)
    named = written-entry (ops.Replace ns id (id_first (found (codes "_id") before) doc)) before (id_first (found (codes "_id") before) doc) logged after does

    both : IsLawfulOp logged × (place_of logged ≡ Some place)
    both = lawful_of place (Some before) after logged (replace_prepared ns id doc before) does (replace-sound ns id doc before (Ok place) (sym is) (stands.0, stands.1))

    lawful : IsLawfulOp (ops.Replace ns id (id_first (found (codes "_id") before) doc))
    lawful = subst IsLawfulOp (sym named.0) both.0

    at : place_of (ops.Replace ns id (id_first (found (codes "_id") before) doc)) ≡ Some place
    at = ap place_of named.0 ∙ both.1

    key : key_of (tree_of id) ≡ Some place.1
    key = (place-key ns (key_of (tree_of id)) place at).1

    short : (value_length (tree_of id) ≤ 262143) × (value_levels (tree_of id) ≡ 0)
    short = id_short place before (tree_of id) stands key

-- ---- an update

-- an update that was checked names no field twice
once_of : (ns : List ℕ) (key : Option IdKey) (operators : Fields) (place : Place) → update_checked ns key operators ≡ Ok place → has_twice (all_names operators) ≡ false
once_of ns None operators place is = cc is
once_of ns (Some key) operators place is = by_found (broken_rule operators) refl is
  where
    last : (a b c d : Bool) → cond {A = Option ℕ} (not a) (Some 1) (cond b (Some 2) (cond (not c) (Some 3) (cond d (Some 4) None))) ≡ None → d ≡ false
    last false b c d none = cc none
    last true true c d none = cc none
    last true false false d none = cc none
    last true false true true none = cc none
    last true false true false none = refl

    by_found : (rule : Option ℕ) → broken_rule operators ≡ rule → by_rule ns key (names_id operators) rule ≡ Ok place → has_twice (all_names operators) ≡ false
    by_found (Some rule) none is = cc is
    by_found None none is = last (all_known operators) (is_empty operators || not (all_documents operators)) (all_good (all_names operators)) (has_twice (all_names operators)) none

update-does : (ns : List ℕ) (id : Value) (operators before : Fields) (logged : Op) (after : Option Fields) → update_prepared ns id operators before ≡ Ok (Entry logged after)
    → (ops.Fields ns id (sets_of operators before) (unsets_of operators before) ≡ logged) × (is_too_large (updated operators before) ≡ false)
update-does ns id operators before logged after does = by_tests (has_wrong_side before (under (codes "$inc") operators)) (has_overflow before (under (codes "$inc") operators)) does
  where
    by_tests : (a b : Bool)
        → cond a (Err Reason.IncType) (cond b (Err Reason.IncOverflow) (written (ops.Fields ns id (sets_of operators before) (unsets_of operators before)) before (updated operators before))) ≡ Ok (Entry logged after)
        → (ops.Fields ns id (sets_of operators before) (unsets_of operators before) ≡ logged) × (is_too_large (updated operators before) ≡ false)
    by_tests true b does = cc does
    by_tests false true does = cc does
    by_tests false false does = written-entry (ops.Fields ns id (sets_of operators before) (unsets_of operators before)) before (updated operators before) logged after does

update-logged : (ns : List ℕ) (id : Value) (operators before : Fields) (place : Place) (logged : Op) (after : Option Fields) → IsSoundDocument operators → IsStored place (Some before)
    → update_checked ns (key_of (tree_of id)) operators ≡ Ok place → update_prepared ns id operators before ≡ Ok (Entry logged after) → IsLogged place (Some before) logged
update-logged ns id operators before place logged after sound stands is does =
    subst (IsLogged place (Some before)) named.0 (record {
      lawful = lawful;
      at = at;
      stored = (
        subst BeginsWithId (sym begins) refl,
        ap id_key begins ∙ has.key,
        named.1,
      );
      short = (omega (arith, sets_length, most.0), omega (arith, sets_levels, most.1), sizes, short.1);
    })
  where
    named : (ops.Fields ns id (sets_of operators before) (unsets_of operators before) ≡ logged) × (is_too_large (updated operators before) ≡ false)
    named = update-does ns id operators before logged after does

    both : IsLawfulOp logged × (place_of logged ≡ Some place)
    both = lawful_of place (Some before) after logged (update_prepared ns id operators before) does
        (update-sound ns id operators before (Ok place) (sym is) (stands.0, stands.1) (IsDocument-under (codes "$unset") operators sound.1))

    lawful : IsLawfulOp (ops.Fields ns id (sets_of operators before) (unsets_of operators before))
    lawful = subst IsLawfulOp (sym named.0) both.0

    at : place_of (ops.Fields ns id (sets_of operators before) (unsets_of operators before)) ≡ Some place
    at = ap place_of named.0 ∙ both.1

    key : key_of (tree_of id) ≡ Some place.1
    key = (place-key ns (key_of (tree_of id)) place at).1

    short : (value_length (tree_of id) ≤ 262143) × (value_levels (tree_of id) ≡ 0)
    short = id_short place before (tree_of id) stands key

    has : HasId place before
    has = id_of place before stands

    begins : updated operators before ≡ field (codes "_id") has.id (changed has.rest (sets_of operators before) (unsets_of operators before))
    begins = ap (λ d. changed d (sets_of operators before) (unsets_of operators before)) has.is
        ∙ changed-after (codes "_id") has.id has.rest (sets_of operators before) (unsets_of operators before) lawful.1 (id_stays (unsets_of operators before) lawful.2)

    once : has_twice (all_names operators) ≡ false
    once = once_of ns (key_of (tree_of id)) operators place is

    apart : IsDocument (sets_of operators before)
    apart = IsDocument-sets operators before once (IsDocument-under (codes "$set") operators sound.1) (IsDocument-under (codes "$inc") operators sound.1)

    most : (fields_length (updated operators before) ≤ 262139) × (fields_levels (updated operators before) ≤ 99)
    most = not_large (updated operators before) named.1

    sets_length : fields_length (sets_of operators before) ≤ fields_length (updated operators before)
    sets_length = length-in (sets_of operators before) (updated operators before) apart (sets-in operators before once apart)

    sets_levels : fields_levels (sets_of operators before) ≤ fields_levels (updated operators before)
    sets_levels = levels-in (sets_of operators before) (updated operators before) (sets-in operators before once apart)

    gone_length : strings_length (unsets_of operators before) ≤ fields_length has.rest
    gone_length = subst (λ d. strings_length (unsets_of operators d) ≤ fields_length has.rest) (sym has.is)
        (gone-within operators has.id has.rest (subst (λ d. AreUnsets (unsets_of operators d)) has.is lawful.2))

    sizes : value_length (tree_of id) + 2 * strings_length (unsets_of operators before) ≤ 524278
    sizes =
        let one : value_length (tree_of id) ≤ value_length has.id + 4 = same_key-length (tree_of id) has.id place.1 key has.key in
        let whole : 5 + value_length has.id + fields_length has.rest ≤ 262139 = has.length_is in
        omega (arith, one, whole, gone_length)

-- ---- each write

delete-logged : (ns : List ℕ) (id : Value) (before : Fields) (place : Place) → IsStored place (Some before) → with_key ns (key_of (tree_of id)) ≡ Ok place → IsLogged place (Some before) (ops.Delete ns id)
delete-logged ns id before place stands is = by_key (key_of (tree_of id)) refl is
  where
    by_key : (key : Option IdKey) → key_of (tree_of id) ≡ key → with_key ns key ≡ Ok place → IsLogged place (Some before) (ops.Delete ns id)
    by_key None key_is is = cc is
    by_key (Some key) key_is is =
        let same : (ns, key) ≡ place = ok_place (ns, key) place is in
        record {
          lawful = subst IsSome (sym key_is) refl;
          at = ap (place_in ns) key_is ∙ ap (λ (p : Place). Some p) same;
          stored = tt;
          short = id_short place before (tree_of id) stands (key_is ∙ ap (λ (p : Place). Some p.1) same);
        }

-- what an update is given keeps its names apart
abbrev pub IsSoundUpdate : WriteOp → Type 0
IsSoundUpdate (Update ns id operators) = IsSoundDocument operators
IsSoundUpdate (Insert ns document) = ⊤
IsSoundUpdate (Replace ns id document) = ⊤
IsSoundUpdate (Delete ns id) = ⊤

-- what a write logs of a document that stands at its place
pub write-logged : (op : WriteOp) (before : Option Fields) (place : Place) (logged : Op) (after : Option Fields) → IsSoundUpdate op → IsStored place before
    → checked op ≡ Ok place → prepared op before ≡ Ok (Entry logged after) → IsLogged place before logged
write-logged (Insert ns doc) None place logged after sound stands is does = insert-logged ns doc (found (codes "_id") doc) place logged after is does
write-logged (Insert ns doc) (Some before) place logged after sound stands is does = cc does
write-logged (Replace ns id doc) None place logged after sound stands is does = cc does
write-logged (Replace ns id doc) (Some before) place logged after sound stands is does = replace-logged ns id doc before place logged after stands is does
write-logged (Update ns id operators) None place logged after sound stands is does = cc does
write-logged (Update ns id operators) (Some before) place logged after sound stands is does = update-logged ns id operators before place logged after sound stands is does
write-logged (Delete ns id) None place logged after sound stands is does = cc does
write-logged (Delete ns id) (Some before) place logged after sound stands is does =
    subst (IsLogged place (Some before)) (logged_is (ops.Delete ns id) logged None after does) (delete-logged ns id before place stands is)
