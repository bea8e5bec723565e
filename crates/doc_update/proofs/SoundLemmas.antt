-- What is logged for a write is lawful.
use Rattle.std.proofs.Common.{◌≡◌, ◌<◌, ℕ, Bool, true, false, ◌||◌, if◌then◌else◌, List, [], ◌∷◌, ◌++◌, Option, None, Some, IsSome, is_some, option_and_then, Result, Ok, Err, IfOk, codes, refl, sym, ap, ◌∙◌, arith, rules, subst}
use Rattle.std.specs.Str.{bytes_eq}
use Rattle.std.proofs.lemmas.List.{append-nil}
use Rattle.bson_doc.specs.Tree.{Tree, null, Fields, no_fields, field, found, count, IsDocument}
use Rattle.bson_doc.specs.Sound.{IsSound as IsSoundDocument, IsSoundValue}
use Rattle.bson_doc.specs.Key.{key_of, same_key}
use Rattle.bson_doc.specs.Place.{Place}
use Rattle.bson_doc.specs.View.{tree_of}
use Rattle.bson_doc.specs.declared.key.IdKey.{IdKey}
use Rattle.bson_doc.specs.declared.doc.Value.{Value}
use Rattle.oplog_entry.specs.Lawful.{is_among, AreUnsets}
use Rattle.oplog_entry.specs.Step.{id_key, place_in}
use Rattle.oplog_entry.specs.Walk.{join}
use Rattle.oplog_entry.specs.declared.entry.Op.{Op}
use Rattle.oplog_entry.specs.declared.entry.Op.TheVariants as ops
use Rattle.oplog_entry.proofs.FieldLemmas.{same_name, same_itself}
use Rattle.doc_update.specs.Check.{names_of, all_names, given, has_twice, replace_checked, same_id, update_checked, by_rule, broken_rule, names_id}
use Rattle.doc_update.specs.Effect.{under, fields_under, present, id_first, stored, written, is_too_large, sets_of, unsets_of, updated, update_prepared, replace_prepared}
use Rattle.doc_update.specs.Increment.{sums, has_wrong_side, has_overflow}
use Rattle.doc_update.specs.Ordered.{in_byte_order, as_strings}
use Rattle.doc_update.specs.Refusal.{Answers, Reason, DocTooLarge, ImmutableId, IncType, IncOverflow}
use Rattle.bson_doc.specs.Same.{same_fields}
use Rattle.doc_update.specs.Sound.{IsNamed, IsSound}
use Rattle.doc_update.specs.declared.write.Prepared.{Prepared}
use Rattle.doc_update.specs.declared.write.Prepared.TheVariants.{Entry, Unchanged}
use Rattle.doc_update.specs.declared.write.WriteRefusal.{WriteRefusal}
use Rattle.doc_update.proofs.NameRules.{is_among-append, found-names_of, has_twice-append}
use Rattle.doc_update.proofs.OrderLemmas.{found-in_byte_order, IsDocument-in_byte_order, strings_of-as_strings}
use Rattle.doc_update.proofs.ApartLemmas.{among_all}

-- what is wanted of an answer holds of the answer
pub sound-answer : (P : Prepared → Type 0) (result : Result Prepared WriteRefusal) (wanted : Result Prepared Reason) → Answers result wanted → IfOk wanted P → IfOk result P
sound-answer P (Ok x) wanted is holds = subst (λ r. IfOk r P) is holds
sound-answer P (Err e) wanted is holds = tt

pub sound-written : (P : Prepared → Type 0) (op : Op) (before after : Fields) → P Unchanged → P (Entry op (Some after)) → IfOk (written op before after) P
sound-written P op before after same entry =
    elim (same_fields after before) as (λ b. IfOk (if b then Ok Unchanged else stored op after) P) [
      | true ↦ same
      | false ↦ elim (is_too_large after) as (λ b. IfOk (if b then Err DocTooLarge else Ok (Entry op (Some after))) P) [ true ↦ tt | false ↦ entry ]
    ]

IsSome-from : {A : Type 0} (o : Option A) (x : A) → o ≡ Some x → IsSome o
IsSome-from None x is = cc
IsSome-from (Some y) x is = search rules

none_some : {A : Type 0} (x : A) → None ≡ Some x → ⊥
none_some x e = cc

-- what an operator is given has its names apart
pub IsDocument-given : (tree : Tree) → IsSoundValue tree → IsDocument (given tree)
IsDocument-given (Tree.document content) sound = sound.0
IsDocument-given Tree.null sound = tt
IsDocument-given (Tree.int32 n) sound = tt
IsDocument-given (Tree.int64 n) sound = tt
IsDocument-given (Tree.text t) sound = tt
IsDocument-given (Tree.array items) sound = tt
IsDocument-given (Tree.binary s b) sound = tt
IsDocument-given (Tree.object_id b) sound = tt
IsDocument-given (Tree.boolean b) sound = tt
IsDocument-given (Tree.date d) sound = tt
IsDocument-given (Tree.timestamp t) sound = tt

-- ---- a replacement
replace-entry : (ns : List ℕ) (id : Value) (doc before : Fields) (key : IdKey) (own : Option Tree) → found (codes "_id") before ≡ own → key_of (tree_of id) ≡ Some key → option_and_then key_of own ≡ Some key → IsSound (Ok (ns, key)) (Some before) (Entry (ops.Replace ns id (id_first own doc)) (Some (id_first own doc)))
replace-entry ns id doc before key None is named stands = absurd (none_some key stands)
replace-entry ns id doc before key (Some old) is named stands =
    let here : id_key (id_first (Some old) doc) ≡ Some key = stands in
    ((refl, IsSome-from _ key here, named ∙ sym here), ap (place_in ns) named, refl)

replace-named : (ns : List ℕ) (id : Value) (doc before : Fields) (k : Option IdKey) (own : Option Tree) → key_of (tree_of id) ≡ k → IsNamed (replace_checked ns k own) before → IsSound (replace_checked ns k own) (Some before) (Entry (ops.Replace ns id (id_first (found (codes "_id") before) doc)) (Some (id_first (found (codes "_id") before) doc)))
replace-named ns id doc before None own is named = absurd named
replace-named ns id doc before (Some key) None is named = replace-entry ns id doc before key _ refl is named.1
replace-named ns id doc before (Some key) (Some v) is named = by_own (key_of v) named
  where
    by_test : (b : Bool) → IsNamed (if b then Ok (ns, key) else Err ImmutableId) before → IsSound (if b then Ok (ns, key) else Err ImmutableId) (Some before) (Entry (ops.Replace ns id (id_first (found (codes "_id") before) doc)) (Some (id_first (found (codes "_id") before) doc)))
    by_test true named = replace-entry ns id doc before key _ refl is named.1
    by_test false named = absurd named

    by_own : (k : Option IdKey) → IsNamed (same_id ns key k) before → IsSound (same_id ns key k) (Some before) (Entry (ops.Replace ns id (id_first (found (codes "_id") before) doc)) (Some (id_first (found (codes "_id") before) doc)))
    by_own None named = absurd named
    by_own (Some own) named = by_test (same_key own key) named

pub replace-sound : (ns : List ℕ) (id : Value) (doc before : Fields) (place : Result Place Reason) → place ≡ replace_checked ns (key_of (tree_of id)) (found (codes "_id") doc) → IsNamed place before → IfOk (replace_prepared ns id doc before) (λ p. IsSound place (Some before) p)
replace-sound ns id doc before place is named =
    subst (λ r. IsNamed r before → IfOk (replace_prepared ns id doc before) (λ p. IsSound r (Some before) p)) (sym is)
    (λ named. sound-written _ _ before _ tt (replace-named ns id doc before (key_of (tree_of id)) (found (codes "_id") doc) refl named)) named

pub unfound : (q : List ℕ) (fields : Fields) → is_among q (names_of fields) ≡ false → found q fields ≡ None
unfound q fields e = by_option (found q fields) (found-names_of q fields ∙ e)
  where
    by_option : (o : Option Tree) → is_some o ≡ false → o ≡ None
    by_option None e = refl
    by_option (Some v) e = cc

-- ---- names under different operators
among-under : (q operator : List ℕ) (operators : Fields) → is_among q (all_names operators) ≡ false → found q (under operator operators) ≡ None
among-under q operator no_fields none = refl
among-under q operator (field name value rest) none =
    let parts = neither (is_among q (names_of (given value))) (is_among q (all_names rest)) (sym (is_among-append q (names_of (given value)) (all_names rest)) ∙ none) in
    by_test (bytes_eq name operator) (unfound q (given value) parts.0) (among-under q operator rest parts.1)
  where
    neither : (a b : Bool) → (a || b) ≡ false → (a ≡ false) × (b ≡ false)
    neither true b e = cc
    neither false b e = (refl, e)

    by_test : (b : Bool) → found q (given value) ≡ None → found q (under operator rest) ≡ None → found q (fields_under (if b then Some value else found operator rest)) ≡ None
    by_test true here later = here
    by_test false here later = later

-- where no name stands twice, a name of the prefix isn't among those that follow
apart-append : (q : List ℕ) (a b : List (List ℕ)) → has_twice (a ++ b) ≡ false → is_among q a ≡ true → is_among q b ≡ false
apart-append q [] b once here = cc
apart-append q (name ∷ a) b once here =
    let parts = neither (is_among name (a ++ b)) (has_twice (a ++ b)) once in
    let split = is_among-append name a b in
    let later = apart-append q a b parts.1 in
    let front : is_among name (a ++ b) ≡ false = parts.0 in
    by_test (bytes_eq q name) refl later here
  where
    neither : (a b : Bool) → (a || b) ≡ false → (a ≡ false) × (b ≡ false)
    neither true b e = cc
    neither false b e = (refl, e)

    by_test : (t : Bool) → bytes_eq q name ≡ t → (is_among q a ≡ true → is_among q b ≡ false) → (t || is_among q a) ≡ true → is_among q b ≡ false
    by_test true same later here =
        let split = is_among-append name a b in
        let parts = neither (is_among name (a ++ b)) (has_twice (a ++ b)) once in
        ap (λ n. is_among n b) (same_name q name same) ∙ (neither (is_among name a) (is_among name b) (sym split ∙ parts.0)).1
    by_test false same later here = later here

no_more : (a b : List (List ℕ)) → has_twice (a ++ b) ≡ false → has_twice b ≡ false
no_more a b once = by_test (has_twice b) refl
  where
    by_test : (t : Bool) → has_twice b ≡ t → t ≡ false
    by_test true is = let twice = has_twice-append a b is in cc
    by_test false is = refl

-- a name of `$set` isn't one of `$inc`
pub apart-operators : (operators : Fields) (q : List ℕ) → has_twice (all_names operators) ≡ false → is_some (found q (under (codes "$set") operators)) ≡ true → found q (under (codes "$inc") operators) ≡ None
apart-operators no_fields q once there = cc
apart-operators (field name value rest) q once there =
    by_tests (bytes_eq name (codes "$set")) (bytes_eq name (codes "$inc")) refl refl (λ more. apart-operators rest q (no_more (names_of (given value)) (all_names rest) once) more) there
  where
    here_none : is_among q (all_names rest) ≡ true → found q (given value) ≡ None
    here_none tail = unfound q (given value) (by_test (is_among q (names_of (given value))) refl)
      where
        by_test : (t : Bool) → is_among q (names_of (given value)) ≡ t → t ≡ false
        by_test true is = let apart = apart-append q (names_of (given value)) (all_names rest) once is in cc
        by_test false is = refl

    by_tests : (s t : Bool) → bytes_eq name (codes "$set") ≡ s → bytes_eq name (codes "$inc") ≡ t → (is_some (found q (under (codes "$set") rest)) ≡ true → found q (under (codes "$inc") rest) ≡ None) → is_some (found q (fields_under (if s then Some value else found (codes "$set") rest))) ≡ true → found q (fields_under (if t then Some value else found (codes "$inc") rest)) ≡ None
    by_tests true true is also later there = absurd (two (ap (λ n. bytes_eq n (codes "$inc")) (sym (same_name name (codes "$set") is)) ∙ also))
      where
        two : false ≡ true → ⊥
        two e = cc
    by_tests true false is also later there = among-under q (codes "$inc") rest (apart-append q (names_of (given value)) (all_names rest) once (sym (found-names_of q (given value)) ∙ there))
    by_tests false true is also later there = here_none (among_all q (codes "$set") rest there)
    by_tests false false is also later there = later there

-- ---- fields, one list after another
found-join : (a b : Fields) (q : List ℕ) → found q a ≡ None → found q b ≡ None → found q (join a b) ≡ None
found-join no_fields b q here tail = tail
found-join (field name value rest) b q here tail = grind (arith, found-join rest b q)

IsDocument-join : (a b : Fields) → IsDocument a → IsDocument b → ((q : List ℕ) → is_some (found q a) ≡ true → found q b ≡ None) → IsDocument (join a b)
IsDocument-join no_fields b names others apart = others
IsDocument-join (field name value rest) b names others apart = (
  names.0,
  found-join rest b name names.1 (apart name (ap (λ t. is_some (if t then Some value else found name rest)) (same_itself name))),
  IsDocument-join rest b names.2 others (λ q there. apart q (still q (bytes_eq name q) there)),
)
  where
    still : (q : List ℕ) (t : Bool) → is_some (found q rest) ≡ true → is_some (if t then Some value else found q rest) ≡ true
    still q true there = refl
    still q false there = there

found-sums : (doc fields : Fields) (q : List ℕ) → found q fields ≡ None → found q (sums doc fields) ≡ None
found-sums doc no_fields q none = refl
found-sums doc (field name value rest) q none = grind (arith, found-sums doc rest q)

IsDocument-sums : (doc fields : Fields) → IsDocument fields → IsDocument (sums doc fields)
IsDocument-sums doc no_fields names = tt
IsDocument-sums doc (field name value rest) names = (names.0, found-sums doc rest name names.1, IsDocument-sums doc rest names.2)

found-present : (doc fields : Fields) (q : List ℕ) → found q fields ≡ None → found q (present doc fields) ≡ None
found-present doc no_fields q none = refl
found-present doc (field name value rest) q none = grind (arith, found-present doc rest q)

IsDocument-present : (doc fields : Fields) → IsDocument fields → IsDocument (present doc fields)
IsDocument-present doc no_fields names = tt
IsDocument-present doc (field name value rest) names =
    elim (is_some (found name doc)) as (λ b. IsDocument (if b then field name null (present doc rest) else present doc rest)) [
      | true ↦ (names.0, found-present doc rest name names.1, IsDocument-present doc rest names.2)
      | false ↦ IsDocument-present doc rest names.2
    ]

-- what is set has its names apart
pub IsDocument-sets : (operators doc : Fields) → has_twice (all_names operators) ≡ false → IsDocument (under (codes "$set") operators) → IsDocument (under (codes "$inc") operators) → IsDocument (sets_of operators doc)
IsDocument-sets operators doc once set inc =
    IsDocument-in_byte_order _ (IsDocument-join _ _ set (IsDocument-sums doc (under (codes "$inc") operators) inc) (λ q there. found-sums doc (under (codes "$inc") operators) q (apart-operators operators q once there)))

-- ---- an update
AreUnsets-names_of : (fields : Fields) → IsDocument fields → found (codes "_id") fields ≡ None → AreUnsets (as_strings (names_of fields))
AreUnsets-names_of no_fields names none = tt
AreUnsets-names_of (field name value rest) names none =
    let other = by_test (bytes_eq name (codes "_id")) none in (
      names.0,
      other.0,
      ap (is_among name) (strings_of-as_strings (names_of rest)) ∙ sym (found-names_of name rest) ∙ ap is_some names.1,
      AreUnsets-names_of rest names.2 other.1,
    )
  where
    by_test : (t : Bool) → (if t then Some value else found (codes "_id") rest) ≡ None → (t ≡ false) × (found (codes "_id") rest ≡ None)
    by_test true none = cc
    by_test false none = (refl, none)

update-entry : (ns : List ℕ) (id : Value) (operators before : Fields) (key : IdKey) → key_of (tree_of id) ≡ Some key → names_id operators ≡ false → IsDocument (under (codes "$unset") operators) → IsSound (Ok (ns, key)) (Some before) (Entry (ops.Fields ns id (sets_of operators before) (unsets_of operators before)) (Some (updated operators before)))
update-entry ns id operators before key named free unset =
    let no_set = among-under (codes "_id") (codes "$set") operators free in
    let no_inc = among-under (codes "_id") (codes "$inc") operators free in
    let no_unset = among-under (codes "_id") (codes "$unset") operators free in
    let gone = present before (under (codes "$unset") operators) in
    let set = under (codes "$set") operators in
    let added = sums before (under (codes "$inc") operators) in (
      (
        IsSome-from _ key named,
        found-in_byte_order (join set added) (codes "_id") ∙ found-join set added (codes "_id") no_set (found-sums before (under (codes "$inc") operators) (codes "_id") no_inc),
        AreUnsets-names_of (in_byte_order gone) (IsDocument-in_byte_order gone (IsDocument-present before (under (codes "$unset") operators) unset)) (found-in_byte_order gone (codes "_id") ∙ found-present before (under (codes "$unset") operators) (codes "_id") no_unset),
      ),
      ap (place_in ns) named,
      refl,
    )

update-prepared : (P : Prepared → Type 0) (ns : List ℕ) (id : Value) (operators before : Fields) → P Unchanged → P (Entry (ops.Fields ns id (sets_of operators before) (unsets_of operators before)) (Some (updated operators before))) → IfOk (update_prepared ns id operators before) P
update-prepared P ns id operators before same entry =
    elim (has_wrong_side before (under (codes "$inc") operators)) as (λ b. IfOk (if b then Err IncType else if has_overflow before (under (codes "$inc") operators) then Err IncOverflow else written (ops.Fields ns id (sets_of operators before) (unsets_of operators before)) before (updated operators before)) P) [
      | true ↦ tt
      | false ↦ elim (has_overflow before (under (codes "$inc") operators)) as (λ b. IfOk (if b then Err IncOverflow else written (ops.Fields ns id (sets_of operators before) (unsets_of operators before)) before (updated operators before)) P) [
        | true ↦ tt
        | false ↦ sound-written P _ before _ same entry
      ]
    ]

pub update-sound : (ns : List ℕ) (id : Value) (operators before : Fields) (place : Result Place Reason) → place ≡ update_checked ns (key_of (tree_of id)) operators → IsNamed place before → IsDocument (under (codes "$unset") operators) → IfOk (update_prepared ns id operators before) (λ p. IsSound place (Some before) p)
update-sound ns id operators before place is named unset =
    subst (λ r. IsNamed r before → IfOk (update_prepared ns id operators before) (λ p. IsSound r (Some before) p)) (sym is) (by_key (key_of (tree_of id)) refl) named
  where
    by_free : (key : IdKey) → key_of (tree_of id) ≡ Some key → (b : Bool) → names_id operators ≡ b → IsNamed (if b then Err ImmutableId else Ok (ns, key)) before → IfOk (update_prepared ns id operators before) (λ p. IsSound (if b then Err ImmutableId else Ok (ns, key)) (Some before) p)
    by_free key is true free named = absurd named
    by_free key is false free named = update-prepared _ ns id operators before tt (update-entry ns id operators before key is free unset)

    by_broken : (key : IdKey) → key_of (tree_of id) ≡ Some key → (rule : Option ℕ) → IsNamed (by_rule ns key (names_id operators) rule) before → IfOk (update_prepared ns id operators before) (λ p. IsSound (by_rule ns key (names_id operators) rule) (Some before) p)
    by_broken key is (Some rule) named = absurd named
    by_broken key is None named = by_free key is (names_id operators) refl named

    by_key : (k : Option IdKey) → key_of (tree_of id) ≡ k → IsNamed (update_checked ns k operators) before → IfOk (update_prepared ns id operators before) (λ p. IsSound (update_checked ns k operators) (Some before) p)
    by_key None is named = absurd named
    by_key (Some key) is named = by_broken key is (broken_rule operators) named

-- the names of one document are apart, and so are those of one operator
once-names_of : (fields : Fields) → IsDocument fields → has_twice (names_of fields ++ []) ≡ false
once-names_of no_fields names = refl
once-names_of (field name value rest) names =
    ap (λ b. b || has_twice (names_of rest ++ [])) (ap (is_among name) (append-nil (names_of rest)) ∙ sym (found-names_of name rest) ∙ ap is_some names.1) ∙ once-names_of rest names.2

pub once-alone : (operators : Fields) → IsSoundDocument operators → count operators < 2 → has_twice (all_names operators) ≡ false
once-alone no_fields sound few = refl
once-alone (field name value no_fields) sound few = once-names_of (given value) (IsDocument-given value sound.1.1)
once-alone (field name value (field second other rest)) sound few = absurd (omega arith)

pub ruleset alone = (once-alone)
