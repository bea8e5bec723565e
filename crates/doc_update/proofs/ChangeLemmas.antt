-- What an update leaves: it begins as the document did, and has each field that was set.
use Rattle.std.proofs.Common.{◌≡◌, ◌≤◌, ◌+◌, ◌∙◌, ◌⊎◌, inl, inr, ℕ, length, Bool, true, false, ◌||◌, List, [], ◌∷◌, fold, Option, None, Some, is_some, refl, sym, ap, arith, codes}
use Rattle.std.specs.Prelude.{cond}
use Rattle.std.specs.Str.{bytes_eq}
use Rattle.bson_doc.specs.Tree.{Tree, null, text, Fields, no_fields, field, Trees, no_items, item, found, with_set, without, IsDocument}
use Rattle.bson_doc.specs.Length.{fields_length}
use Rattle.oplog_entry.specs.Lawful.{is_among, AreUnsets}
use Rattle.oplog_entry.specs.Step.{with_sets, strings_of, changed}
use Rattle.oplog_entry.specs.Walk.{join}
use Rattle.oplog_entry.proofs.FieldLemmas.{alike_swapped, same_name, same_itself, AllSet, AllSet-with_sets}
use Rattle.doc_update.specs.Check.{names_of, all_names, has_twice}
use Rattle.doc_update.specs.Effect.{under, present, sets_of, unsets_of, updated}
use Rattle.doc_update.specs.Increment.{sums, added}
use Rattle.doc_update.specs.Ordered.{in_byte_order, as_strings}
use Rattle.doc_update.proofs.ApartLemmas.{twice-operators}
use Rattle.doc_update.proofs.LengthLemmas.{found-without-other, names_length, AreNamedIn, names-in}
use Rattle.doc_update.proofs.NameRules.{found-names_of}
use Rattle.doc_update.proofs.OrderLemmas.{found-in_byte_order, strings_of-as_strings}

-- ---- the first field stays

sets-after : (sets : Fields) (name : List ℕ) (value : Tree) (rest : Fields) → found name sets ≡ None → with_sets (field name value rest) sets ≡ field name value (with_sets rest sets)
sets-after no_fields name value rest none = refl
sets-after (field first one more) name value rest none = by_test (bytes_eq first name) refl none (λ next later. sets-after more name value next later)
  where
    by_test : (b : Bool) → bytes_eq first name ≡ b → cond b (Some one) (found name more) ≡ None
        → ((next : Fields) → found name more ≡ None → with_sets (field name value next) more ≡ field name value (with_sets next more))
        → with_sets (with_set (field name value rest) first one) more ≡ field name value (with_sets (with_set rest first one) more)
    by_test true same none again = cc none
    by_test false apart none again =
        ap (λ b. with_sets (cond b (field name one rest) (field name value (with_set rest first one))) more) (alike_swapped name first ∙ apart) ∙ again (with_set rest first one) none

gone-after : (gone : List (List ℕ)) (name : List ℕ) (value : Tree) (rest : Fields) → is_among name gone ≡ false → fold without (field name value rest) gone ≡ field name value (fold without rest gone)
gone-after [] name value rest none = refl
gone-after (first ∷ gone) name value rest none = by_test (bytes_eq name first) refl none (λ next later. gone-after gone name value next later)
  where
    by_test : (b : Bool) → bytes_eq name first ≡ b → (b || is_among name gone) ≡ false
        → ((next : Fields) → is_among name gone ≡ false → fold without (field name value next) gone ≡ field name value (fold without next gone))
        → fold without (without (field name value rest) first) gone ≡ field name value (fold without (without rest first) gone)
    by_test true same none again = cc none
    by_test false apart none again =
        ap (λ b. fold without (cond b rest (field name value (without rest first))) gone) apart ∙ again (without rest first) none

-- names that are taken out aren't `_id`
pub id_stays : (unsets : Trees) → AreUnsets unsets → is_among (codes "_id") (strings_of unsets) ≡ false
id_stays no_items lawful = refl
id_stays (item (text name) rest) lawful = ap (λ b. b || is_among (codes "_id") (strings_of rest)) (alike_swapped (codes "_id") name ∙ lawful.1) ∙ id_stays rest lawful.3
id_stays (item Tree.null rest) lawful = absurd lawful
id_stays (item (Tree.int32 n) rest) lawful = absurd lawful
id_stays (item (Tree.int64 n) rest) lawful = absurd lawful
id_stays (item (Tree.document d) rest) lawful = absurd lawful
id_stays (item (Tree.array a) rest) lawful = absurd lawful
id_stays (item (Tree.binary s b) rest) lawful = absurd lawful
id_stays (item (Tree.object_id b) rest) lawful = absurd lawful
id_stays (item (Tree.boolean b) rest) lawful = absurd lawful
id_stays (item (Tree.date d) rest) lawful = absurd lawful
id_stays (item (Tree.timestamp t) rest) lawful = absurd lawful

-- a field that is neither set nor taken out stays in front
pub changed-after : (name : List ℕ) (value : Tree) (rest sets : Fields) (unsets : Trees) → found name sets ≡ None → is_among name (strings_of unsets) ≡ false
    → changed (field name value rest) sets unsets ≡ field name value (changed rest sets unsets)
changed-after name value rest sets unsets unset stays =
    ap (λ d. fold without d (strings_of unsets)) (sets-after sets name value rest unset) ∙ gone-after (strings_of unsets) name value (with_sets rest sets) stays

-- ---- what is set is there

found-kept : (gone : List (List ℕ)) (d : Fields) (q : List ℕ) → is_among q gone ≡ false → found q (fold without d gone) ≡ found q d
found-kept [] d q none = refl
found-kept (first ∷ gone) d q none = by_test (bytes_eq q first) refl none (λ next later. found-kept gone next q later)
  where
    by_test : (b : Bool) → bytes_eq q first ≡ b → (b || is_among q gone) ≡ false → ((next : Fields) → is_among q gone ≡ false → found q (fold without next gone) ≡ found q next)
        → found q (fold without (without d first) gone) ≡ found q d
    by_test true same none again = cc none
    by_test false apart none again = again (without d first) none ∙ found-without-other d first q (alike_swapped first q ∙ apart)

found-more : (first q : List ℕ) (one : Tree) (rest : Fields) → is_some (found q rest) ≡ true → is_some (found q (field first one rest)) ≡ true
found-more first q one rest there = by_test (bytes_eq first q)
  where
    by_test : (b : Bool) → is_some (cond b (Some one) (found q rest)) ≡ true
    by_test true = refl
    by_test false = there

found-here : (name : List ℕ) (value : Tree) (rest : Fields) → is_some (found name (field name value rest)) ≡ true
found-here name value rest = ap (λ b. is_some (cond b (Some value) (found name rest))) (same_itself name)

all_kept : (sets d e : Fields) → AllSet sets d → ((q : List ℕ) → is_some (found q sets) ≡ true → found q e ≡ found q d) → AllSet sets e
all_kept no_fields d e all same = tt
all_kept (field name value rest) d e all same =
    (same name (found-here name value rest) ∙ all.0, all_kept rest d e all.1 (λ q there. same q (found-more name q value rest there)))

pub named-from : (a d : Fields) → ((q : List ℕ) → is_some (found q a) ≡ true → is_some (found q d) ≡ true) → AreNamedIn a d
named-from no_fields d each = tt
named-from (field name value rest) d each = (each name (found-here name value rest), named-from rest d (λ q there. each q (found-more name q value rest there)))

in_join : (a b : Fields) (q : List ℕ) → is_some (found q (join a b)) ≡ true → (is_some (found q a) ≡ true) ⊎ (is_some (found q b) ≡ true)
in_join no_fields b q there = inr there
in_join (field name value rest) b q there = by_test (bytes_eq name q) there (λ later. in_join rest b q later)
  where
    by_test : (t : Bool) → is_some (cond t (Some value) (found q (join rest b))) ≡ true → (is_some (found q (join rest b)) ≡ true → (is_some (found q rest) ≡ true) ⊎ (is_some (found q b) ≡ true))
        → (is_some (cond t (Some value) (found q rest)) ≡ true) ⊎ (is_some (found q b) ≡ true)
    by_test true there again = inl refl
    by_test false there again = again there

in_sums : (doc fields : Fields) (q : List ℕ) → is_some (found q (sums doc fields)) ≡ true → is_some (found q fields) ≡ true
in_sums doc no_fields q there = there
in_sums doc (field name value rest) q there = by_test (bytes_eq name q) there (λ later. in_sums doc rest q later)
  where
    by_test : (t : Bool) → is_some (cond t (Some (added (found name doc) value)) (found q (sums doc rest))) ≡ true → (is_some (found q (sums doc rest)) ≡ true → is_some (found q rest) ≡ true)
        → is_some (cond t (Some value) (found q rest)) ≡ true
    by_test true there again = refl
    by_test false there again = again there

-- what is present of some fields is a field of both
in_present : (doc fields : Fields) (q : List ℕ) → is_some (found q (present doc fields)) ≡ true → (is_some (found q fields) ≡ true) × (is_some (found q doc) ≡ true)
in_present doc no_fields q there = cc there
in_present doc (field name value rest) q there = by_presence (is_some (found name doc)) refl there (λ later. in_present doc rest q later)
  where
    here : (t : Bool) → bytes_eq name q ≡ t → is_some (found name doc) ≡ true → is_some (cond t (Some null) (found q (present doc rest))) ≡ true
        → (is_some (found q (present doc rest)) ≡ true → (is_some (found q rest) ≡ true) × (is_some (found q doc) ≡ true))
        → (is_some (cond t (Some value) (found q rest)) ≡ true) × (is_some (found q doc) ≡ true)
    here true same is there again = (refl, ap (λ n. is_some (found n doc)) (sym (same_name name q same)) ∙ is)
    here false apart is there again = again there

    by_presence : (b : Bool) → is_some (found name doc) ≡ b → is_some (found q (cond b (field name null (present doc rest)) (present doc rest))) ≡ true
        → (is_some (found q (present doc rest)) ≡ true → (is_some (found q rest) ≡ true) × (is_some (found q doc) ≡ true))
        → (is_some (found q (field name value rest)) ≡ true) × (is_some (found q doc) ≡ true)
    by_presence true is there again = here (bytes_eq name q) refl is there again
    by_presence false is there again =
        let both : (is_some (found q rest) ≡ true) × (is_some (found q doc) ≡ true) = again there in (found-more name q value rest both.0, both.1)

-- an operator's names among those that are set, or taken out
in_sets : (operators doc : Fields) (q : List ℕ) → is_some (found q (sets_of operators doc)) ≡ true
    → (is_some (found q (under (codes "$set") operators)) ≡ true) ⊎ (is_some (found q (under (codes "$inc") operators)) ≡ true)
in_sets operators doc q there =
    elim (in_join (under (codes "$set") operators) (sums doc (under (codes "$inc") operators)) q (ap is_some (sym (found-in_byte_order (join (under (codes "$set") operators) (sums doc (under (codes "$inc") operators))) q)) ∙ there)) [
      | inl set ↦ inl set
      | inr summed ↦ inr (in_sums doc (under (codes "$inc") operators) q summed)
    ]

among_gone : (operators doc : Fields) (q : List ℕ) → is_among q (strings_of (unsets_of operators doc)) ≡ is_some (found q (present doc (under (codes "$unset") operators)))
among_gone operators doc q =
    ap (is_among q) (strings_of-as_strings (names_of (in_byte_order (present doc (under (codes "$unset") operators)))))
    ∙ sym (found-names_of q (in_byte_order (present doc (under (codes "$unset") operators))))
    ∙ ap is_some (found-in_byte_order (present doc (under (codes "$unset") operators)) q)

-- what is set isn't taken out
set_stays : (operators doc : Fields) (q : List ℕ) → has_twice (all_names operators) ≡ false → is_some (found q (sets_of operators doc)) ≡ true → is_among q (strings_of (unsets_of operators doc)) ≡ false
set_stays operators doc q once there = by_test (is_among q (strings_of (unsets_of operators doc))) refl
  where
    not_both : (a : Bool) → a ≡ false → a ≡ true → ⊥
    not_both a one two = cc (one, two)

    by_test : (b : Bool) → is_among q (strings_of (unsets_of operators doc)) ≡ b → b ≡ false
    by_test false is = refl
    by_test true is =
        let gone : is_some (found q (under (codes "$unset") operators)) ≡ true =
        (in_present doc (under (codes "$unset") operators) q (sym (among_gone operators doc q) ∙ is)).0 in
        absurd (not_both (has_twice (all_names operators)) once (elim (in_sets operators doc q there) [
          | inl set ↦ twice-operators (codes "$set") (codes "$unset") refl operators q set gone
          | inr inc ↦ twice-operators (codes "$inc") (codes "$unset") refl operators q inc gone
        ]))

-- each field that an update sets is in the document that it leaves
pub sets-in : (operators doc : Fields) → has_twice (all_names operators) ≡ false → IsDocument (sets_of operators doc) → AllSet (sets_of operators doc) (updated operators doc)
sets-in operators doc once apart =
    all_kept (sets_of operators doc) (with_sets doc (sets_of operators doc)) (updated operators doc) (AllSet-with_sets (sets_of operators doc) doc apart)
    (λ q there. found-kept (strings_of (unsets_of operators doc)) (with_sets doc (sets_of operators doc)) q (set_stays operators doc q once there))

-- ---- what is taken out

-- the bytes of names without their values
abbrev pub strings_length : Trees → ℕ
strings_length no_items = 0
strings_length (item (text name) rest) = 2 + length name + strings_length rest
strings_length (item _ rest) = strings_length rest

strings-length : (fields : Fields) → strings_length (as_strings (names_of fields)) ≡ names_length fields
strings-length no_fields = refl
strings-length (field name value rest) = ap (λ n. 2 + length name + n) (strings-length rest)

-- unsets keep their names apart
apart-unsets : (fields : Fields) → AreUnsets (as_strings (names_of fields)) → IsDocument fields
apart-unsets no_fields lawful = tt
apart-unsets (field name value rest) lawful =
    (lawful.0, none (found name rest) (found-names_of name rest ∙ ap (is_among name) (sym (strings_of-as_strings (names_of rest))) ∙ lawful.2), apart-unsets rest lawful.3)
  where
    none : (o : Option Tree) → is_some o ≡ false → o ≡ None
    none None is = refl
    none (Some one) is = cc is

-- names that are taken out are those of fields after the first one, where that is `_id`
pub gone-within : (operators : Fields) (id : Tree) (rest : Fields) → AreUnsets (unsets_of operators (field (codes "_id") id rest)) → strings_length (unsets_of operators (field (codes "_id") id rest)) ≤ fields_length rest
gone-within operators id rest lawful =
    let within : names_length gone ≤ fields_length rest = names-in gone rest (apart-unsets gone lawful) (named-from gone rest (λ q there. after q (bytes_eq (codes "_id") q) refl (among q there) (in_present doc (under (codes "$unset") operators) q (order q there)).1)) in
    let same : strings_length (as_strings (names_of gone)) ≡ names_length gone = strings-length gone in
    omega (arith, within, same)
  where
    doc : Fields
    doc = field (codes "_id") id rest

    gone : Fields
    gone = in_byte_order (present (field (codes "_id") id rest) (under (codes "$unset") operators))

    order : (q : List ℕ) → is_some (found q gone) ≡ true → is_some (found q (present (field (codes "_id") id rest) (under (codes "$unset") operators))) ≡ true
    order q there = ap is_some (sym (found-in_byte_order (present (field (codes "_id") id rest) (under (codes "$unset") operators)) q)) ∙ there

    among : (q : List ℕ) → is_some (found q gone) ≡ true → is_among q (strings_of (unsets_of operators (field (codes "_id") id rest))) ≡ true
    among q there = among_gone operators (field (codes "_id") id rest) q ∙ order q there

    after : (q : List ℕ) (b : Bool) → bytes_eq (codes "_id") q ≡ b → is_among q (strings_of (unsets_of operators (field (codes "_id") id rest))) ≡ true
        → is_some (found q (field (codes "_id") id rest)) ≡ true → is_some (found q rest) ≡ true
    after q true same taken there =
        absurd (cc (ap (λ n. is_among n (strings_of (unsets_of operators (field (codes "_id") id rest)))) (same_name (codes "_id") q same) ∙ taken, id_stays (unsets_of operators (field (codes "_id") id rest)) lawful))
    after q false apart taken there = ap (λ b. is_some (cond b (Some id) (found q rest))) (sym apart) ∙ there
