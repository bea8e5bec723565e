-- Different operators of an update are given distinct names.
use Rattle.std.proofs.Common.{◌≡◌, ◌∙◌, ℕ, Bool, true, false, ◌||◌, List, [], ◌∷◌, ◌++◌, Some, is_some, refl, sym, ap}
use Rattle.std.specs.Prelude.{cond}
use Rattle.std.specs.Str.{bytes_eq}
use Rattle.std.proofs.lemmas.Bool.{or_left, or_right}
use Rattle.bson_doc.specs.Tree.{Tree, Fields, no_fields, field, found, IsDocument}
use Rattle.bson_doc.specs.Sound.{IsSoundValue, AreSoundFields}
use Rattle.oplog_entry.specs.Lawful.{is_among}
use Rattle.oplog_entry.proofs.FieldLemmas.{same_name}
use Rattle.doc_update.specs.Check.{names_of, all_names, given, has_twice}
use Rattle.doc_update.specs.Effect.{under, fields_under}
use Rattle.doc_update.proofs.NameRules.{is_among-append, found-names_of, has_twice-append}

-- a name that an operator is given is among all names
pub among_all : (q operator : List ℕ) (operators : Fields) → is_some (found q (under operator operators)) ≡ true → is_among q (all_names operators) ≡ true
among_all q operator no_fields there = cc there
among_all q operator (field name value rest) there =
    is_among-append q (names_of (given value)) (all_names rest) ∙ by_test (bytes_eq name operator) there (λ later. among_all q operator rest later)
  where
    by_test : (b : Bool) → is_some (found q (fields_under (cond b (Some value) (found operator rest)))) ≡ true → (is_some (found q (under operator rest)) ≡ true → is_among q (all_names rest) ≡ true)
        → (is_among q (names_of (given value)) || is_among q (all_names rest)) ≡ true
    by_test true there again = or_left (is_among q (names_of (given value))) (is_among q (all_names rest)) (sym (found-names_of q (given value)) ∙ there)
    by_test false there again = or_right (is_among q (names_of (given value))) (is_among q (all_names rest)) (again there)

-- a name of two lists stands twice
twice_across : (q : List ℕ) (a b : List (List ℕ)) → is_among q a ≡ true → is_among q b ≡ true → has_twice (a ++ b) ≡ true
twice_across q [] b here there = cc here
twice_across q (name ∷ a) b here there = by_test (bytes_eq q name) refl here (λ later. twice_across q a b later there)
  where
    by_test : (t : Bool) → bytes_eq q name ≡ t → (t || is_among q a) ≡ true → (is_among q a ≡ true → has_twice (a ++ b) ≡ true) → (is_among name (a ++ b) || has_twice (a ++ b)) ≡ true
    by_test true same here again =
        or_left (is_among name (a ++ b)) (has_twice (a ++ b))
        (is_among-append name a b ∙ or_right (is_among name a) (is_among name b) (ap (λ n. is_among n b) (sym (same_name q name same)) ∙ there))
    by_test false apart here again = or_right (is_among name (a ++ b)) (has_twice (a ++ b)) (again here)

-- a name that two operators are given stands twice
pub twice-operators : (one two : List ℕ) → bytes_eq one two ≡ false → (operators : Fields) (q : List ℕ)
    → is_some (found q (under one operators)) ≡ true → is_some (found q (under two operators)) ≡ true → has_twice (all_names operators) ≡ true
twice-operators one two apart no_fields q here there = cc here
twice-operators one two apart (field name value rest) q here there =
    by_tests (bytes_eq name one) (bytes_eq name two) refl refl here there (λ one_has two_has. twice-operators one two apart rest q one_has two_has)
  where
    by_tests : (s t : Bool) → bytes_eq name one ≡ s → bytes_eq name two ≡ t
        → is_some (found q (fields_under (cond s (Some value) (found one rest)))) ≡ true → is_some (found q (fields_under (cond t (Some value) (found two rest)))) ≡ true
        → (is_some (found q (under one rest)) ≡ true → is_some (found q (under two rest)) ≡ true → has_twice (all_names rest) ≡ true)
        → has_twice (names_of (given value) ++ all_names rest) ≡ true
    by_tests true true is also here there again = absurd (cc (apart, ap (λ n. bytes_eq n two) (sym (same_name name one is)) ∙ also))
    by_tests true false is also here there again = twice_across q (names_of (given value)) (all_names rest) (sym (found-names_of q (given value)) ∙ here) (among_all q two rest there)
    by_tests false true is also here there again = twice_across q (names_of (given value)) (all_names rest) (sym (found-names_of q (given value)) ∙ there) (among_all q one rest here)
    by_tests false false is also here there again = has_twice-append (names_of (given value)) (all_names rest) (again here there)

-- what an operator is given has its names apart
pub IsDocument-under : (operator : List ℕ) (operators : Fields) → AreSoundFields operators → IsDocument (under operator operators)
IsDocument-under operator no_fields sound = tt
IsDocument-under operator (field name value rest) sound = by_test (bytes_eq name operator) (IsDocument-under operator rest sound.2)
  where
    given_document : (tree : Tree) → IsSoundValue tree → IsDocument (given tree)
    given_document (Tree.document content) sound = sound.0
    given_document Tree.null sound = tt
    given_document (Tree.int32 n) sound = tt
    given_document (Tree.int64 n) sound = tt
    given_document (Tree.text t) sound = tt
    given_document (Tree.array items) sound = tt
    given_document (Tree.binary s b) sound = tt
    given_document (Tree.object_id b) sound = tt
    given_document (Tree.boolean b) sound = tt
    given_document (Tree.date d) sound = tt
    given_document (Tree.timestamp t) sound = tt

    by_test : (b : Bool) → IsDocument (under operator rest) → IsDocument (fields_under (cond b (Some value) (found operator rest)))
    by_test true later = given_document value sound.1
    by_test false later = later
