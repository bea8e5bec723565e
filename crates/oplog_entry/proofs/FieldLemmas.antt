-- How setting fields and removing them interact.
use Rattle.std.proofs.Common.{zero, suc, ◌<◌, ◌+◌, add-one, fold, ◌||◌, ◌≡◌, ℕ, Bool, true, false, if◌then◌else◌, List, [], ◌∷◌, None, Some, refl, sym, ap, ◌∙◌, arith}
use Rattle.std.specs.Str.{bytes_eq}
use Rattle.std.proofs.lemmas.Slice.Eq.{bytes_eq-Decides}
use Rattle.std.proofs.lemmas.Cmp.{nat_list_eq_equiv}
use Rattle.bson_doc.specs.Tree.{Tree, Fields, no_fields, field, Trees, count, fields_from, found, with_first_set, with_set, without, IsDocument}
use Rattle.bson_doc.proofs.DocLemmas.{fields_from-zero}
use Rattle.bson_doc.proofs.NameLemmas.{IsDocument-with_set, IsDocument-without, without-new}
use Rattle.oplog_entry.specs.Step.{with_sets, strings_of, changed}
use Rattle.oplog_entry.specs.Lawful.{is_among}

pub same_name : (x y : List ℕ) → bytes_eq x y ≡ true → x ≡ y
same_name x y e = (bytes_eq-Decides x y).0 e

pub same_itself : (x : List ℕ) → bytes_eq x x ≡ true
same_itself x = (bytes_eq-Decides x x).1 refl

-- of three names, where the first two are one, the third is both or none
pub alike_front : (x y z : List ℕ) → bytes_eq x y ≡ true → bytes_eq x z ≡ bytes_eq y z
alike_front x y z e = ap (λ w. bytes_eq w z) (same_name x y e)

pub alike_back : (x y z : List ℕ) → bytes_eq y z ≡ true → bytes_eq x y ≡ bytes_eq x z
alike_back x y z e = ap (λ w. bytes_eq x w) (same_name y z e)

pub alike_swapped : (x y : List ℕ) → bytes_eq x y ≡ bytes_eq y x
alike_swapped x y = nat_list_eq_equiv.symm x y

found-alike : (d : Fields) (x y : List ℕ) → bytes_eq x y ≡ true → found x d ≡ found y d
found-alike d x y e = ap (λ w. found w d) (same_name x y e)

-- what is found once a field is set
pub found-with_set : (d : Fields) (name q : List ℕ) (value : Tree) → found q (with_set d name value) ≡ (if bytes_eq name q then Some value else found q d)
found-with_set no_fields name q value = refl
found-with_set (field first one rest) name q value = grind (arith, alike_front first name q, alike_back first name q, found-with_set rest name q value)

-- what is found once a name is gone
pub found-without : (d : Fields) (name q : List ℕ) → IsDocument d → found q (without d name) ≡ (if bytes_eq name q then None else found q d)
found-without no_fields name q names = grind arith
found-without (field first one rest) name q names = grind (arith, alike_front first name q, alike_back first name q, found-alike rest first q, found-without rest name q names.2, names.1)

-- a field that is there with this value is set already
pub with_set-same : (d : Fields) (name : List ℕ) (value : Tree) → found name d ≡ Some value → with_set d name value ≡ d
with_set-same no_fields name value is = cc
with_set-same (field first one rest) name value is = grind (arith, same_name first name, with_set-same rest name value)

-- to set a field and then take it out is to take it out
without-with_set-same : (d : Fields) (name : List ℕ) (value : Tree) → without (with_set d name value) name ≡ without d name
without-with_set-same no_fields name value = rw (same_itself name) refl
without-with_set-same (field first one rest) name value = grind (arith, without-with_set-same rest name value)

-- two names that differ don't meet
without-with_set-other : (d : Fields) (name other : List ℕ) (value : Tree) → bytes_eq name other ≡ false → without (with_set d name value) other ≡ with_set (without d other) name value
without-with_set-other no_fields name other value apart = rw apart refl
without-with_set-other (field first one rest) name other value apart =
    grind (arith, alike_front first name other, alike_front first other name, alike_swapped other name, without-with_set-other rest name other value apart)

-- ---- names stay apart
pub IsDocument-with_sets : (d sets : Fields) → IsDocument d → IsDocument sets → IsDocument (with_sets d sets)
IsDocument-with_sets d no_fields names distinct = names
IsDocument-with_sets d (field name value rest) names distinct =
    IsDocument-with_sets (with_set d name value) rest (IsDocument-with_set d name value names distinct.0) distinct.2

pub IsDocument-without_all : (d : Fields) (gone : List (List ℕ)) → IsDocument d → IsDocument (fold without d gone)
IsDocument-without_all d [] names = names
IsDocument-without_all d (name ∷ gone) names = IsDocument-without_all (without d name) gone (IsDocument-without d name names)

-- the next field to set is the one at a place
next_set : (out sets : Fields) (i : ℕ) → i < count sets → with_sets (with_first_set out (fields_from i sets)) (fields_from (suc i) sets) ≡ with_sets out (fields_from i sets)
next_set out no_fields i within = absurd (omega arith)
next_set out (field name value rest) zero within = ap (with_sets (with_set out name value)) (fields_from-zero rest)
next_set out (field name value rest) (suc i) within = next_set out rest i (omega arith)

pub with_sets-next : (out sets : Fields) (i : ℕ) → i < count sets → with_sets (with_first_set out (fields_from i sets)) (fields_from (i + 1) sets) ≡ with_sets out (fields_from i sets)
with_sets-next out sets i within = rw (add-one i) (next_set out sets i within)

-- ---- many at once
-- the fields but those of some names
abbrev pub but : List (List ℕ) → Fields → Fields
but gone no_fields = no_fields
but gone (field name value rest) = if is_among name gone then but gone rest else field name value (but gone rest)

-- to take names out after a field was set: it is taken out, or set then
without_all-with_set : (gone : List (List ℕ)) (d : Fields) (name : List ℕ) (value : Tree) → fold without (with_set d name value) gone ≡ (if is_among name gone then fold without d gone else with_set (fold without d gone) name value)
without_all-with_set [] d name value = refl
without_all-with_set (first ∷ gone) d name value =
    elim (bytes_eq name first) as (λ b. bytes_eq name first ≡ b → fold without (without (with_set d name value) first) gone ≡ (if (b || is_among name gone) then fold without (without d first) gone else with_set (fold without (without d first) gone) name value)) [
      | true ↦ λ e. ap (λ n. fold without (without (with_set d name value) n) gone) (sym (same_name name first e)) ∙ ap (λ f. fold without f gone) (without-with_set-same d name value) ∙ ap (λ n. fold without (without d n) gone) (same_name name first e)
      | false ↦ λ e. ap (λ f. fold without f gone) (without-with_set-other d name first value e) ∙ without_all-with_set gone (without d first) name value
    ] refl

pub without_all-with_sets : (gone : List (List ℕ)) (d sets : Fields) → fold without (with_sets d sets) gone ≡ with_sets (fold without d gone) (but gone sets)
without_all-with_sets gone d no_fields = refl
without_all-with_sets gone d (field name value rest) =
    without_all-with_sets gone (with_set d name value) rest ∙ ap (λ f. with_sets f (but gone rest)) (without_all-with_set gone d name value) ∙ picked (is_among name gone)
  where
    picked : (b : Bool) → with_sets (if b then fold without d gone else with_set (fold without d gone) name value) (but gone rest) ≡ with_sets (fold without d gone) (if b then but gone rest else field name value (but gone rest))
    picked true = refl
    picked false = refl

found-without_all : (gone : List (List ℕ)) (d : Fields) (q : List ℕ) → IsDocument d → found q (fold without d gone) ≡ (if is_among q gone then None else found q d)
found-without_all [] d q names = refl
found-without_all (name ∷ gone) d q names =
    grind (arith, alike_swapped name q, found-without d name q names, found-without_all gone (without d name) q (IsDocument-without d name names))

-- names that aren't there are gone already
without_all-none : (gone : List (List ℕ)) (d : Fields) → ((q : List ℕ) → is_among q gone ≡ true → found q d ≡ None) → fold without d gone ≡ d
without_all-none [] d none = refl
without_all-none (name ∷ gone) d none =
    let here : found name d ≡ None = none name (ap (λ b. b || is_among name gone) (same_itself name)) in
    ap (λ f. fold without f gone) (without-new d name here) ∙ without_all-none gone d (λ q e. none q (ap (λ b. bytes_eq q name || b) e ∙ or_true (bytes_eq q name)))
  where
    or_true : (b : Bool) → (b || true) ≡ true
    or_true true = refl
    or_true false = refl

pub without_all-twice : (gone : List (List ℕ)) (d : Fields) → IsDocument d → fold without (fold without d gone) gone ≡ fold without d gone
without_all-twice gone d names =
    without_all-none gone (fold without d gone) (λ q e. found-without_all gone d q names ∙ ap (λ b. if b then None else found q d) e)

-- a name that isn't set is found as before
found-with_sets : (sets d : Fields) (q : List ℕ) → found q sets ≡ None → found q (with_sets d sets) ≡ found q d
found-with_sets no_fields d q none = refl
found-with_sets (field name value rest) d q none = grind (arith, found-with_sets rest (with_set d name value) q, found-with_set d name q value)

-- each of these fields is there with its value
abbrev pub AllSet : Fields → Fields → Type 0
AllSet no_fields d = Unit {0}
AllSet (field name value rest) d = (found name d ≡ Some value) × AllSet rest d

with_sets-same : (sets d : Fields) → AllSet sets d → with_sets d sets ≡ d
with_sets-same no_fields d all = refl
with_sets-same (field name value rest) d all = ap (λ f. with_sets f rest) (with_set-same d name value all.0) ∙ with_sets-same rest d all.1

pub AllSet-with_sets : (sets d : Fields) → IsDocument sets → AllSet sets (with_sets d sets)
AllSet-with_sets no_fields d distinct = tt
AllSet-with_sets (field name value rest) d distinct = (
  found-with_sets rest (with_set d name value) name distinct.1 ∙ found-with_set d name name value ∙ ap (λ b. if b then Some value else found name d) (same_itself name),
  AllSet-with_sets rest (with_set d name value) distinct.2,
)

pub with_sets-twice : (sets d : Fields) → IsDocument sets → with_sets (with_sets d sets) sets ≡ with_sets d sets
with_sets-twice sets d distinct = with_sets-same sets (with_sets d sets) (AllSet-with_sets sets d distinct)

found-but : (gone : List (List ℕ)) (d : Fields) (q : List ℕ) → found q d ≡ None → found q (but gone d) ≡ None
found-but gone no_fields q none = refl
found-but gone (field name value rest) q none = grind (arith, found-but gone rest q)

IsDocument-but : (gone : List (List ℕ)) (d : Fields) → IsDocument d → IsDocument (but gone d)
IsDocument-but gone no_fields names = tt
IsDocument-but gone (field name value rest) names =
    elim (is_among name gone) as (λ b. IsDocument (if b then but gone rest else field name value (but gone rest))) [
      | true ↦ IsDocument-but gone rest names.2
      | false ↦ (names.0, found-but gone rest name names.1, IsDocument-but gone rest names.2)
    ]

-- to change a document twice in one way is to change it once
pub changed-twice : (d sets : Fields) (unsets : Trees) → IsDocument d → IsDocument sets → changed (changed d sets unsets) sets unsets ≡ changed d sets unsets
changed-twice d sets unsets names distinct =
    let gone = strings_of unsets in
    let once : changed d sets unsets ≡ with_sets (fold without d gone) (but gone sets) = without_all-with_sets gone d sets in
    without_all-with_sets gone (changed d sets unsets) sets
    ∙ ap (λ f. with_sets f (but gone sets)) (without_all-twice gone (with_sets d sets) (IsDocument-with_sets d sets names distinct))
    ∙ ap (λ f. with_sets f (but gone sets)) once
    ∙ with_sets-twice (but gone sets) (fold without d gone) (IsDocument-but gone sets distinct)
    ∙ sym once
