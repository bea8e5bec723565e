-- A changed document, field by field: what stays with its new values, and then what is new.
use Rattle.std.proofs.Common.{fold, ◌||◌, ◌≡◌, ℕ, Bool, true, false, cond, if◌then◌else◌, List, [], ◌∷◌, Option, None, Some, Contains, is_some, refl, sym, ap, subst, ◌∙◌, arith, unwrap_or}
use Rattle.std.specs.Str.{bytes_eq}
use Rattle.bson_doc.specs.Tree.{Tree, Fields, no_fields, field, Trees, found, with_field, with_set, without, IsDocument}
use Rattle.oplog_entry.specs.Walk.{join, staying, fresh}
use Rattle.oplog_entry.specs.Step.{with_sets, strings_of, changed}
use Rattle.oplog_entry.specs.Lawful.{is_among}
use Rattle.bson_doc.proofs.NameLemmas.{IsDocument-with_set, IsDocument-without}
use Rattle.oplog_entry.proofs.FieldLemmas.{same_name, alike_swapped, found-with_set, but, IsDocument-with_sets, IsDocument-without_all}

join-assoc : (a b c : Fields) → join (join a b) c ≡ join a (join b c)
join-assoc no_fields b c = refl
join-assoc (field name value rest) b c = ap (λ f. field name value f) (join-assoc rest b c)

pub join-nothing : (a : Fields) → join a no_fields ≡ a
join-nothing no_fields = refl
join-nothing (field name value rest) = ap (λ f. field name value f) (join-nothing rest)

-- one field more, and then the others
pub join-with_field : (a : Fields) (name : List ℕ) (value : Tree) (later : Fields) → join (with_field a name value) later ≡ join a (field name value later)
join-with_field no_fields name value later = refl
join-with_field (field first one rest) name value later = ap (λ f. field first one f) (join-with_field rest name value later)

-- the next field of a document has a clean name that is new
pub next_name : (a : Fields) (name : List ℕ) (value : Tree) (later : Fields) → IsDocument (join a (field name value later)) → (¬ Contains name 0) × (found name a ≡ None)
next_name no_fields name value later names = (names.0, refl)
next_name (field first one rest) name value later names =
    let others = next_name rest name value later names.2 in
    let apart : bytes_eq first name ≡ false = apart_from rest names.1 in
    (others.0, ap (λ b. if b then Some one else found name rest) apart ∙ others.1)
  where
    by_test : (b : Bool) (o : Option Tree) → (if b then Some value else o) ≡ None → b ≡ false
    by_test true o none = cc
    by_test false o none = refl

    apart_from : (fs : Fields) → found first (join fs (field name value later)) ≡ None → bytes_eq first name ≡ false
    apart_from no_fields none = alike_swapped first name ∙ by_test (bytes_eq name first) (found first later) none
    apart_from (field second two fs) none = grind (arith, apart_from fs)

pub staying-nothing_set : (gone : List (List ℕ)) (d : Fields) → staying gone no_fields d ≡ but gone d
staying-nothing_set gone no_fields = refl
staying-nothing_set gone (field name value rest) = ap (λ f. if is_among name gone then f else field name value f) (staying-nothing_set gone rest)

but-none : (d : Fields) → but [] d ≡ d
but-none no_fields = refl
but-none (field name value rest) = ap (λ f. field name value f) (but-none rest)

-- a name that isn't there is left out already
but-cons-none : (gone : List (List ℕ)) (name : List ℕ) (d : Fields) → found name d ≡ None → but (name ∷ gone) d ≡ but gone d
but-cons-none gone name no_fields none = refl
but-cons-none gone name (field first one rest) none = grind (arith, but-cons-none gone name rest)

but-cons : (gone : List (List ℕ)) (name : List ℕ) (d : Fields) → IsDocument d → but gone (without d name) ≡ but (name ∷ gone) d
but-cons gone name no_fields names = refl
but-cons gone name (field first one rest) names =
    elim (bytes_eq first name) as (λ b. bytes_eq first name ≡ b → but gone (cond b rest (field first one (without rest name))) ≡ (if (b || is_among first gone) then but (name ∷ gone) rest else field first one (but (name ∷ gone) rest))) [
      | true ↦ λ e. sym (but-cons-none gone name rest (ap (λ n. found n rest) (sym (same_name first name e)) ∙ names.1))
      | false ↦ λ e. ap (λ f. if is_among first gone then f else field first one f) (but-cons gone name rest names.2)
    ] refl

-- to take names out one after another is to leave them out
pub without_all-but : (gone : List (List ℕ)) (d : Fields) → IsDocument d → fold without d gone ≡ but gone d
without_all-but [] d names = sym (but-none d)
without_all-but (name ∷ gone) d names = without_all-but gone (without d name) (IsDocument-without d name names) ∙ but-cons gone name d names

-- a value more that is set, of a name that isn't there
staying-absent : (gone : List (List ℕ)) (sets d : Fields) (name : List ℕ) (value : Tree) → found name d ≡ None → staying gone (field name value sets) d ≡ staying gone sets d
staying-absent gone sets no_fields name value none = refl
staying-absent gone sets (field first one rest) name value none = grind (arith, alike_swapped first name, staying-absent gone sets rest name value)

-- of a name that is there
staying-present : (gone : List (List ℕ)) (sets d : Fields) (name : List ℕ) (value : Tree) → IsDocument d → is_some (found name d) ≡ true → found name sets ≡ None → staying gone sets (with_set d name value) ≡ staying gone (field name value sets) d
staying-present gone sets no_fields name value names there none = cc
staying-present gone sets (field first one rest) name value names there none =
    elim (bytes_eq first name) as (λ b. bytes_eq first name ≡ b → is_some (cond b (Some one) (found name rest)) ≡ true → staying gone sets (cond b (field first value rest) (field first one (with_set rest name value))) ≡ (if is_among first gone then staying gone (field name value sets) rest else field first (unwrap_or (if bytes_eq name first then Some value else found first sets) one) (staying gone (field name value sets) rest))) [
      | true ↦ λ e _.
          let absent : found name rest ≡ None = ap (λ n. found n rest) (sym (same_name first name e)) ∙ names.1 in
          let unset : found first sets ≡ None = ap (λ n. found n sets) (same_name first name e) ∙ none in
          let later = staying-absent gone sets rest name value absent in
          let here : bytes_eq name first ≡ true = alike_swapped name first ∙ e in
          grind arith
      | false ↦ λ e more.
          let later = staying-present gone sets rest name value names.2 more none in
          let here : bytes_eq name first ≡ false = alike_swapped name first ∙ e in
          grind arith
    ] refl there

-- a field more at the end
staying-new : (gone : List (List ℕ)) (sets d : Fields) (name : List ℕ) (value : Tree) → found name d ≡ None → found name sets ≡ None → staying gone sets (with_set d name value) ≡ join (staying gone sets d) (if is_among name gone then no_fields else field name value no_fields)
staying-new gone sets no_fields name value absent unset = ap (λ (o : Option Tree). if is_among name gone then no_fields else field name (unwrap_or o value) no_fields) unset
staying-new gone sets (field first one rest) name value absent unset = grind (arith, staying-new gone sets rest name value)

-- the other names are as new as before
fresh-with_set : (gone : List (List ℕ)) (d sets : Fields) (name : List ℕ) (value : Tree) → found name sets ≡ None → fresh gone (with_set d name value) sets ≡ fresh gone d sets
fresh-with_set gone d no_fields name value unset = refl
fresh-with_set gone d (field first one rest) name value unset =
    grind (arith, found-with_set d name first value, alike_swapped first name, fresh-with_set gone d rest name value)

by_presence : (o : Option Tree) (P : Type 0) → (is_some o ≡ true → P) → (o ≡ None → P) → P
by_presence (Some value) P there absent = there refl
by_presence None P there absent = absent refl

pub changed-walk : (sets d : Fields) (unsets : Trees) → IsDocument d → IsDocument sets → changed d sets unsets ≡ join (staying (strings_of unsets) sets d) (fresh (strings_of unsets) d sets)
changed-walk no_fields d unsets names distinct =
    without_all-but (strings_of unsets) d names ∙ sym (staying-nothing_set (strings_of unsets) d) ∙ sym (join-nothing (staying (strings_of unsets) no_fields d))
changed-walk (field name value rest) d unsets names distinct =
    let gone = strings_of unsets in
    let later = changed-walk rest (with_set d name value) unsets (IsDocument-with_set d name value names distinct.0) distinct.2 in
    let others = fresh-with_set gone d rest name value distinct.1 in
    by_presence (found name d) (changed d (field name value rest) unsets ≡ join (staying gone (field name value rest) d) (fresh gone d (field name value rest))) (λ there.
    let now = staying-present gone rest d name value names there distinct.1 in
    later ∙ grind arith) (λ absent.
    let now = staying-new gone rest d name value absent distinct.1 in
    let before = staying-absent gone rest d name value absent in
    let regroup = join-assoc (staying gone rest d) (if is_among name gone then no_fields else field name value no_fields) (fresh gone d rest) in
    later ∙ grind arith)

pub IsDocument-changed : (d sets : Fields) (unsets : Trees) → IsDocument d → IsDocument sets → IsDocument (changed d sets unsets)
IsDocument-changed d sets unsets names distinct =
    IsDocument-without_all (with_sets d sets) (strings_of unsets) (IsDocument-with_sets d sets names distinct)

-- ---- the walk, step by step: `out` is written so far
IsDocument-front : (a b : Fields) → IsDocument (join a b) → IsDocument a
IsDocument-front no_fields b names = tt
IsDocument-front (field name value rest) b names = (names.0, found-front rest names.1, IsDocument-front rest b names.2)
  where
    found-front : (fs : Fields) → found name (join fs b) ≡ None → found name fs ≡ None
    found-front no_fields none = refl
    found-front (field first one fs) none = grind (arith, found-front fs)

-- the parts of a changed document keep their names apart
pub staying-IsDocument : (d sets : Fields) (unsets : Trees) → IsDocument d → IsDocument sets → IsDocument (staying (strings_of unsets) sets d)
staying-IsDocument d sets unsets names distinct =
    IsDocument-front _ _ (subst IsDocument (changed-walk sets d unsets names distinct) (IsDocument-changed d sets unsets names distinct))

-- a field that stays has a clean name that is new
pub staying-next : (gone : List (List ℕ)) (sets out rest whole : Fields) (name : List ℕ) (value : Tree) → join out (staying gone sets (field name value rest)) ≡ whole → IsDocument whole → is_among name gone ≡ false → (¬ Contains name 0) × (found name out ≡ None)
staying-next gone sets out rest whole name value so_far names stays =
    let now = unwrap_or (found name sets) value in
    let here = ap (λ b. join out (if b then staying gone sets rest else field name now (staying gone sets rest))) (sym stays) ∙ so_far in
    next_name out name now (staying gone sets rest) (subst IsDocument (sym here) names)

pub staying-step : (gone : List (List ℕ)) (sets out rest : Fields) (name : List ℕ) (value : Tree) → join (if is_among name gone then out else with_field out name (unwrap_or (found name sets) value)) (staying gone sets rest) ≡ join out (staying gone sets (field name value rest))
staying-step gone sets out rest name value =
    elim (is_among name gone) as (λ b. join (if b then out else with_field out name (unwrap_or (found name sets) value)) (staying gone sets rest) ≡ join out (if b then staying gone sets rest else field name (unwrap_or (found name sets) value) (staying gone sets rest))) [
      | true ↦ refl
      | false ↦ join-with_field out name (unwrap_or (found name sets) value) (staying gone sets rest)
    ]

-- a new field has a clean name that is new
pub fresh-next : (gone : List (List ℕ)) (d out rest whole : Fields) (name : List ℕ) (value : Tree) → join out (fresh gone d (field name value rest)) ≡ whole → IsDocument whole → is_among name gone ≡ false → found name d ≡ None → (¬ Contains name 0) × (found name out ≡ None)
fresh-next gone d out rest whole name value so_far names stays new =
    let now : fresh gone d (field name value rest) ≡ field name value (fresh gone d rest) = grind arith in
    next_name out name value (fresh gone d rest) (subst IsDocument (sym (ap (join out) (sym now) ∙ so_far)) names)

pub fresh-step : (gone : List (List ℕ)) (d out rest : Fields) (name : List ℕ) (value : Tree) → join (if is_among name gone then out else (if is_some (found name d) then out else with_field out name value)) (fresh gone d rest) ≡ join out (fresh gone d (field name value rest))
fresh-step gone d out rest name value =
    let new = join-with_field out name value (fresh gone d rest) in
    elim (is_among name gone) as (λ b. join (if b then out else (if is_some (found name d) then out else with_field out name value)) (fresh gone d rest) ≡ join out (if b then fresh gone d rest else (if is_some (found name d) then fresh gone d rest else field name value (fresh gone d rest)))) [
      | true ↦ refl
      | false ↦ elim (is_some (found name d)) as (λ b. join (if b then out else with_field out name value) (fresh gone d rest) ≡ join out (if b then fresh gone d rest else field name value (fresh gone d rest))) [ true ↦ refl | false ↦ new ]
    ]

-- the fields to come, under the name as it was copied
pub named : (P : Fields → Fields) (d rest whole : Fields) (name copied : List ℕ) (value : Tree) → d ≡ field name value rest → copied ≡ name → P d ≡ whole → P (field copied value rest) ≡ whole
named P d rest whole name copied value here same so_far = ap (λ n. P (field n value rest)) same ∙ ap P (sym here) ∙ so_far
