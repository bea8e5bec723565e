-- One turn of reading fields or items, and one level of documents inside.
use Rattle.std.proofs.Common.{ℕ, suc, ◌≡◌, ◌+◌, ◌-◌, ◌<◌, ◌≤◌, Bool, true, false, List, length, Result, Ok, Err, refl, sym, ◌∙◌, ap, subst, arith, if◌then◌else◌}
use Rattle.bson_doc.specs.Bind.{◌>>=◌}
use Rattle.bson_doc.specs.Tree.{Tree, Fields, no_fields, Trees, with_field, with_item}
use Rattle.bson_codec.specs.declared.error.DecodeError.{DecodeError}
use Rattle.bson_codec.specs.declared.error.DecodeError.TheVariants as rules
use Rattle.bson_codec.specs.Outcome.{Fails}
use Rattle.bson_codec.specs.Wholes.{fields_within}
use Rattle.bson_codec.specs.Reading.{Inner, ends_at, field_at, fields_in, item_at, items_in, content_at, members_in, inner_at}

-- a step that failed ends what is built on it
pub Fails-bind : {A B : Type 0} (e : DecodeError) (read : Result A DecodeError) (f : A → Result B DecodeError) → Fails e read → Fails e (read >>= f)
Fails-bind rules.Memory read f h = tt
Fails-bind e read f h = rw h refl

-- one turn of the fields, where a turn is left
abbrev pub turn : Inner → ℕ → Fields → List ℕ → Bool → Result Fields DecodeError
turn inner turns seen bytes ended =
    if ended then Ok seen else
    (field_at inner seen bytes >>= λ next. fields_in turns inner (with_field seen next.0.0 next.0.1) next.1)

pub fields-turn : (inner : Inner) (count i : ℕ) (seen : Fields) (bytes : List ℕ) → i < count → fields_in (count - i) inner seen bytes ≡ (ends_at bytes >>= turn inner (count - (i + 1)) seen bytes)
unfolding fields_in
fields-turn inner count i seen bytes left =
    let more : count - i ≡ suc (count - (i + 1)) = omega arith in
    rw more refl

pub fields-none : (inner : Inner) (count i : ℕ) (seen : Fields) (bytes : List ℕ) → count ≤ i → fields_in (count - i) inner seen bytes ≡ Err rules.Length
unfolding fields_in
fields-none inner count i seen bytes past = let none : count - i ≡ 0 = omega arith in rw none refl

abbrev pub item_turn : Inner → ℕ → ℕ → Trees → List ℕ → Bool → Result Trees DecodeError
item_turn inner turns place seen bytes ended =
    if ended then Ok seen else
    (item_at inner place bytes >>= λ next. items_in turns inner (place + 1) (with_item seen next.0) next.1)

pub items-turn : (inner : Inner) (count i place : ℕ) (seen : Trees) (bytes : List ℕ) → i < count → items_in (count - i) inner place seen bytes ≡ (ends_at bytes >>= item_turn inner (count - (i + 1)) place seen bytes)
unfolding items_in
items-turn inner count i place seen bytes left =
    let more : count - i ≡ suc (count - (i + 1)) = omega arith in
    rw more refl

pub items-none : (inner : Inner) (count i place : ℕ) (seen : Trees) (bytes : List ℕ) → count ≤ i → items_in (count - i) inner place seen bytes ≡ Err rules.Length
unfolding items_in
items-none inner count i place seen bytes past = let none : count - i ≡ 0 = omega arith in rw none refl

-- where the closing zero stands all is read
pub fields-over : (inner : Inner) (count i : ℕ) (seen : Fields) (rest : List ℕ) (total : Result Fields DecodeError) (ended : Bool) → i < count → fields_in (count - i) inner seen rest ≡ total → ends_at rest ≡ Ok ended → ended ≡ true → total ≡ Ok seen
fields-over inner count i seen rest total ended left so_far ends is =
    sym so_far ∙ fields-turn inner count i seen rest left ∙ rw (ends, is) refl

pub fields-bad : (inner : Inner) (count i : ℕ) (seen : Fields) (rest : List ℕ) (total : Result Fields DecodeError) (e : DecodeError) → i < count → fields_in (count - i) inner seen rest ≡ total → Fails e (ends_at rest) → Fails e total
fields-bad inner count i seen rest total e left so_far bad =
    subst (λ (r : Result Fields DecodeError). Fails e r) (sym (sym so_far ∙ fields-turn inner count i seen rest left)) (Fails-bind e (ends_at rest) (turn inner (count - (i + 1)) seen rest) bad)

pub fields-stop : (inner : Inner) (count i : ℕ) (seen : Fields) (rest : List ℕ) (total : Result Fields DecodeError) (e : DecodeError) (ended : Bool) → i < count → fields_in (count - i) inner seen rest ≡ total → ends_at rest ≡ Ok ended → ended ≡ false → Fails e (field_at inner seen rest) → Fails e total
fields-stop inner count i seen rest total e ended left so_far ends is bad =
    let unrolled : total ≡ (field_at inner seen rest >>= λ next. fields_in (count - (i + 1)) inner (with_field seen next.0.0 next.0.1) next.1) = sym so_far ∙ fields-turn inner count i seen rest left ∙ rw (ends, is) refl in
    subst (λ (r : Result Fields DecodeError). Fails e r) (sym unrolled) (Fails-bind e (field_at inner seen rest) (λ next. fields_in (count - (i + 1)) inner (with_field seen next.0.0 next.0.1) next.1) bad)

pub fields-next : (inner : Inner) (count i : ℕ) (seen : Fields) (rest : List ℕ) (total : Result Fields DecodeError) (next : (List ℕ × Tree) × List ℕ) (ended : Bool) → i < count → fields_in (count - i) inner seen rest ≡ total → ends_at rest ≡ Ok ended → ended ≡ false → field_at inner seen rest ≡ Ok next → fields_in (count - (i + 1)) inner (with_field seen next.0.0 next.0.1) next.1 ≡ total
fields-next inner count i seen rest total next ended left so_far ends is read =
    sym (sym so_far ∙ fields-turn inner count i seen rest left ∙ rw (ends, is, read) refl)

pub fields-out : (inner : Inner) (count i : ℕ) (seen : Fields) (rest : List ℕ) (total : Result Fields DecodeError) → count ≤ i → fields_in (count - i) inner seen rest ≡ total → total ≡ Err rules.Length
fields-out inner count i seen rest total past so_far = sym so_far ∙ fields-none inner count i seen rest past

-- where the closing zero stands all is read
pub items-over : (inner : Inner) (count i place : ℕ) (seen : Trees) (rest : List ℕ) (total : Result Trees DecodeError) (ended : Bool) → i < count → items_in (count - i) inner place seen rest ≡ total → ends_at rest ≡ Ok ended → ended ≡ true → total ≡ Ok seen
items-over inner count i place seen rest total ended left so_far ends is =
    sym so_far ∙ items-turn inner count i place seen rest left ∙ rw (ends, is) refl

pub items-bad : (inner : Inner) (count i place : ℕ) (seen : Trees) (rest : List ℕ) (total : Result Trees DecodeError) (e : DecodeError) → i < count → items_in (count - i) inner place seen rest ≡ total → Fails e (ends_at rest) → Fails e total
items-bad inner count i place seen rest total e left so_far bad =
    subst (λ (r : Result Trees DecodeError). Fails e r) (sym (sym so_far ∙ items-turn inner count i place seen rest left)) (Fails-bind e (ends_at rest) (item_turn inner (count - (i + 1)) place seen rest) bad)

pub items-stop : (inner : Inner) (count i place : ℕ) (seen : Trees) (rest : List ℕ) (total : Result Trees DecodeError) (e : DecodeError) (ended : Bool) → i < count → items_in (count - i) inner place seen rest ≡ total → ends_at rest ≡ Ok ended → ended ≡ false → Fails e (item_at inner place rest) → Fails e total
items-stop inner count i place seen rest total e ended left so_far ends is bad =
    let unrolled : total ≡ (item_at inner place rest >>= λ next. items_in (count - (i + 1)) inner (place + 1) (with_item seen next.0) next.1) = sym so_far ∙ items-turn inner count i place seen rest left ∙ rw (ends, is) refl in
    subst (λ (r : Result Trees DecodeError). Fails e r) (sym unrolled) (Fails-bind e (item_at inner place rest) (λ next. items_in (count - (i + 1)) inner (place + 1) (with_item seen next.0) next.1) bad)

pub items-next : (inner : Inner) (count i place : ℕ) (seen : Trees) (rest : List ℕ) (total : Result Trees DecodeError) (next : Tree × List ℕ) (ended : Bool) → i < count → items_in (count - i) inner place seen rest ≡ total → ends_at rest ≡ Ok ended → ended ≡ false → item_at inner place rest ≡ Ok next → items_in (count - (i + 1)) inner (place + 1) (with_item seen next.0) next.1 ≡ total
items-next inner count i place seen rest total next ended left so_far ends is read =
    sym (sym so_far ∙ items-turn inner count i place seen rest left ∙ rw (ends, is, read) refl)

pub items-out : (inner : Inner) (count i place : ℕ) (seen : Trees) (rest : List ℕ) (total : Result Trees DecodeError) → count ≤ i → items_in (count - i) inner place seen rest ≡ total → total ≡ Err rules.Length
items-out inner count i place seen rest total past so_far = sym so_far ∙ items-none inner count i place seen rest past

-- one level
abbrev pub level : Inner → Bool → List ℕ × List ℕ → Result (Tree × List ℕ) DecodeError
level inner is_array content = members_in inner is_array content.0 >>= λ members. Ok (members, content.1)

pub inner-level : (levels : ℕ) (is_array : Bool) (bytes : List ℕ) → 0 < levels → inner_at levels is_array bytes ≡ (content_at bytes >>= level (inner_at (levels - 1)) is_array)
unfolding inner_at
inner-level levels is_array bytes some =
    let more : levels ≡ suc (levels - 1) = omega arith in
    ap (λ (n : ℕ). inner_at n is_array bytes) more

pub inner-none : (is_array : Bool) (bytes : List ℕ) → inner_at 0 is_array bytes ≡ Err rules.TooDeep
unfolding inner_at
inner-none is_array bytes = refl

pub inner-bad : (levels : ℕ) (is_array : Bool) (bytes : List ℕ) (e : DecodeError) → 0 < levels → Fails e (content_at bytes) → Fails e (inner_at levels is_array bytes)
inner-bad levels is_array bytes e some bad =
    subst (λ (r : Result (Tree × List ℕ) DecodeError). Fails e r) (sym (inner-level levels is_array bytes some)) (Fails-bind e (content_at bytes) (level (inner_at (levels - 1)) is_array) bad)

pub inner-stop : (levels : ℕ) (is_array : Bool) (bytes : List ℕ) (content : List ℕ × List ℕ) (e : DecodeError) → 0 < levels → content_at bytes ≡ Ok content → Fails e (members_in (inner_at (levels - 1)) is_array content.0) → Fails e (inner_at levels is_array bytes)
inner-stop levels is_array bytes content e some read bad =
    let unrolled : inner_at levels is_array bytes ≡ level (inner_at (levels - 1)) is_array content = inner-level levels is_array bytes some ∙ rw read refl in
    subst (λ (r : Result (Tree × List ℕ) DecodeError). Fails e r) (sym unrolled) (Fails-bind e (members_in (inner_at (levels - 1)) is_array content.0) (λ members. Ok (members, content.1)) bad)

pub inner-done : (levels : ℕ) (is_array : Bool) (bytes : List ℕ) (content : List ℕ × List ℕ) (members : Tree) → 0 < levels → content_at bytes ≡ Ok content → members_in (inner_at (levels - 1)) is_array content.0 ≡ Ok members → inner_at levels is_array bytes ≡ Ok (members, content.1)
inner-done levels is_array bytes content members some read whole =
    inner-level levels is_array bytes some ∙ rw (read, whole) refl

pub within-level : (levels : ℕ) (content : List ℕ) → 0 < levels → fields_within levels content ≡ fields_in (length content) (inner_at (levels - 1)) no_fields content
within-level levels content some =
    let more : levels ≡ suc (levels - 1) = omega arith in
    ap (λ (n : ℕ). fields_within n content) more
