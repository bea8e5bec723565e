-- What is read is spelled by the bytes read: items, documents inside, and the whole.
use Rattle.std.proofs.Common.{◌≡◌, ℕ, zero, suc, ◌+◌, ◌-◌, ◌^◌, ◌≤◌, Bool, true, false, cond, ltb, List, [], ◌∷◌, ◌++◌, length, drop, Result, Ok, Err, refl, sym, ap, subst, ◌∙◌, append_assoc, arith, inl, inr}
use Rattle.std.specs.Prelude.{IfOk, nat_lt, nat_le, ◌||◌, if◌then◌else◌}
use Rattle.std.specs.Fmt.{decimal}
use Rattle.std.proofs.lemmas.Bool.{cases_Bool, ltb-false, le-ltb, or_parts}
use Rattle.std.proofs.lemmas.List.{append-nil, length-append, length-drop}
use Rattle.bson_doc.specs.Bind.{◌>>=◌}
use Rattle.bson_doc.proofs.BindLemmas.{bind_ok}
use Rattle.bson_doc.specs.Tree as tree
use Rattle.bson_doc.specs.Tree.{Tree, Fields, no_fields, Trees, no_items, item, with_item, items_count}
use Rattle.bson_doc.specs.Key.{type_byte}
use Rattle.bson_codec.specs.declared.kind.Kind as declared
use Rattle.bson_codec.specs.declared.error.DecodeError.{DecodeError}
use Rattle.bson_codec.specs.declared.error.DecodeError.TheVariants as rules
use Rattle.bson_doc.specs.Length.{value_levels, fields_levels, items_levels, fields_length, items_length}
use Rattle.bson_doc.proofs.SoundLemmas.{AreSoundItems-with_item}
use Rattle.bson_codec.specs.Numbers.{number_bytes, number_in}
use Rattle.bson_codec.specs.Outcome.{Gives}
use Rattle.bson_codec.specs.Reading.{Inner, number_at, bytes_at, byte_at, kind_of, value_at, ends_at, fields_in, item_at, items_in, content_at, members_in, inner_at, known_name_at, length_at}
use Rattle.bson_codec.specs.Sound.{IsSoundValue, AreSoundItems, IsSound}
use Rattle.bson_codec.specs.Spelling.{element, value_bytes, fields_bytes, items_bytes, IsSpelling}
use Rattle.bson_codec.specs.Wholes.{outer_length, fields_within, fields_after, read_document}
use Rattle.bson_codec.proofs.PartLemmas.{IsBytes, IsBytes-drop, ok_is, Takes, Takes-then, bytes_take, length_takes, byte_takes, known_name_takes, wide4, number_takes}
use Rattle.bson_codec.proofs.SpellingLemmas.{length-fields_bytes, length-items_bytes}
use Rattle.bson_codec.proofs.ValueLemmas.{ValueTakes, InnerTakes, read_pair, kind_takes, value_takes, ends_here, fields_take}

-- ---- items

-- an item that was read at its place
pub record ItemTakes (levels place : ℕ) (bytes : List ℕ) (value : Tree) (rest : List ℕ) : Type 0 where
  pub takes : Takes bytes (element (type_byte value) (decimal place) (value_bytes value)) rest
  pub sound : IsSoundValue value
  pub in_levels : value_levels value ≤ levels

abbrev after_kind : Inner → ℕ → List ℕ → declared.Kind → Result (Tree × List ℕ) DecodeError
after_kind inner place rest kind = known_name_at (decimal place ++ 0 ∷ []) rest >>= λ after. value_at inner kind after

item_takes : (levels : ℕ) (inner : Inner) → InnerTakes levels inner → (place : ℕ) (bytes : List ℕ) (next : Tree × List ℕ) → IsBytes bytes → item_at inner place bytes ≡ Ok next → ItemTakes levels place bytes next.0 next.1
unfolding item_at
item_takes levels inner within place bytes next fits e =
    let a = bind_ok (byte_at bytes) (λ byte. kind_of byte.0 >>= after_kind inner place byte.1) next e in
    let b = bind_ok (kind_of a.0.0) (after_kind inner place a.0.1) next a.2 in
    let c = bind_ok (known_name_at (decimal place ++ 0 ∷ []) a.0.1) (λ after. value_at inner b.0 after) next b.2 in
    let first = byte_takes bytes a.0.0 a.0.1 fits a.1 in
    let second = known_name_takes (decimal place ++ 0 ∷ []) a.0.1 c.0 first.rest_fits c.1 in
    let third = value_takes levels inner within b.0 c.0 next.0 next.1 second.rest_fits c.2 in
    let same : a.0.0 ≡ type_byte next.0 = kind_takes a.0.0 b.0 b.1 ∙ sym third.1 in
    let kind : Takes bytes (type_byte next.0 ∷ []) a.0.1 = subst (λ (k : ℕ). Takes bytes (k ∷ []) a.0.1) same first in
    let both = Takes-then bytes (type_byte next.0 ∷ []) a.0.1 (decimal place ++ 0 ∷ []) c.0 kind second in
    let all = Takes-then bytes (type_byte next.0 ∷ (decimal place ++ 0 ∷ [])) c.0 (value_bytes next.0) next.1 both third.0.takes in
    record {
      takes = subst (λ (t : List ℕ). Takes bytes (type_byte next.0 ∷ t) next.1) (append_assoc (decimal place) (0 ∷ []) (value_bytes next.0)) all;
      sound = third.0.sound;
      in_levels = third.0.in_levels;
    }

pub items_bytes-with : (p place : ℕ) (seen : Trees) (value : Tree) → place ≡ p + items_count seen → items_bytes p (with_item seen value) ≡ items_bytes p seen ++ element (type_byte value) (decimal place) (value_bytes value)
items_bytes-with p place no_items value is = let here : p ≡ place = omega arith in rw here (append-nil _)
items_bytes-with p place (item one rest) value is =
    ap (λ (t : List ℕ). element (type_byte one) (decimal p) (value_bytes one) ++ t) (items_bytes-with (p + 1) place rest value (omega arith)) ∙ sym (append_assoc (element (type_byte one) (decimal p) (value_bytes one)) (items_bytes (p + 1) rest) _)

count-with : (seen : Trees) (value : Tree) → items_count (with_item seen value) ≡ items_count seen + 1
count-with no_items value = omega arith
count-with (item one rest) value = omega (arith, count-with rest value)

levels-with : (seen : Trees) (value : Tree) (levels : ℕ) → items_levels seen ≤ levels → value_levels value ≤ levels → items_levels (with_item seen value) ≤ levels
levels-with no_items value levels before one = omega arith
levels-with (item first rest) value levels before one = omega (arith, levels-with rest value levels (omega arith) one)

-- all the items, of which some were seen before
pub record ItemsTake (levels : ℕ) (seen : Trees) (bytes : List ℕ) (all : Trees) : Type 0 where
  pub parts : items_bytes 0 seen ++ bytes ≡ items_bytes 0 all ++ 0 ∷ []
  pub sound : AreSoundItems all
  pub in_levels : items_levels all ≤ levels

abbrev after_end : ℕ → Inner → ℕ → Trees → List ℕ → Bool → Result Trees DecodeError
after_end turns inner place seen bytes ended =
    if ended then Ok seen else
    (item_at inner place bytes >>= λ next. items_in turns inner (place + 1) (with_item seen next.0) next.1)

items_take : (turns levels : ℕ) (inner : Inner) → InnerTakes levels inner → (place : ℕ) (seen : Trees) (bytes : List ℕ) (all : Trees) → IsBytes bytes → items_in turns inner place seen bytes ≡ Ok all → place ≡ items_count seen → AreSoundItems seen → items_levels seen ≤ levels → ItemsTake levels seen bytes all
unfolding items_in
items_take zero levels inner within place seen bytes all fits e counts sound flat = absurd cc
items_take (suc turns) levels inner within place seen bytes all fits e counts sound flat =
    let a = bind_ok (ends_at bytes) (after_end turns inner place seen bytes) all e in
    elim (cases_Bool a.0) [
      | inl ended ↦
          let here : bytes ≡ 0 ∷ [] = ends_here bytes (a.1 ∙ ap (λ (b : Bool). Ok b) ended) in
          let is : seen ≡ all = ok_is seen all (sym (ap (after_end turns inner place seen bytes) ended) ∙ a.2) in
          subst (λ (items : Trees). ItemsTake levels seen bytes items) is
          (record { parts = ap (λ (t : List ℕ). items_bytes 0 seen ++ t) here; sound = sound; in_levels = flat })
      | inr more ↦
          let step = sym (ap (after_end turns inner place seen bytes) more) ∙ a.2 in
          let b = bind_ok (item_at inner place bytes) (λ next. items_in turns inner (place + 1) (with_item seen next.0) next.1) all step in
          let one = item_takes levels inner within place bytes b.0 fits b.1 in
          let later = items_take turns levels inner within (place + 1) (with_item seen b.0.0) b.0.1 all one.takes.rest_fits b.2
          (omega (arith, count-with seen b.0.0)) (AreSoundItems-with_item seen b.0.0 sound one.sound) (levels-with seen b.0.0 levels flat one.in_levels) in
          let moved : items_bytes 0 seen ++ bytes ≡ items_bytes 0 (with_item seen b.0.0) ++ b.0.1 =
          ap (λ (t : List ℕ). items_bytes 0 seen ++ t) one.takes.parts ∙ sym (append_assoc (items_bytes 0 seen) _ b.0.1) ∙ ap (λ (t : List ℕ). t ++ b.0.1) (sym (items_bytes-with 0 place seen b.0.0 (omega arith))) in
          record { parts = moved ∙ later.parts; sound = later.sound; in_levels = later.in_levels }
    ]

-- ---- documents and arrays inside

-- the bytes after a length, as the document's body and its closing zero
framed : (n : ℕ) (content body : List ℕ) (long : ℕ) → content ≡ body ++ 0 ∷ [] → 5 ≤ n → length content ≡ n - 4 → length body ≡ long → number_bytes 4 n ++ content ≡ number_bytes 4 (5 + long) ++ body ++ 0 ∷ []
framed n content body long is least counts own =
    let whole : n ≡ 5 + long = omega (arith, ap length is, length-append body (0 ∷ [])) in
    rw (is, whole) (sym (append_assoc (number_bytes 4 (5 + long)) body (0 ∷ [])))

content_takes : (bytes : List ℕ) (content : List ℕ × List ℕ) → IsBytes bytes → content_at bytes ≡ Ok content → (n : ℕ) × Takes bytes (number_bytes 4 n ++ content.0) content.1 × (5 ≤ n) × (length content.0 ≡ n - 4) × IsBytes content.0
unfolding content_at
content_takes bytes content fits e =
    let a = bind_ok (length_at 5 bytes) (λ n. bytes_at (n.0 - 4) n.1) content e in
    let t0 = length_takes 5 bytes a.0.0 a.0.1 fits a.1 in
    let t1 = bytes_take (a.0.0 - 4) a.0.1 content.0 content.1 t0.0.rest_fits a.2 in
    (a.0.0, Takes-then bytes (number_bytes 4 a.0.0) a.0.1 content.0 content.1 t0.0 t1.0, t0.1, t1.1, t1.2)

pub inner_takes : (levels : ℕ) → InnerTakes levels (inner_at levels)
unfolding inner_at
inner_takes zero is_array bytes value rest fits e = absurd cc
inner_takes (suc levels) false bytes value rest fits e =
    let inner = inner_at levels in
    let a = bind_ok (content_at bytes) (λ content. members_in inner false content.0 >>= λ members. Ok (members, content.1)) (value, rest) e in
    let b = bind_ok (members_in inner false a.0.0) (λ members. Ok (members, a.0.1)) (value, rest) a.2 in
    let c = bind_ok (fields_in (length a.0.0) inner no_fields a.0.0) (λ fields. Ok (tree.document fields)) b.0 b.1 in
    let front = content_takes bytes a.0 fits a.1 in
    let all = fields_take (length a.0.0) levels inner (inner_takes levels) no_fields a.0.0 c.0 front.4 c.1 tt tt (omega arith) in
    let spelled = framed front.0 a.0.0 (fields_bytes c.0) (fields_length c.0) all.parts front.2 front.3 (length-fields_bytes c.0) in
    let made : ValueTakes (suc levels) bytes (tree.document c.0) a.0.1 = record {
      takes = subst (λ (t : List ℕ). Takes bytes t a.0.1) spelled front.1;
      sound = (all.names, all.sound);
      in_levels = omega (arith, all.in_levels);
    } in
    let is : read_pair (tree.document c.0) a.0.1 ≡ read_pair value rest = ap (λ (t : Tree). (t, a.0.1)) (ok_is _ _ c.2) ∙ ok_is _ _ b.2 in
    subst (λ (p : Tree × List ℕ). ValueTakes (suc levels) bytes p.0 p.1 × (type_byte p.0 ≡ 3)) is (made, refl)
inner_takes (suc levels) true bytes value rest fits e =
    let inner = inner_at levels in
    let a = bind_ok (content_at bytes) (λ content. members_in inner true content.0 >>= λ members. Ok (members, content.1)) (value, rest) e in
    let b = bind_ok (members_in inner true a.0.0) (λ members. Ok (members, a.0.1)) (value, rest) a.2 in
    let c = bind_ok (items_in (length a.0.0) inner 0 no_items a.0.0) (λ items. Ok (tree.array items)) b.0 b.1 in
    let front = content_takes bytes a.0 fits a.1 in
    let all = items_take (length a.0.0) levels inner (inner_takes levels) 0 no_items a.0.0 c.0 front.4 c.1 refl tt (omega arith) in
    let spelled = framed front.0 a.0.0 (items_bytes 0 c.0) (items_length 0 c.0) all.parts front.2 front.3 (length-items_bytes 0 c.0) in
    let made : ValueTakes (suc levels) bytes (tree.array c.0) a.0.1 = record {
      takes = subst (λ (t : List ℕ). Takes bytes t a.0.1) spelled front.1;
      sound = all.sound;
      in_levels = omega (arith, all.in_levels);
    } in
    let is : read_pair (tree.array c.0) a.0.1 ≡ read_pair value rest = ap (λ (t : Tree). (t, a.0.1)) (ok_is _ _ c.2) ∙ ok_is _ _ b.2 in
    subst (λ (p : Tree × List ℕ). ValueTakes (suc levels) bytes p.0 p.1 × (type_byte p.0 ≡ 4)) is (made, refl)

-- ---- the whole

-- what passed the five tests
pub record Passes (bound : ℕ) (bytes : List ℕ) (n : ℕ) : Type 0 where
  pub four : 4 ≤ length bytes
  pub read : n ≡ number_in 4 bytes
  pub least : 5 ≤ n
  pub in_bound : n ≤ bound
  pub all : n ≡ length bytes

chosen_err : (b : Bool) (d : DecodeError) (other : Result ℕ DecodeError) (n : ℕ) → cond b (Err d) other ≡ Ok n → (b ≡ false) × (other ≡ Ok n)
chosen_err true d other n e = absurd cc
chosen_err false d other n e = (refl, e)

outer_passes : (bound : ℕ) (bytes : List ℕ) (n : ℕ) → outer_length bound bytes ≡ Ok n → Passes bound bytes n
outer_passes bound bytes n e =
    let m = number_in 4 bytes in
    let a = chosen_err (nat_lt (length bytes) 4) rules.Short _ n e in
    let b = chosen_err (nat_lt m 5 || nat_le (2 ^ 31) m) rules.Length _ n a.1 in
    let c = chosen_err (nat_lt bound m) rules.TooLarge _ n b.1 in
    let d = chosen_err (nat_lt (length bytes) m) rules.Short _ n c.1 in
    let f = chosen_err (nat_lt m (length bytes)) rules.Trailing _ n d.1 in
    let is : m ≡ n = cc (f.1) in
    let tests = or_parts (nat_lt m 5) (nat_le (2 ^ 31) m) b.0 in
    let least : 5 ≤ m = ltb-false _ _ tests.0 in
    let in_bound : m ≤ bound = ltb-false _ _ c.0 in
    let short : m ≤ length bytes = ltb-false _ _ d.0 in
    let long : length bytes ≤ m = ltb-false _ _ f.0 in
    subst (λ (k : ℕ). Passes bound bytes k) is
    (record { four = ltb-false _ _ a.0; read = refl; least = least; in_bound = in_bound; all = omega arith })

within_takes : (levels : ℕ) (content : List ℕ) (fs : Fields) → IsBytes content → fields_within levels content ≡ Ok fs → (content ≡ fields_bytes fs ++ 0 ∷ []) × IsSound fs × (1 + fields_levels fs ≤ levels)
within_takes zero content fs fits e = absurd cc
within_takes (suc levels) content fs fits e =
    let all = fields_take (length content) levels (inner_at levels) (inner_takes levels) no_fields content fs fits e tt tt (omega arith) in
    (all.parts, (all.names, all.sound), omega (arith, all.in_levels))

number_first : (bytes : List ℕ) (n : ℕ) → 4 ≤ length bytes → n ≡ number_in 4 bytes → number_at 4 bytes ≡ Ok (n, drop 4 bytes)
number_first bytes n four is =
    let long : ltb (length bytes) 4 ≡ false = le-ltb _ _ four in
    rw (long, is) refl

after_takes : (bound levels : ℕ) (bytes : List ℕ) (fs : Fields) (o : Result ℕ DecodeError) → IsBytes bytes → outer_length bound bytes ≡ o → fields_after levels bytes o ≡ Ok fs → IsSound fs × IsSpelling bound levels fs bytes
after_takes bound levels bytes fs (Err rule) fits passed e = absurd cc
after_takes bound levels bytes fs (Ok n) fits passed e =
    let outer = outer_passes bound bytes n passed in
    let inside = within_takes levels (drop 4 bytes) fs (IsBytes-drop 4 bytes fits) e in
    let first = number_takes 4 wide4 bytes n (drop 4 bytes) fits (number_first bytes n outer.four outer.read) in
    let counts : length (drop 4 bytes) ≡ n - 4 = omega (arith, length-drop {A = ℕ} 4 bytes, outer.all, outer.four) in
    let spelled = framed n (drop 4 bytes) (fields_bytes fs) (fields_length fs) inside.0 outer.least counts (length-fields_bytes fs) in
    (inside.1, record { spelled = first.0.parts ∙ spelled; in_bytes = omega (arith, outer.all, outer.in_bound); in_levels = inside.2 })

pub document_takes : (bound levels : ℕ) (bytes : List ℕ) (fs : Fields) → IsBytes bytes → read_document bound levels bytes ≡ Ok fs → IsSound fs × IsSpelling bound levels fs bytes
unfolding read_document
document_takes bound levels bytes fs fits e = after_takes bound levels bytes fs (outer_length bound bytes) fits refl e

pub is_found : (bound levels : ℕ) (bytes : List ℕ) (result : Result Fields DecodeError) → IsBytes bytes → Gives (λ d. d) result (read_document bound levels bytes) → IfOk result (λ d. IsSound d × IsSpelling bound levels d bytes)
is_found bound levels bytes (Ok d) fits given = document_takes bound levels bytes d fits given
is_found bound levels bytes (Err e) fits given = tt
