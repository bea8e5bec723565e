-- What spells a value is read as that value.
use Rattle.std.proofs.Common.{◌≡◌, ℕ, zero, suc, ◌+◌, ◌-◌, ◌<◌, ◌≤◌, true, false, List, ◌∷◌, ◌++◌, ◌==◌, length, drop, None, Ok, Err, refl, sym, ap, ◌∙◌, append_assoc, arith}
use Rattle.std.specs.Prelude.{codes}
use Rattle.std.specs.List.{prefix_len}
use Rattle.std.specs.Str.{bytes_eq}
use Rattle.std.proofs.lemmas.Cmp.{nat_list_eq_equiv}
use Rattle.std.proofs.lemmas.List.{length-append, length-drop}
use Rattle.bson_doc.specs.Length.{value_levels, fields_levels, items_levels}
use Rattle.bson_doc.specs.Tree.{Tree, null, int32, int64, text, document, array, binary, object_id, boolean, date, timestamp, Fields, no_fields, field, Trees, no_items, item, IsDocument, found, with_field, with_item}
use Rattle.doc_text.specs.declared.fault.Fault.{Fault}
use Rattle.bson_doc.proofs.DocLemmas.{not_first, found-with_field}
use Rattle.doc_text.specs.Class.{after_spaces}
use Rattle.doc_text.specs.Fault.{placed}
use Rattle.doc_text.specs.Marks.{begins_with, spaced_at}
use Rattle.doc_text.specs.Values.{field_at, item_at, members_at, document_at, array_at, value_at, in_text, answer_at}
use Rattle.doc_text.specs.Spelling.{IsSpaced, SpellsField, Spells, SpellsFields, SpellsItems, SpellsLaterFields, SpellsLaterItems, Stands}
use Rattle.doc_text.proofs.Members.{opened, nothing, ended, further, item_read}
use Rattle.doc_text.proofs.SpelledMarks.{NoSpace, after_spaces-over, spaced_over, mark_over, before_mark, before_closing, spaced_stops, closing_stops, goes_on, goes_no_further}
use Rattle.doc_text.proofs.SpelledScalars.{int32_read, int64_read, string_read, date_read, id_read, binary_read, time_read}
use Rattle.doc_text.proofs.SpelledFields.{Reads, value_scalar, value_no_space, value_no_bracket, name_no_brace, field_no_space, field_name, field_over, constant_null, constant_true, constant_false}

-- ---- names apart

-- none of these fields' names is there
abbrev pub Absent : Fields → Fields → Type 0
Absent so_far no_fields = Unit {0}
Absent so_far (field name value rest) = (found name so_far ≡ None) × Absent so_far rest

absent_with : (so_far : Fields) (name : List ℕ) (value : Tree) (others : Fields) → Absent so_far others → found name others ≡ None → Absent (with_field so_far name value) others
absent_with so_far name value no_fields absent new = tt
absent_with so_far name value (field other one rest) absent new =
    let parts = not_first (bytes_eq other name) one (found name rest) new in
    let apart : bytes_eq name other ≡ false = nat_list_eq_equiv.symm name other ∙ parts.0 in
    (found-with_field so_far other name value absent.0 apart, absent_with so_far name value rest absent.1 parts.1)

absent_empty : (fields : Fields) → Absent no_fields fields
absent_empty no_fields = tt
absent_empty (field name value rest) = (refl, absent_empty rest)

-- fields one after the other, after others
abbrev pub joined : Fields → Fields → Fields
joined so_far no_fields = so_far
joined so_far (field name value rest) = joined (with_field so_far name value) rest

abbrev appended : Fields → Fields → Fields
appended no_fields fs = fs
appended (field name value rest) fs = field name value (appended rest fs)

appended-with : (fs : Fields) (name : List ℕ) (value : Tree) (rest : Fields) → appended (with_field fs name value) rest ≡ appended fs (field name value rest)
appended-with no_fields name value rest = refl
appended-with (field first one more) name value rest = ap (λ (x : Fields). field first one x) (appended-with more name value rest)

appended-none : (fs : Fields) → appended fs no_fields ≡ fs
appended-none no_fields = refl
appended-none (field first one more) = ap (λ (x : Fields). field first one x) (appended-none more)

pub joined-is : (so_far others : Fields) → joined so_far others ≡ appended so_far others
joined-is so_far no_fields = sym (appended-none so_far)
joined-is so_far (field name value rest) = joined-is (with_field so_far name value) rest ∙ appended-with so_far name value rest

abbrev pub joined_items : Trees → Trees → Trees
joined_items so_far no_items = so_far
joined_items so_far (item value rest) = joined_items (with_item so_far value) rest

abbrev appended_items : Trees → Trees → Trees
appended_items no_items ts = ts
appended_items (item value rest) ts = item value (appended_items rest ts)

appended_items-with : (ts : Trees) (value : Tree) (rest : Trees) → appended_items (with_item ts value) rest ≡ appended_items ts (item value rest)
appended_items-with no_items value rest = refl
appended_items-with (item one more) value rest = ap (λ (x : Trees). item one x) (appended_items-with more value rest)

appended_items-none : (ts : Trees) → appended_items ts no_items ≡ ts
appended_items-none no_items = refl
appended_items-none (item one more) = ap (λ (x : Trees). item one x) (appended_items-none more)

pub joined_items-is : (so_far others : Trees) → joined_items so_far others ≡ appended_items so_far others
joined_items-is so_far no_items = sym (appended_items-none so_far)
joined_items-is so_far (item value rest) = joined_items-is (with_item so_far value) rest ∙ appended_items-with so_far value rest

-- ---- members

abbrev pub EachField : ℕ → Fields → Type 0
EachField most no_fields = Unit {0}
EachField most (field name value rest) = Reads most value × EachField most rest

abbrev pub EachItem : ℕ → Trees → Type 0
EachItem most no_items = Unit {0}
EachItem most (item value rest) = Reads most value × EachItem most rest

comma_some : (mark : ℕ) (s : List ℕ) → IsSpaced mark s → 0 < length s
comma_some mark s spaced = omega (arith, ap length spaced.whole, length-append spaced.before (mark ∷ spaced.after))

-- what follows a member doesn't go on as a number
later_stops : (others : Trees) (later rest : List ℕ) → SpellsLaterItems others later → prefix_len goes_on (later ++ rest) ≡ 0
later_stops no_items later rest tail = closing_stops goes_on 93 later rest refl refl tail
later_stops (item two more) later rest tail =
    let regroup : later ++ rest ≡ tail.0 ++ (tail.1 ++ (tail.2 ++ rest)) = ap (λ (x : List ℕ). x ++ rest) tail.6 ∙ simp append_assoc in
    ap (prefix_len goes_on) regroup ∙ spaced_stops goes_on 44 tail.0 (tail.1 ++ (tail.2 ++ rest)) refl refl tail.3

-- what follows a comma, up to the next member
comma_over : (close : ℕ) (comma after input : List ℕ) → (44 == close) ≡ false → IsSpaced 44 comma → NoSpace after → input ≡ comma ++ after
    → (begins_with close (after_spaces input) ≡ false) × (spaced_at 44 input ≡ Ok after) × (prefix_len goes_on input ≡ 0) × (length after < length input)
comma_over close comma after input other spaced none is =
    let first : begins_with close (after_spaces (comma ++ after)) ≡ false = ap (begins_with close) (before_mark 44 comma after refl spaced) ∙ other in
    rw is (first, spaced_over 44 comma after refl spaced none, spaced_stops goes_on 44 comma after refl refl spaced, omega (arith, comma_some 44 comma spaced, length-append comma after))

-- a field with those after it, and the closing brace
fields_over : (most fuel : ℕ) (so_far : Fields) (name : List ℕ) (value : Tree) (others : Fields) (one later rest : List ℕ)
    → found name so_far ≡ None → Absent (with_field so_far name value) others → IsDocument others → Reads most value → EachField most others
    → SpellsField name (Spells value) one → SpellsLaterFields others later → length (one ++ (later ++ rest)) < fuel
    → members_at (field_at (value_at most)) 125 fuel so_far (one ++ (later ++ rest)) ≡ Ok (joined (with_field so_far name value) others, rest)
fields_over most fuel so_far name value no_fields one later rest new absent apart reads each spelled tail within =
    let read = field_over most so_far name value one (later ++ rest) new spelled reads (closing_stops goes_on 125 later rest refl refl tail) in
    ended (field_at (value_at most)) 125 fuel so_far (with_field so_far name value) (one ++ (later ++ rest)) (later ++ rest) rest _ within refl read (before_closing 125 later rest refl tail)
fields_over most fuel so_far name value (field second two more) one later rest new absent apart reads each spelled tail within =
    let after = tail.1 ++ (tail.2 ++ rest) in
    let regroup : later ++ rest ≡ tail.0 ++ (tail.1 ++ (tail.2 ++ rest)) = ap (λ (x : List ℕ). x ++ rest) tail.6 ∙ simp append_assoc in
    let comma = comma_over 125 tail.0 after (later ++ rest) refl tail.3 (field_no_space second (Spells two) tail.1 (tail.2 ++ rest) tail.4) regroup in
    let read = field_over most so_far name value one (later ++ rest) new spelled reads comma.2 in
    let step = further (field_at (value_at most)) 125 fuel so_far (with_field so_far name value) (one ++ (later ++ rest)) (later ++ rest) after _ within refl read comma.0 comma.1 in
    sym step ∙ fields_over most (fuel - 1) (with_field so_far name value) second two more tail.1 tail.2 rest absent.0 (absent_with (with_field so_far name value) second two more absent.1 apart.1) apart.2 each.0 each.1 tail.4 tail.5 (omega (arith, comma.3, within, length-append one (later ++ rest)))

items_over : (most fuel : ℕ) (so_far : Trees) (value : Tree) (others : Trees) (one later rest : List ℕ)
    → Reads most value → EachItem most others → Spells value one → SpellsLaterItems others later → length (one ++ (later ++ rest)) < fuel
    → members_at (item_at (value_at most)) 93 fuel so_far (one ++ (later ++ rest)) ≡ Ok (joined_items (with_item so_far value) others, rest)
items_over most fuel so_far value no_items one later rest reads each spelled tail within =
    let read = item_read (value_at most) so_far (one ++ (later ++ rest)) value (later ++ rest) (reads one (later ++ rest) spelled (goes_no_further value (later ++ rest) (closing_stops goes_on 93 later rest refl refl tail))) in
    ended (item_at (value_at most)) 93 fuel so_far (with_item so_far value) (one ++ (later ++ rest)) (later ++ rest) rest _ within refl read (before_closing 93 later rest refl tail)
items_over most fuel so_far value (item two more) one later rest reads each spelled tail within =
    let after = tail.1 ++ (tail.2 ++ rest) in
    let regroup : later ++ rest ≡ tail.0 ++ (tail.1 ++ (tail.2 ++ rest)) = ap (λ (x : List ℕ). x ++ rest) tail.6 ∙ simp append_assoc in
    let second_reads = each.0 tail.1 (tail.2 ++ rest) tail.4 (goes_no_further two (tail.2 ++ rest) (later_stops more tail.2 rest tail.5)) in
    let comma = comma_over 93 tail.0 after (later ++ rest) refl tail.3 (value_no_space most after (two, tail.2 ++ rest) second_reads) regroup in
    let read = item_read (value_at most) so_far (one ++ (later ++ rest)) value (later ++ rest) (reads one (later ++ rest) spelled (goes_no_further value (later ++ rest) comma.2)) in
    let step = further (item_at (value_at most)) 93 fuel so_far (with_item so_far value) (one ++ (later ++ rest)) (later ++ rest) after _ within refl read comma.0 comma.1 in
    sym step ∙ items_over most (fuel - 1) (with_item so_far value) two more tail.1 tail.2 rest each.0 each.1 tail.4 tail.5 (omega (arith, comma.3, within, length-append one (later ++ rest)))

-- ---- documents and arrays

document_over : (most : ℕ) (fields : Fields) (inside rest : List ℕ) → IsDocument fields → EachField most fields → SpellsFields fields inside → document_at (value_at most) (123 ∷ (inside ++ rest)) ≡ Ok (fields, rest)
document_over most no_fields inside rest apart each spelled =
    nothing (field_at (value_at most)) 123 125 no_fields (123 ∷ (inside ++ rest)) (inside ++ rest) rest (mark_over 123 (inside ++ rest)) (before_closing 125 inside rest refl spelled)
document_over most (field name value others) inside rest apart each spelled =
    let after = spelled.1 ++ (spelled.2 ++ rest) in
    let regroup : inside ++ rest ≡ spelled.0 ++ (spelled.1 ++ (spelled.2 ++ rest)) = ap (λ (x : List ℕ). x ++ rest) spelled.6 ∙ simp append_assoc in
    let spaces : after_spaces (inside ++ rest) ≡ after = ap after_spaces regroup ∙ after_spaces-over spelled.0 after spelled.3 (field_no_space name (Spells value) spelled.1 (spelled.2 ++ rest) spelled.4) in
    let named = field_name name (Spells value) spelled.1 (spelled.2 ++ rest) spelled.4 in
    let read = fields_over most (suc (length after)) no_fields name value others spelled.1 spelled.2 rest refl (absent_with no_fields name value others (absent_empty others) apart.1) apart.2 each.0 each.1 spelled.4 spelled.5 (omega arith) in
    let begun = opened (field_at (value_at most)) 123 125 no_fields (123 ∷ (inside ++ rest)) (inside ++ rest) after (mark_over 123 (inside ++ rest)) (ap (begins_with 125) spaces ∙ name_no_brace after (name, named.0) named.1) (sym spaces) in
    sym begun ∙ read ∙ ap (λ (fs : Fields). Ok (fs, rest)) (joined-is (with_field no_fields name value) others)

array_over : (most : ℕ) (items : Trees) (inside rest : List ℕ) → EachItem most items → SpellsItems items inside → array_at (value_at most) (91 ∷ (inside ++ rest)) ≡ Ok (items, rest)
array_over most no_items inside rest each spelled =
    nothing (item_at (value_at most)) 91 93 no_items (91 ∷ (inside ++ rest)) (inside ++ rest) rest (mark_over 91 (inside ++ rest)) (before_closing 93 inside rest refl spelled)
array_over most (item value others) inside rest each spelled =
    let after = spelled.1 ++ (spelled.2 ++ rest) in
    let regroup : inside ++ rest ≡ spelled.0 ++ (spelled.1 ++ (spelled.2 ++ rest)) = ap (λ (x : List ℕ). x ++ rest) spelled.6 ∙ simp append_assoc in
    let first = each.0 spelled.1 (spelled.2 ++ rest) spelled.4 (goes_no_further value (spelled.2 ++ rest) (later_stops others spelled.2 rest spelled.5)) in
    let spaces : after_spaces (inside ++ rest) ≡ after = ap after_spaces regroup ∙ after_spaces-over spelled.0 after spelled.3 (value_no_space most after (value, spelled.2 ++ rest) first) in
    let read = items_over most (suc (length after)) no_items value others spelled.1 spelled.2 rest each.0 each.1 spelled.4 spelled.5 (omega arith) in
    let begun = opened (item_at (value_at most)) 91 93 no_items (91 ∷ (inside ++ rest)) (inside ++ rest) after (mark_over 91 (inside ++ rest)) (ap (begins_with 93) spaces ∙ value_no_bracket most after (value, spelled.2 ++ rest) first) (sym spaces) in
    sym begun ∙ read ∙ ap (λ (ts : Trees). Ok (ts, rest)) (joined_items-is (with_item no_items value) others)

document_value : (most : ℕ) (fields : Fields) (inside rest : List ℕ) → IsDocument fields → EachField most fields → SpellsFields fields inside → value_at (suc most) (123 ∷ (inside ++ rest)) ≡ Ok (document fields, rest)
unfolding value_at
document_value most fields inside rest apart each spelled = rw (document_over most fields inside rest apart each spelled) refl

array_value : (most : ℕ) (items : Trees) (inside rest : List ℕ) → EachItem most items → SpellsItems items inside → value_at (suc most) (91 ∷ (inside ++ rest)) ≡ Ok (array items, rest)
unfolding value_at
array_value most items inside rest each spelled = rw (array_over most items inside rest each spelled) refl

mutual
  pub all_read : (tree : Tree) (most : ℕ) → value_levels tree ≤ most → Reads most tree
  all_read null most shallow = λ s rest spelled whole. rw spelled (value_scalar most (codes "null" ++ rest) (null, rest) (constant_null rest))
  all_read (int32 number) most shallow = λ s rest spelled whole. value_scalar most (s ++ rest) (int32 number, rest) (int32_read number s rest spelled.0 spelled.1 whole)
  all_read (int64 number) most shallow = λ s rest spelled whole. value_scalar most (s ++ rest) (int64 number, rest) (int64_read number spelled.0 s rest spelled.1 spelled.2 spelled.3)
  all_read (text bytes) most shallow = λ s rest spelled whole. value_scalar most (s ++ rest) (text bytes, rest) (string_read bytes s rest spelled)
  all_read (boolean true) most shallow = λ s rest spelled whole. rw spelled (value_scalar most (codes "true" ++ rest) (boolean true, rest) (constant_true rest))
  all_read (boolean false) most shallow = λ s rest spelled whole. rw spelled (value_scalar most (codes "false" ++ rest) (boolean false, rest) (constant_false rest))
  all_read (date milliseconds) most shallow = λ s rest spelled whole. value_scalar most (s ++ rest) (date milliseconds, rest) (date_read milliseconds spelled.0 spelled.1 spelled.2 s rest spelled.3 spelled.4 spelled.5 spelled.6 spelled.7)
  all_read (binary subtype bytes) most shallow = λ s rest spelled whole. value_scalar most (s ++ rest) (binary subtype bytes, rest) (binary_read subtype bytes spelled.0 spelled.1 spelled.2 spelled.3 spelled.4 s rest spelled.5 spelled.6 spelled.7 spelled.8 spelled.9 spelled.10)
  all_read (object_id bytes) most shallow = λ s rest spelled whole. value_scalar most (s ++ rest) (object_id bytes, rest) (id_read bytes spelled.0 spelled.1 spelled.2 s rest spelled.3 spelled.4 spelled.5 spelled.6 spelled.7)
  all_read (timestamp ts) most shallow = λ s rest spelled whole. value_scalar most (s ++ rest) (timestamp ts, rest) (time_read spelled.0 spelled.1 ts spelled.2 spelled.3 spelled.4 spelled.5 spelled.6 s rest spelled.7 spelled.8 spelled.9 spelled.10 spelled.11 spelled.12 spelled.13)
  all_read (document _) zero shallow = absurd (omega arith)
  all_read (document members) (suc most) shallow = λ s rest spelled whole. rw spelled.3 (document_value most members spelled.1 rest spelled.0 (fields_each members most (omega arith)) spelled.2)
  all_read (array items) zero shallow = absurd (omega arith)
  all_read (array items) (suc most) shallow = λ s rest spelled whole. rw spelled.2 (array_value most items spelled.0 rest (items_each items most (omega arith)) spelled.1)

  pub fields_each : (fields : Fields) (most : ℕ) → fields_levels fields ≤ most → EachField most fields
  fields_each no_fields most shallow = tt
  fields_each (field name value others) most shallow = (all_read value most (omega arith), fields_each others most (omega arith))

  pub items_each : (items : Trees) (most : ℕ) → items_levels items ≤ most → EachItem most items
  items_each no_items most shallow = tt
  items_each (item value others) most shallow = (all_read value most (omega arith), items_each others most (omega arith))

-- ---- the answer

pub stands_answer : (bytes : List ℕ) (at : ℕ) (tree : Tree) (end : ℕ) → at ≤ length bytes → Stands bytes at tree end → answer_at bytes at ≡ Ok (tree, end)
stands_answer bytes at tree end within stands =
    let read = all_read tree 100 stands.shallow stands.spelling stands.rest stands.spelled stands.whole in
    let len : length bytes - at ≡ length stands.spelling + length stands.rest = sym (length-drop at bytes) ∙ ap length stands.parts ∙ length-append stands.spelling stands.rest in
    let place : length bytes - length stands.rest ≡ end = omega (arith, len, within, stands.place) in
    ap (λ (x : List ℕ). in_text (length bytes) (value_at 100 x)) stands.parts ∙ rw read (ap (λ (n : ℕ). Ok (tree, n)) place)

pub read_answer : (bytes front : List ℕ) (at : ℕ) (tree : Tree) (rest : List ℕ) → front ≡ drop at bytes → value_at 100 front ≡ Ok (tree, rest) → answer_at bytes at ≡ Ok (tree, length bytes - length rest)
read_answer bytes front at tree rest is read = ap (λ (x : List ℕ). in_text (length bytes) (value_at 100 x)) (sym is) ∙ rw read refl

pub refused_answer : (bytes front : List ℕ) (at : ℕ) (fault : Fault) → front ≡ drop at bytes → value_at 100 front ≡ Err fault → answer_at bytes at ≡ Err (placed (length bytes) fault)
refused_answer bytes front at fault is read = ap (λ (x : List ℕ). in_text (length bytes) (value_at 100 x)) (sym is) ∙ rw read refl
