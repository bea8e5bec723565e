-- What is spelled is read: values, fields, items and documents.
use Rattle.std.proofs.Common.{◌≡◌, ℕ, ℤ, zero, suc, ◌+◌, ◌-◌, ◌^◌, ◌<◌, ◌≤◌, Bool, true, false, List, [], ◌∷◌, ◌++◌, length, drop, Contains, None, Result, Ok, refl, sym, ap, subst, ◌∙◌, append_assoc, arith}
use Rattle.std.specs.Prelude.{FitsSigned, nat_lt, nat_le}
use Rattle.std.specs.Int.{w32, w64, cast_unsigned}
use Rattle.std.specs.Fmt.{decimal}
use Rattle.std.specs.Str.{is_utf8, bytes_eq}
use Rattle.std.proofs.lemmas.Bool.{le-ltb}
use Rattle.std.proofs.lemmas.Bool.Decides.{nat_tests}
use Rattle.std.proofs.lemmas.Cmp.{nat_list_eq_equiv}
use Rattle.std.proofs.Math.Facts.{Fits-of_z}
use Rattle.std.proofs.lemmas.Int.{to_z-of_z}
use Rattle.std.proofs.lemmas.List.{length-append, drop_at}
use Rattle.bson_doc.specs.Tree as tree
use Rattle.bson_doc.specs.Tree.{Tree, Fields, no_fields, field, Trees, no_items, item, found, with_field, with_item, IsDocument}
use Rattle.bson_doc.specs.Key.{type_byte}
use Rattle.bson_doc.proofs.DocLemmas.{not_first}
use Rattle.bson_codec.specs.declared.kind.Kind as declared
use Rattle.bson_codec.specs.declared.kind.Kind.TheVariants as kinds
use Rattle.bson_codec.specs.declared.error.DecodeError.{DecodeError}
use Rattle.bson_doc.specs.Length.{value_levels, fields_levels, items_levels, value_length, fields_length, items_length}
use Rattle.bson_codec.specs.Numbers.{number_bytes, number_in}
use Rattle.bson_codec.specs.Reading.{Inner, binary_at, boolean_at, kind_of, value_at, field_at, ends_at, fields_in, item_at, items_in, content_at, inner_at}
use Rattle.bson_codec.specs.Sound.{IsSoundValue, AreSoundFields, AreSoundItems, IsSound}
use Rattle.bson_codec.specs.Spelling.{element, value_bytes, fields_bytes, items_bytes, IsSpelling}
use Rattle.bson_codec.specs.Wholes.{outer_length, fields_within, read_document}
use Rattle.bson_codec.proofs.PartLemmas.{number_again, number_back, bytes_again, length_again, text_again, name_again, known_name_again}
use Rattle.bson_codec.proofs.SpellingLemmas.{length-number_bytes, length-value_bytes, length-fields_bytes, length-items_bytes}

abbrev kind_for : Tree → declared.Kind
kind_for (tree.text letters) = kinds.Text
kind_for (tree.document fs) = kinds.Document
kind_for (tree.array ts) = kinds.Array
kind_for (tree.binary subtype bytes) = kinds.Binary
kind_for (tree.object_id bytes) = kinds.ObjectId
kind_for (tree.boolean truth) = kinds.Boolean
kind_for (tree.date milliseconds) = kinds.Date
kind_for tree.null = kinds.Null
kind_for (tree.int32 number) = kinds.Int32
kind_for (tree.timestamp ts) = kinds.Timestamp
kind_for (tree.int64 number) = kinds.Int64

kind_again : (value : Tree) → kind_of (type_byte value) ≡ Ok (kind_for value)
unfolding kind_of
kind_again (tree.text letters) = refl
kind_again (tree.document fs) = refl
kind_again (tree.array ts) = refl
kind_again (tree.binary subtype bytes) = refl
kind_again (tree.object_id bytes) = refl
kind_again (tree.boolean truth) = refl
kind_again (tree.date milliseconds) = refl
kind_again tree.null = refl
kind_again (tree.int32 number) = refl
kind_again (tree.timestamp ts) = refl
kind_again (tree.int64 number) = refl

-- no kind is the closing zero
goes_on : (value : Tree) (rest : List ℕ) → ends_at (type_byte value ∷ rest) ≡ Ok false
goes_on (tree.text letters) rest = refl
goes_on (tree.document fs) rest = refl
goes_on (tree.array ts) rest = refl
goes_on (tree.binary subtype bytes) rest = refl
goes_on (tree.object_id bytes) rest = refl
goes_on (tree.boolean truth) rest = refl
goes_on (tree.date milliseconds) rest = refl
goes_on tree.null rest = refl
goes_on (tree.int32 number) rest = refl
goes_on (tree.timestamp ts) rest = refl
goes_on (tree.int64 number) rest = refl

-- how what is inside is read again
pub record InnerAgain (levels : ℕ) (inner : Inner) : Type 0 where
  pub documents : (fs : Fields) (rest : List ℕ) → IsSound fs → 1 + fields_levels fs ≤ levels → 5 + fields_length fs < 2 ^ 31 → inner false (value_bytes (tree.document fs) ++ rest) ≡ Ok (tree.document fs, rest)
  pub arrays : (ts : Trees) (rest : List ℕ) → AreSoundItems ts → 1 + items_levels ts ≤ levels → 5 + items_length 0 ts < 2 ^ 31 → inner true (value_bytes (tree.array ts) ++ rest) ≡ Ok (tree.array ts, rest)

binary_again : (subtype : ℕ) (bytes rest : List ℕ) → length bytes < 2 ^ 31 → binary_at (value_bytes (tree.binary subtype bytes) ++ rest) ≡ Ok (tree.binary subtype bytes, rest)
unfolding binary_at
binary_again subtype bytes rest short =
    let regrouped : value_bytes (tree.binary subtype bytes) ++ rest ≡ number_bytes 4 (length bytes) ++ (subtype ∷ (bytes ++ rest)) = append_assoc (number_bytes 4 (length bytes)) (subtype ∷ bytes) rest in
    ap binary_at regrouped ∙ rw (length_again 0 (length bytes) (subtype ∷ (bytes ++ rest)) (omega arith) short, bytes_again (length bytes) bytes rest refl) refl

boolean_again : (truth : Bool) (rest : List ℕ) → boolean_at (value_bytes (tree.boolean truth) ++ rest) ≡ Ok (tree.boolean truth, rest)
unfolding boolean_at
boolean_again true rest = refl
boolean_again false rest = refl

cast32 : (z : ℤ) → FitsSigned w32 z → cast_unsigned w32 z < 256 ^ 4
cast32 z fits = (Fits-of_z {w = w32} {z = z} fits).fits

cast64 : (z : ℤ) → FitsSigned w64 z → cast_unsigned w64 z < 256 ^ 8
cast64 z fits = (Fits-of_z {w = w64} {z = z} fits).fits

value_again : (levels : ℕ) (inner : Inner) → InnerAgain levels inner → (value : Tree) (rest : List ℕ) → IsSoundValue value → value_levels value ≤ levels → value_length value < 2 ^ 31 → value_at inner (kind_for value) (value_bytes value ++ rest) ≡ Ok (value, rest)
value_again levels inner within (tree.text letters) rest sound flat short = rw (text_again letters rest sound (omega arith)) refl
value_again levels inner within (tree.document fs) rest sound flat short = within.documents fs rest sound flat short
value_again levels inner within (tree.array ts) rest sound flat short = within.arrays ts rest sound flat short
value_again levels inner within (tree.binary subtype bytes) rest sound flat short = binary_again subtype bytes rest (omega arith)
value_again levels inner within (tree.object_id bytes) rest sound flat short = rw (bytes_again 12 bytes rest sound) refl
value_again levels inner within (tree.boolean truth) rest sound flat short = boolean_again truth rest
value_again levels inner within (tree.date milliseconds) rest sound flat short = rw (number_again 8 (cast_unsigned w64 milliseconds) rest (cast64 milliseconds sound), to_z-of_z w64 milliseconds sound) refl
value_again levels inner within tree.null rest sound flat short = refl
value_again levels inner within (tree.int32 number) rest sound flat short = rw (number_again 4 (cast_unsigned w32 number) rest (cast32 number sound), to_z-of_z w32 number sound) refl
value_again levels inner within (tree.timestamp ts) rest sound flat short = rw (number_again 8 ts rest (omega arith)) refl
value_again levels inner within (tree.int64 number) rest sound flat short = rw (number_again 8 (cast_unsigned w64 number) rest (cast64 number sound), to_z-of_z w64 number sound) refl

-- ---- fields

field_again : (levels : ℕ) (inner : Inner) → InnerAgain levels inner → (seen : Fields) (name : List ℕ) (value : Tree) (rest : List ℕ) → found name seen ≡ None → is_utf8 name ≡ true → ¬ Contains name 0 → IsSoundValue value → value_levels value ≤ levels → value_length value < 2 ^ 31
    → field_at inner seen (element (type_byte value) name (value_bytes value) ++ rest) ≡ Ok ((name, value), rest)
unfolding field_at
field_again levels inner within seen name value rest new valid clean sound flat short =
    let regrouped : element (type_byte value) name (value_bytes value) ++ rest ≡ type_byte value ∷ (name ++ 0 ∷ (value_bytes value ++ rest)) = ap (λ (t : List ℕ). type_byte value ∷ t) (append_assoc name (0 ∷ value_bytes value) rest) in
    ap (field_at inner seen) regrouped
    ∙ rw (kind_again value, name_again name (value_bytes value ++ rest) valid clean, new, value_again levels inner within value rest sound flat short) refl

-- the fields seen and more
abbrev joined : Fields → Fields → Fields
joined no_fields more = more
joined (field name value rest) more = field name value (joined rest more)

joined-none : (seen : Fields) → joined seen no_fields ≡ seen
joined-none no_fields = refl
joined-none (field name value rest) = ap (λ (fs : Fields). field name value fs) (joined-none rest)

joined-with : (seen : Fields) (name : List ℕ) (value : Tree) (more : Fields) → joined (with_field seen name value) more ≡ joined seen (field name value more)
joined-with no_fields name value more = refl
joined-with (field first one rest) name value more = ap (λ (fs : Fields). field first one fs) (joined-with rest name value more)

apart_from : (seen : Fields) (wanted name : List ℕ) (value : Tree) (more : Fields) → found wanted (joined seen (field name value more)) ≡ None → bytes_eq name wanted ≡ false
apart_from no_fields wanted name value more none = (not_first (bytes_eq name wanted) value (found wanted more) none).0
apart_from (field first one rest) wanted name value more none = apart_from rest wanted name value more (not_first (bytes_eq first wanted) one (found wanted (joined rest (field name value more))) none).1

-- the next name is new and clean
next_name : (seen : Fields) (name : List ℕ) (value : Tree) (more : Fields) → IsDocument (joined seen (field name value more)) → (found name seen ≡ None) × (¬ Contains name 0)
next_name no_fields name value more names = (refl, names.0)
next_name (field first one rest) name value more names =
    let later = next_name rest name value more names.2 in
    let other : bytes_eq first name ≡ false = nat_list_eq_equiv.symm first name ∙ apart_from rest first name value more names.1 in
    (rw other later.0, later.1)

pub fields_again : (turns levels : ℕ) (inner : Inner) → InnerAgain levels inner → (seen more : Fields) → 1 + fields_length more ≤ turns → IsDocument (joined seen more) → AreSoundFields more → fields_levels more ≤ levels → fields_length more < 2 ^ 31
    → fields_in turns inner seen (fields_bytes more ++ 0 ∷ []) ≡ Ok (joined seen more)
unfolding fields_in
fields_again zero levels inner within seen more enough names sound flat short = absurd (omega arith)
fields_again (suc turns) levels inner within seen no_fields enough names sound flat short = ap (λ (fs : Fields). Ok fs) (sym (joined-none seen))
fields_again (suc turns) levels inner within seen (field name value more) enough names sound flat short =
    let after = fields_bytes more ++ 0 ∷ [] in
    let regrouped : fields_bytes (field name value more) ++ 0 ∷ [] ≡ element (type_byte value) name (value_bytes value) ++ after = append_assoc (element (type_byte value) name (value_bytes value)) (fields_bytes more) (0 ∷ []) in
    let next = next_name seen name value more names in
    let one = field_again levels inner within seen name value after next.0 sound.0 next.1 sound.1 (omega arith) (omega arith) in
    let moved : IsDocument (joined (with_field seen name value) more) = subst (λ (fs : Fields). IsDocument fs) (sym (joined-with seen name value more)) names in
    let later = fields_again turns levels inner within (with_field seen name value) more (omega arith) moved sound.2 (omega arith) (omega arith) in
    ap (fields_in (suc turns) inner seen) regrouped
    ∙ rw (goes_on value ((name ++ 0 ∷ value_bytes value) ++ after), one, later) (ap (λ (fs : Fields). Ok fs) (joined-with seen name value more))

-- ---- items

item_again : (levels : ℕ) (inner : Inner) → InnerAgain levels inner → (place : ℕ) (value : Tree) (rest : List ℕ) → IsSoundValue value → value_levels value ≤ levels → value_length value < 2 ^ 31
    → item_at inner place (element (type_byte value) (decimal place) (value_bytes value) ++ rest) ≡ Ok (value, rest)
unfolding item_at
item_again levels inner within place value rest sound flat short =
    let regrouped : element (type_byte value) (decimal place) (value_bytes value) ++ rest ≡ type_byte value ∷ ((decimal place ++ 0 ∷ []) ++ (value_bytes value ++ rest)) =
    ap (λ (t : List ℕ). type_byte value ∷ t) (append_assoc (decimal place) (0 ∷ value_bytes value) rest ∙ sym (append_assoc (decimal place) (0 ∷ []) (value_bytes value ++ rest))) in
    ap (item_at inner place) regrouped
    ∙ rw (kind_again value, known_name_again (decimal place ++ 0 ∷ []) (value_bytes value ++ rest), value_again levels inner within value rest sound flat short) refl

abbrev joined_items : Trees → Trees → Trees
joined_items no_items more = more
joined_items (item value rest) more = item value (joined_items rest more)

items-none : (seen : Trees) → joined_items seen no_items ≡ seen
items-none no_items = refl
items-none (item value rest) = ap (λ (ts : Trees). item value ts) (items-none rest)

items-with : (seen : Trees) (value : Tree) (more : Trees) → joined_items (with_item seen value) more ≡ joined_items seen (item value more)
items-with no_items value more = refl
items-with (item one rest) value more = ap (λ (ts : Trees). item one ts) (items-with rest value more)

pub items_again : (turns levels : ℕ) (inner : Inner) → InnerAgain levels inner → (place : ℕ) (seen more : Trees) → 1 + items_length place more ≤ turns → AreSoundItems more → items_levels more ≤ levels → items_length place more < 2 ^ 31
    → items_in turns inner place seen (items_bytes place more ++ 0 ∷ []) ≡ Ok (joined_items seen more)
unfolding items_in
items_again zero levels inner within place seen more enough sound flat short = absurd (omega arith)
items_again (suc turns) levels inner within place seen no_items enough sound flat short = ap (λ (ts : Trees). Ok ts) (sym (items-none seen))
items_again (suc turns) levels inner within place seen (item value more) enough sound flat short =
    let after = items_bytes (place + 1) more ++ 0 ∷ [] in
    let regrouped : items_bytes place (item value more) ++ 0 ∷ [] ≡ element (type_byte value) (decimal place) (value_bytes value) ++ after = append_assoc (element (type_byte value) (decimal place) (value_bytes value)) (items_bytes (place + 1) more) (0 ∷ []) in
    let one = item_again levels inner within place value after sound.0 (omega arith) (omega arith) in
    let later = items_again turns levels inner within (place + 1) (with_item seen value) more (omega arith) sound.1 (omega arith) (omega arith) in
    ap (items_in (suc turns) inner place seen) regrouped
    ∙ rw (goes_on value ((decimal place ++ 0 ∷ value_bytes value) ++ after), one, later) (ap (λ (ts : Trees). Ok ts) (items-with seen value more))

-- ---- documents and arrays inside

content_again : (long : ℕ) (body rest : List ℕ) → length body ≡ long → 5 + long < 2 ^ 31 → content_at (number_bytes 4 (5 + long) ++ body ++ 0 ∷ [] ++ rest) ≡ Ok (body ++ 0 ∷ [], rest)
unfolding content_at
content_again long body rest counts short =
    let regrouped : number_bytes 4 (5 + long) ++ body ++ 0 ∷ [] ++ rest ≡ number_bytes 4 (5 + long) ++ ((body ++ 0 ∷ []) ++ rest) = simp append_assoc in
    ap content_at regrouped ∙ rw (length_again 5 (5 + long) ((body ++ 0 ∷ []) ++ rest) (omega arith) short, bytes_again (5 + long - 4) (body ++ 0 ∷ []) rest (omega (arith, length-append body (0 ∷ []), counts))) refl

members_fields : (levels : ℕ) (inner : Inner) → InnerAgain levels inner → (fs : Fields) → IsSound fs → fields_levels fs ≤ levels → fields_length fs < 2 ^ 31 → fields_in (length (fields_bytes fs ++ 0 ∷ [])) inner no_fields (fields_bytes fs ++ 0 ∷ []) ≡ Ok fs
members_fields levels inner within fs sound flat short =
    fields_again (length (fields_bytes fs ++ 0 ∷ [])) levels inner within no_fields fs (omega (arith, length-append (fields_bytes fs) (0 ∷ []), length-fields_bytes fs)) sound.0 sound.1 flat short

members_items : (levels : ℕ) (inner : Inner) → InnerAgain levels inner → (ts : Trees) → AreSoundItems ts → items_levels ts ≤ levels → items_length 0 ts < 2 ^ 31 → items_in (length (items_bytes 0 ts ++ 0 ∷ [])) inner 0 no_items (items_bytes 0 ts ++ 0 ∷ []) ≡ Ok ts
members_items levels inner within ts sound flat short =
    items_again (length (items_bytes 0 ts ++ 0 ∷ [])) levels inner within 0 no_items ts (omega (arith, length-append (items_bytes 0 ts) (0 ∷ []), length-items_bytes 0 ts)) sound flat short

pub inner_again : (levels : ℕ) → InnerAgain levels (inner_at levels)
unfolding inner_at
inner_again zero = record {
  documents = λ fs rest sound flat short. absurd (omega arith);
  arrays = λ ts rest sound flat short. absurd (omega arith);
}
inner_again (suc levels) = record {
  documents = λ fs rest sound flat short.
      rw (content_again (fields_length fs) (fields_bytes fs) rest (length-fields_bytes fs) short, members_fields levels (inner_at levels) (inner_again levels) fs sound (omega arith) (omega arith)) refl;
  arrays = λ ts rest sound flat short.
      rw (content_again (items_length 0 ts) (items_bytes 0 ts) rest (length-items_bytes 0 ts) short, members_items levels (inner_at levels) (inner_again levels) ts sound (omega arith) (omega arith)) refl;
}

-- ---- the whole

outer_again : (bound : ℕ) (bytes : List ℕ) → 5 ≤ length bytes → length bytes ≤ bound → bound < 2 ^ 31 → number_in 4 bytes ≡ length bytes → outer_length bound bytes ≡ Ok (length bytes)
outer_again bound bytes least most small is =
    let four : nat_lt (length bytes) 4 ≡ false = le-ltb _ _ (omega arith) in
    let five : nat_lt (length bytes) 5 ≡ false = le-ltb _ _ least in
    let positive : nat_le (2 ^ 31) (length bytes) ≡ false = grind (arith, nat_tests) in
    let in_bound : nat_lt bound (length bytes) ≡ false = le-ltb _ _ most in
    let same : nat_lt (length bytes) (length bytes) ≡ false = le-ltb _ _ (omega arith) in
    rw (four, is, five, positive, in_bound, same) refl

within_again : (levels : ℕ) (fs : Fields) → IsSound fs → 1 + fields_levels fs ≤ levels → fields_length fs < 2 ^ 31 → fields_within levels (fields_bytes fs ++ 0 ∷ []) ≡ Ok fs
within_again zero fs sound flat short = absurd (omega arith)
within_again (suc levels) fs sound flat short = members_fields levels (inner_at levels) (inner_again levels) fs sound (omega arith) short

pub document_again : (bound levels : ℕ) (bytes : List ℕ) (fs : Fields) → bound < 2 ^ 31 → IsSound fs → IsSpelling bound levels fs bytes → read_document bound levels bytes ≡ Ok fs
unfolding read_document
document_again bound levels bytes fs small sound spelling =
    let long : length bytes ≡ 5 + fields_length fs = ap length spelling.spelled ∙ length-value_bytes (tree.document fs) in
    let regrouped : bytes ≡ number_bytes 4 (5 + fields_length fs) ++ (fields_bytes fs ++ 0 ∷ []) = spelling.spelled ∙ append_assoc (number_bytes 4 (5 + fields_length fs)) (fields_bytes fs) (0 ∷ []) in
    let first : number_in 4 bytes ≡ length bytes = ap (number_in 4) regrouped ∙ number_back 4 (5 + fields_length fs) (fields_bytes fs ++ 0 ∷ []) (omega (arith, long, spelling.in_bytes)) ∙ sym long in
    let after : drop 4 bytes ≡ fields_bytes fs ++ 0 ∷ [] = ap (drop 4) regrouped ∙ drop_at (number_bytes 4 (5 + fields_length fs)) (fields_bytes fs ++ 0 ∷ []) 4 (length-number_bytes 4 (5 + fields_length fs)) in
    rw (outer_again bound bytes (omega (arith, long)) spelling.in_bytes small first, after) (within_again levels fs sound spelling.in_levels (omega (arith, long, spelling.in_bytes)))

abbrev done : Fields → Result Fields DecodeError
done fs = Ok fs

same_done : (one two : Fields) → done one ≡ done two → one ≡ two
same_done one two e = cc

-- bytes are the spelling of one document at most
pub one_document : (bound levels : ℕ) (bytes : List ℕ) (one two : Fields) → bound < 2 ^ 31 → IsSound one → IsSound two → IsSpelling bound levels one bytes → IsSpelling bound levels two bytes → one ≡ two
one_document bound levels bytes one two small sound too first second =
    same_done one two (sym (document_again bound levels bytes one small sound first) ∙ document_again bound levels bytes two small too second)
