-- Values, with the documents and arrays among them.
use Rattle.std.specs.Prelude.{◌≡◌, ℕ, zero, suc, ◌-◌, ◌||◌, List, length, drop, Result, Ok, Err, if◌then◌else◌, is_some}
use Rattle.bson_doc.specs.Bind.{◌>>=◌}
use Rattle.bson_doc.specs.declared.doc.Value.{Value}
use Rattle.bson_doc.specs.Tree.{Tree, document, array, Fields, no_fields, Trees, no_items, found, with_field, with_item}
use Rattle.bson_doc.specs.View.{tree_of}
use Rattle.doc_text.specs.declared.errors.TextError.{TextError}
use Rattle.doc_text.specs.declared.errors.TextError.TheVariants as errors
use Rattle.doc_text.specs.declared.fault.Rule.TheVariants.{Unexpected, DuplicateName, TooDeep}
use Rattle.doc_text.specs.Class.{after_spaces}
use Rattle.doc_text.specs.Fault.{Read, fails, placed}
use Rattle.doc_text.specs.Marks.{begins_with, mark_at, spaced_at}
use Rattle.doc_text.specs.Names.{name_at}
use Rattle.doc_text.specs.Scalars.{scalar_at}

-- The name of a field after those that were read, through its colon. A name that one of them has is refused
-- at its first byte, once it is read whole.
unfoldable pub key_at : Fields → List ℕ → Read (List ℕ)
key_at so_far text = do
  name ← name_at text
  if is_some (found name.0 so_far) then fails DuplicateName text else (do
    inside ← spaced_at 58 name.1
    Ok (name.0, inside))

-- one more field, whose value `member` reads
unfoldable pub field_at : (List ℕ → Read Tree) → Fields → List ℕ → Read Fields
field_at member so_far text = do
  name ← key_at so_far text
  value ← member name.1
  Ok (with_field so_far name.0 value.0, value.1)

-- one more item
unfoldable pub item_at : (List ℕ → Read Tree) → Trees → List ℕ → Read Trees
item_at member so_far text = do
  value ← member text
  Ok (with_item so_far value.0, value.1)

-- one or more members up to the closing mark, after those that were read, and at most this many
unfoldable pub members_at : {A : Type 0} → (A → List ℕ → Read A) → ℕ → ℕ → A → List ℕ → Read A
members_at more close zero so_far text = fails Unexpected text
members_at more close (suc most) so_far text = do
  grown ← more so_far text
  if begins_with close (after_spaces grown.1) then Ok (grown.0, drop 1 (after_spaces grown.1)) else (do
    rest ← spaced_at 44 grown.1
    members_at more close most grown.0 rest)

-- members after their opening mark; there are fewer of them than bytes
unfoldable pub inside_at : {A : Type 0} → (A → List ℕ → Read A) → ℕ → A → List ℕ → Read A
inside_at more close none text =
    if begins_with close text then Ok (none, drop 1 text)
    else members_at more close (suc (length text)) none text

-- members between their marks
unfoldable pub listed_at : {A : Type 0} → (A → List ℕ → Read A) → ℕ → ℕ → A → List ℕ → Read A
listed_at more opening close none text = do
  inside ← mark_at opening text
  inside_at more close none (after_spaces inside)

-- `{name: value, ..}`, where `member` reads the values
abbrev pub document_at : (List ℕ → Read Tree) → List ℕ → Read Fields
document_at member = listed_at (field_at member) 123 125 no_fields

-- `[value, ..]`, where `member` reads the values
abbrev pub array_at : (List ℕ → Read Tree) → List ℕ → Read Trees
array_at member = listed_at (item_at member) 91 93 no_items

-- a value of at most this many levels of documents and arrays
unfoldable pub value_at : ℕ → List ℕ → Read Tree
value_at zero text =
    if begins_with 123 text || begins_with 91 text then fails TooDeep text else scalar_at text
value_at (suc levels) text =
    if begins_with 123 text then (document_at (value_at levels) text >>= λ fields.
    Ok (document fields.0, fields.1))
    else if begins_with 91 text then (array_at (value_at levels) text >>= λ items.
    Ok (array items.0, items.1))
    else scalar_at text

-- the value with the place after it, or the error with its place, in a text of this many bytes
abbrev pub in_text : ℕ → Read Tree → Result (Tree × ℕ) TextError
in_text len (Ok value) = Ok (value.0, len - length value.1)
in_text len (Err fault) = Err (placed len fault)

-- what is at a place of a text: a value of at most 100 levels, or an error
abbrev pub answer_at : List ℕ → ℕ → Result (Tree × ℕ) TextError
answer_at text at = in_text (length text) (value_at 100 (drop at text))

-- the result is this answer, unless memory ran out
abbrev pub Answers : Result (Value × ℕ) TextError → Result (Tree × ℕ) TextError → Type 0
Answers (Ok value) answer = answer ≡ Ok (tree_of value.0, value.1)
Answers (Err errors.Memory) answer = Unit {0}
Answers (Err error) answer = answer ≡ Err error
