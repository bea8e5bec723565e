-- Reading bytes from start to end. Each definition gives what it reads and the bytes after that, or the first
-- rule that is broken. The bytes are those up to the end of the document that is read.
use Rattle.std.specs.Prelude.{ℕ, zero, suc, ◌+◌, ◌-◌, ◌^◌, Bool, true, false, List, [], ◌∷◌, ◌++◌, length, take, drop, slice_index, Option, Some, None, Result, Ok, Err, nat_lt, nat_le, ◌==◌, ◌||◌, ◌&&◌, is_some, position, if◌then◌else◌}
use Rattle.std.specs.Int.{w32, w64, cast_signed}
use Rattle.std.specs.Fmt.{decimal}
use Rattle.std.specs.Str.{is_utf8}
use Rattle.std.specs.Str.Lossy.{utf8_valid_len, utf8_error_len}
use Rattle.bson_doc.specs.Bind.{◌>>=◌}
use Rattle.bson_doc.specs.Tree as tree
use Rattle.bson_doc.specs.Tree.{Tree, Fields, no_fields, Trees, no_items, found, with_field, with_item}
use Rattle.bson_codec.specs.declared.kind.Kind as declared
use Rattle.bson_codec.specs.declared.kind.Kind.TheVariants as kinds
use Rattle.bson_codec.specs.declared.error.DecodeError.{DecodeError}
use Rattle.bson_codec.specs.declared.error.DecodeError.TheVariants as rules
use Rattle.bson_codec.specs.Numbers.{number_in}

-- what is read, and the bytes after it
abbrev pub Read : Type 0 → Type 0
Read X = Result (X × List ℕ) DecodeError

abbrev pub number_at : ℕ → List ℕ → Read ℕ
number_at n bytes = if nat_lt (length bytes) n then Err rules.Length else Ok (number_in n bytes, drop n bytes)

abbrev pub bytes_at : ℕ → List ℕ → Read (List ℕ)
bytes_at n bytes = if nat_lt (length bytes) n then Err rules.Length else Ok (take n bytes, drop n bytes)

abbrev pub byte_at : List ℕ → Read ℕ
byte_at [] = Err rules.Length
byte_at (b ∷ rest) = Ok (b, rest)

-- a length that is neither negative nor too small for its kind
unfoldable pub length_at : ℕ → List ℕ → Read ℕ
length_at least bytes = do
  n ← number_at 4 bytes
  if nat_lt n.0 least || nat_le (2 ^ 31) n.0 then Err rules.Length else Ok n

abbrev pub utf8 : List ℕ → Result (List ℕ) DecodeError
utf8 bytes = if is_utf8 bytes then Ok bytes else Err rules.Utf8

-- a string: a length that counts the closing zero, letters, and that zero
unfoldable pub text_at : List ℕ → Read (List ℕ)
text_at bytes = do
  n ← length_at 1 bytes
  whole ← bytes_at n.0 n.1
  letters ← utf8 (take (n.0 - 1) whole.0)
  if slice_index whole.0 (n.0 - 1) == 0 then Ok (letters, whole.1) else Err rules.Length

-- a length, a subtype, and as many bytes
unfoldable pub binary_at : List ℕ → Read Tree
binary_at bytes = do
  n ← length_at 0 bytes
  subtype ← byte_at n.1
  content ← bytes_at n.0 subtype.1
  Ok (tree.binary subtype.0 content.0, content.1)

unfoldable pub boolean_at : List ℕ → Read Tree
boolean_at bytes = do
  byte ← byte_at bytes
  if nat_lt byte.0 2 then Ok (tree.boolean (byte.0 == 1), byte.1) else Err rules.Bool

-- a name, up to its zero. Without a zero it is Length, unless a byte before the end isn't UTF-8.
abbrev pub name_up_to : Option ℕ → List ℕ → Read (List ℕ)
name_up_to (Some n) bytes = do
  letters ← utf8 (take n bytes)
  Ok (letters, drop (n + 1) bytes)
name_up_to None bytes =
    if is_some (utf8_error_len (drop (utf8_valid_len bytes) bytes)) then Err rules.Utf8
    else Err rules.Length

unfoldable pub name_at : List ℕ → Read (List ℕ)
name_at bytes = name_up_to (position (λ b. b == 0) bytes) bytes

-- a name that is known in advance, byte by byte, with its zero: any other byte is ArrayName, but Utf8 where
-- no character begins with that byte
unfoldable pub known_name_at : List ℕ → List ℕ → Result (List ℕ) DecodeError
known_name_at [] bytes = Ok bytes
known_name_at (b ∷ name) [] = Err rules.Length
known_name_at (b ∷ name) (c ∷ bytes) =
    if b == c then known_name_at name bytes
    else if nat_lt c 0x80 || (nat_le 0xC2 c && nat_lt c 0xF5) then Err rules.ArrayName else Err rules.Utf8

-- the kind that a byte names
unfoldable pub kind_of : ℕ → Result declared.Kind DecodeError
kind_of byte =
    if byte == 2 then Ok kinds.Text else
    if byte == 3 then Ok kinds.Document else
    if byte == 4 then Ok kinds.Array else
    if byte == 5 then Ok kinds.Binary else
    if byte == 7 then Ok kinds.ObjectId else
    if byte == 8 then Ok kinds.Boolean else
    if byte == 9 then Ok kinds.Date else
    if byte == 10 then Ok kinds.Null else
    if byte == 16 then Ok kinds.Int32 else
    if byte == 17 then Ok kinds.Timestamp else
    if byte == 18 then Ok kinds.Int64 else
    Err (rules.Kind byte)

-- how documents and arrays inside are read: false for a document, true for an array
abbrev pub Inner : Type 0
Inner = Bool → List ℕ → Read Tree

abbrev pub value_at : Inner → declared.Kind → List ℕ → Read Tree
value_at inner kinds.Text bytes = text_at bytes >>= λ letters. Ok (tree.text letters.0, letters.1)
value_at inner kinds.Document bytes = inner false bytes
value_at inner kinds.Array bytes = inner true bytes
value_at inner kinds.Binary bytes = binary_at bytes
value_at inner kinds.ObjectId bytes = bytes_at 12 bytes >>= λ id. Ok (tree.object_id id.0, id.1)
value_at inner kinds.Boolean bytes = boolean_at bytes
value_at inner kinds.Date bytes = number_at 8 bytes >>= λ n. Ok (tree.date (cast_signed w64 n.0), n.1)
value_at inner kinds.Null bytes = Ok (tree.null, bytes)
value_at inner kinds.Int32 bytes = number_at 4 bytes >>= λ n. Ok (tree.int32 (cast_signed w32 n.0), n.1)
value_at inner kinds.Timestamp bytes = number_at 8 bytes >>= λ n. Ok (tree.timestamp n.0, n.1)
value_at inner kinds.Int64 bytes = number_at 8 bytes >>= λ n. Ok (tree.int64 (cast_signed w64 n.0), n.1)

abbrev pub new_name : Fields → List ℕ → Result (List ℕ) DecodeError
new_name seen name = if is_some (found name seen) then Err rules.DuplicateName else Ok name

-- a field after those already seen: its kind, its name, which must be new, and its value
unfoldable pub field_at : Inner → Fields → List ℕ → Read (List ℕ × Tree)
field_at inner seen bytes = do
  byte ← byte_at bytes
  kind ← kind_of byte.0
  name ← name_at byte.1
  new ← new_name seen name.0
  value ← value_at inner kind name.1
  Ok ((new, value.0), value.1)

-- whether the closing zero is here, as the last byte
abbrev pub ends_at : List ℕ → Result Bool DecodeError
ends_at [] = Err rules.Length
ends_at (zero ∷ []) = Ok true
ends_at (zero ∷ b ∷ rest) = Err rules.Length
ends_at (suc b ∷ rest) = Ok false

-- the fields after those already seen, up to the closing zero. Each takes at least a byte, so there are at
-- most as many turns as bytes.
unfoldable pub fields_in : ℕ → Inner → Fields → List ℕ → Result Fields DecodeError
fields_in zero inner seen bytes = Err rules.Length
fields_in (suc turns) inner seen bytes =
    ends_at bytes >>= λ ended.
    if ended then Ok seen else
    (field_at inner seen bytes >>= λ next. fields_in turns inner (with_field seen next.0.0 next.0.1) next.1)

-- an item at its place: kind, the place in decimal as its name, and value
unfoldable pub item_at : Inner → ℕ → List ℕ → Read Tree
item_at inner place bytes = do
  byte ← byte_at bytes
  kind ← kind_of byte.0
  after ← known_name_at (decimal place ++ 0 ∷ []) byte.1
  value_at inner kind after

-- the items after those already seen, up to the closing zero
unfoldable pub items_in : ℕ → Inner → ℕ → Trees → List ℕ → Result Trees DecodeError
items_in zero inner place seen bytes = Err rules.Length
items_in (suc turns) inner place seen bytes =
    ends_at bytes >>= λ ended.
    if ended then Ok seen else
    (item_at inner place bytes >>= λ next. items_in turns inner (place + 1) (with_item seen next.0) next.1)

-- the bytes of a document after its length, and those after the document
unfoldable pub content_at : List ℕ → Read (List ℕ)
content_at bytes = do
  n ← length_at 5 bytes
  bytes_at (n.0 - 4) n.1

abbrev pub members_in : Inner → Bool → List ℕ → Result Tree DecodeError
members_in inner false content =
    fields_in (length content) inner no_fields content >>= λ fields. Ok (tree.document fields)
members_in inner true content =
    items_in (length content) inner 0 no_items content >>= λ items. Ok (tree.array items)

-- a document or an array inside, where this many levels are left
unfoldable pub inner_at : ℕ → Inner
inner_at zero is_array bytes = Err rules.TooDeep
inner_at (suc levels) is_array bytes = do
  content ← content_at bytes
  members ← members_in (inner_at levels) is_array content.0
  Ok (members, content.1)
