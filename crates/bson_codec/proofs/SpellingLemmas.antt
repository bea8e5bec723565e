-- A document has as many bytes as its length says.
use Rattle.std.proofs.Common.{ℕ, ◌≡◌, ◌+◌, ◌-◌, List, [], ◌∷◌, ◌++◌, length, take, drop, refl, ap, append_assoc, arith}
use Rattle.std.specs.Fmt.{decimal}
use Rattle.std.proofs.lemmas.List.{length-append, take_at, drop_at}
use Rattle.byteorder.specs.Numbers.{length-bytes_low_first}
use Rattle.bson_doc.specs.Tree.{Tree, null, int32, int64, text, document, array, binary, object_id, boolean, date, timestamp, Fields, no_fields, field, Trees, no_items, item}
use Rattle.bson_doc.specs.Key.{type_byte}
use Rattle.bson_doc.specs.Length.{value_length, fields_length, items_length}
use Rattle.bson_codec.specs.Numbers.{number_bytes}
use Rattle.bson_codec.specs.Spelling.{element, value_bytes, fields_bytes, items_bytes}

pub length-number_bytes : (n x : ℕ) → length (number_bytes n x) ≡ n
unfolding number_bytes
length-number_bytes n x = length-bytes_low_first 0 n x

length-element : (kind : ℕ) (name value : List ℕ) → length (element kind name value) ≡ 2 + length name + length value
length-element kind name value = omega (arith, length-append name (0 ∷ value))

length-framed : (n : ℕ) (body : List ℕ) → length (number_bytes 4 n ++ body ++ 0 ∷ []) ≡ 5 + length body
length-framed n body = omega (arith, length-append (number_bytes 4 n ++ body) (0 ∷ []), length-append (number_bytes 4 n) body, length-number_bytes 4 n)

mutual
  pub length-value_bytes : (value : Tree) → length (value_bytes value) ≡ value_length value
  length-value_bytes (text letters) = omega (arith, length-framed (length letters + 1) letters)
  length-value_bytes (document fields) = omega (arith, length-framed (5 + fields_length fields) (fields_bytes fields), length-fields_bytes fields)
  length-value_bytes (array items) = omega (arith, length-framed (5 + items_length 0 items) (items_bytes 0 items), length-items_bytes 0 items)
  length-value_bytes (binary subtype bytes) = omega (arith, length-append (number_bytes 4 (length bytes)) (subtype ∷ bytes), length-number_bytes 4 (length bytes))
  length-value_bytes (object_id bytes) = refl
  length-value_bytes (boolean truth) = refl
  length-value_bytes (date milliseconds) = length-number_bytes 8 _
  length-value_bytes (int64 number) = length-number_bytes 8 _
  length-value_bytes null = refl
  length-value_bytes (int32 number) = length-number_bytes 4 _
  length-value_bytes (timestamp ts) = length-number_bytes 8 ts

  pub length-fields_bytes : (fields : Fields) → length (fields_bytes fields) ≡ fields_length fields
  length-fields_bytes no_fields = refl
  length-fields_bytes (field name value rest) =
      omega (arith, length-append (element (type_byte value) name (value_bytes value)) (fields_bytes rest), length-element (type_byte value) name (value_bytes value), length-value_bytes value, length-fields_bytes rest)

  pub length-items_bytes : (place : ℕ) (items : Trees) → length (items_bytes place items) ≡ items_length place items
  length-items_bytes place no_items = refl
  length-items_bytes place (item value rest) =
      omega (arith, length-append (element (type_byte value) (decimal place) (value_bytes value)) (items_bytes (place + 1) rest), length-element (type_byte value) (decimal place) (value_bytes value), length-value_bytes value, length-items_bytes (place + 1) rest)

-- a length that is put into its room once the rest is written
pub closed : (old room body out : List ℕ) → length room ≡ 4 → out ≡ (old ++ room) ++ body
    → (take (length old) out ++ number_bytes 4 (length out + 1 - length old)) ++ (drop (length old + 4) out ++ 0 ∷ []) ≡ old ++ (number_bytes 4 (5 + length body) ++ body ++ 0 ∷ [])
closed old room body out four whole =
    let front : take (length old) out ≡ old = rw (whole, append_assoc) (take_at old (room ++ body) (length old) refl) in
    let after : drop (length old + 4) out ≡ body = rw whole (drop_at (old ++ room) body (length old + 4) (omega (arith, length-append old room))) in
    let count : length out + 1 - length old ≡ 5 + length body = omega (arith, ap length whole, length-append (old ++ room) body, length-append old room) in
    rw (front, after, count) (simp append_assoc)

-- how many bytes follow, put into its room once they are written
pub sized_after : (old room body out : List ℕ) → length room ≡ 4 → out ≡ (old ++ room) ++ body
    → (take (length old) out ++ number_bytes 4 (length out - (length old + 4))) ++ drop (length old + 4) out ≡ old ++ (number_bytes 4 (length body) ++ body)
sized_after old room body out four whole =
    let front : take (length old) out ≡ old = rw (whole, append_assoc) (take_at old (room ++ body) (length old) refl) in
    let after : drop (length old + 4) out ≡ body = rw whole (drop_at (old ++ room) body (length old + 4) (omega (arith, length-append old room))) in
    let count : length out - (length old + 4) ≡ length body = omega (arith, ap length whole, length-append (old ++ room) body, length-append old room) in
    rw (front, after, count) (simp append_assoc)
