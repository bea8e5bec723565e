-- What `$inc` does to numbers.
use Rattle.std.specs.Prelude.{◌≡◌, ⊤, ℕ, ℤ, pos, neg_ℤ, ◌+ℤ◌, ◌^◌, ◌-◌, Bool, true, false, not, ◌&&◌, ◌||◌, int_le, Option, None, Some, is_some, unwrap_or, Result, Ok, Err, if◌then◌else◌}
use Rattle.bson_doc.specs.View.{tree_of}
use Rattle.doc_update.specs.declared.increment.Sum.{Sum}
use Rattle.doc_update.specs.declared.increment.Sum.TheVariants.{Whole, WrongSide, NoRoom}
use Rattle.doc_update.specs.Ordered.{placed_all}
use Rattle.doc_update.specs.declared.write.WriteRefusal.{WriteRefusal}
use Rattle.doc_update.specs.declared.write.WriteRefusal.TheVariants.{IncType, IncOverflow, Memory}
use Rattle.bson_doc.specs.Tree.{Tree, int32, int64, Fields, no_fields, field, found}

-- the number of an int32 or an int64
abbrev pub integer_of : Tree → Option ℤ
integer_of (int32 n) = Some n
integer_of (int64 n) = Some n
integer_of _ = None

-- both operands are integers; an absent field is no operand
abbrev pub can_add : Option Tree → Tree → Bool
can_add None operand = is_some (integer_of operand)
can_add (Some old) operand = is_some (integer_of old) && is_some (integer_of operand)

abbrev pub sum_of : Tree → Tree → ℤ
sum_of old operand = unwrap_or (integer_of old) (pos 0) +ℤ unwrap_or (integer_of operand) (pos 0)

-- a number fits in this many bits and a sign
abbrev pub fits : ℕ → ℤ → Bool
fits bits n = int_le (neg_ℤ (pos (2 ^ bits))) n && int_le n (pos (2 ^ bits - 1))

-- the sum doesn't fit in 64 bits
abbrev pub overflows : Option Tree → Tree → Bool
overflows None operand = false
overflows (Some old) operand = not (fits 63 (sum_of old operand))

-- an int32 where both are int32 and the sum fits, else an int64
abbrev pub added : Option Tree → Tree → Tree
added None operand = operand
added (Some (int32 m)) (int32 n) = if fits 31 (m +ℤ n) then int32 (m +ℤ n) else int64 (m +ℤ n)
added (Some old) operand = int64 (sum_of old operand)

-- some operand isn't an integer
abbrev pub has_wrong_side : Fields → Fields → Bool
has_wrong_side document no_fields = false
has_wrong_side document (field name operand rest) =
    not (can_add (found name document) operand) || has_wrong_side document rest

-- some sum doesn't fit in 64 bits
abbrev pub has_overflow : Fields → Fields → Bool
has_overflow document no_fields = false
has_overflow document (field name operand rest) =
    overflows (found name document) operand || has_overflow document rest

-- each name with its sum
abbrev pub sums : Fields → Fields → Fields
sums document no_fields = no_fields
sums document (field name operand rest) =
    field name (added (found name document) operand) (sums document rest)

-- the result of adding to one field
abbrev pub IsSum : Option Tree → Tree → Sum → Type 0
IsSum old operand (Whole v) =
    (can_add old operand ≡ true) × (overflows old operand ≡ false) × (tree_of v ≡ added old operand)
IsSum old operand WrongSide = can_add old operand ≡ false
IsSum old operand NoRoom = (can_add old operand ≡ true) × (overflows old operand ≡ true)

-- the result of adding the sums of all fields, and the fields that are then with the others
abbrev pub AddsSums : Fields → Fields → Fields → Fields → Result (Unit {0}) WriteRefusal → Type 0
AddsSums doc operands before after (Ok done) =
    (has_wrong_side doc operands ≡ false) × (has_overflow doc operands ≡ false)
    × (after ≡ placed_all (sums doc operands) before)
AddsSums doc operands before after (Err IncType) = has_wrong_side doc operands ≡ true
AddsSums doc operands before after (Err IncOverflow) =
    (has_wrong_side doc operands ≡ false) × (has_overflow doc operands ≡ true)
AddsSums doc operands before after (Err Memory) = ⊤
AddsSums doc operands before after (Err _) = ⊥
