-- Writes as they are written are read.
use Rattle.std.proofs.Common.{◌≡◌, ℤ, pos, negsuc, ℕ, ◌^◌, ◌<◌, ◌≤◌, true, false, List, [], ◌∷◌, ◌++◌, length, Some, Ok, refl, arith}
use Rattle.std.specs.Prelude.{codes, nat_lt}
use Rattle.std.specs.Fmt.{signed_decimal}
use Rattle.std.proofs.lemmas.List.{length-append}
use Rattle.bson_doc.specs.Tree.{Tree, null, int32, int64, text, document, array, binary, object_id, boolean, date, timestamp}
use Rattle.bson_doc.specs.View.{tree_of}
use Rattle.doc_text.specs.Integers.{fits}
use Rattle.doc_text.specs.Printing.{printed}
use Rattle.doc_update.specs.declared.write.WriteOp.{WriteOp}
use Rattle.doc_update.specs.declared.write.WriteOp.TheVariants as ops
use Rattle.script_words.specs.declared.verb.WriteKind.{WriteKind}
use Rattle.script_words.specs.declared.verb.WriteKind.TheVariants.{Insert, Replace, Update, Delete}
use Rattle.script_words.specs.Words.{has_text}
use Rattle.script_words.specs.Values.{text_at}
use Rattle.script_words.specs.Commands.{delete_at, insert_at, replace_at, update_at, write_at}
use Rattle.set_model.specs.Limits.{collection_of, is_collection}
use Rattle.trace_laws.specs.Said.{CanBeSpelled, CanBeWritten}
use Rattle.trace_laws.proofs.WordsAgain.{is_printed}
use Rattle.trace_laws.proofs.NamesAgain.{collection_again}
use Rattle.trace_laws.proofs.ValuesAgain.{document_last, value_before, value_is, value_last}

-- ---- a text has a first byte

pub record Begins (bytes : List ℕ) : Type 0 where
  pub first : ℕ
  pub rest : List ℕ
  pub is : bytes ≡ first ∷ rest

pub begins : (bytes : List ℕ) → 0 < length bytes → Begins bytes
begins [] some = absurd (omega (arith, some))
begins (c ∷ bytes) some = record { first = c; rest = bytes; is = refl }

small_enough : (limit n : ℕ) → limit ≤ 2 ^ 63 → nat_lt n limit ≡ true → n < 2 ^ 64
small_enough limit n low fit = grind arith

signed_some : (limit : ℕ) (z : ℤ) → limit ≤ 2 ^ 63 → fits limit z ≡ true → 0 < length (signed_decimal z)
signed_some limit (pos n) low fit = (is_printed n (small_enough limit n low fit)).some
signed_some limit (negsuc n) low fit = omega arith

pub printed_some : (tree : Tree) → CanBeSpelled tree → 0 < length (printed tree)
unfolding printed
printed_some null can = omega arith
printed_some (int32 number) can = signed_some (2 ^ 31) number (omega arith) can.lawful
printed_some (int64 number) can = omega (arith, signed_some (2 ^ 63) number (omega arith) can.lawful, length-append (signed_decimal number) (codes "L"))
printed_some (text bytes) can = omega arith
printed_some (document fields) can = omega arith
printed_some (array items) can = omega arith
printed_some (binary subtype bytes) can = omega arith
printed_some (object_id bytes) can = omega arith
printed_some (boolean true) can = omega arith
printed_some (boolean false) can = omega arith
printed_some (date milliseconds) can = omega arith
printed_some (timestamp ts) can = omega arith

pub text_again : (bytes : List ℕ) → Begins bytes → text_at (Some bytes) ≡ Ok bytes
text_again bytes b = rw b.is refl

-- ---- writes

abbrev pub kind_of : WriteOp → WriteKind
kind_of (ops.Insert ns doc) = Insert
kind_of (ops.Replace ns id doc) = Replace
kind_of (ops.Update ns id operators) = Update
kind_of (ops.Delete ns id) = Delete

-- what follows the collection
abbrev pub values_of : WriteOp → List ℕ
values_of (ops.Insert ns doc) = printed (document doc)
values_of (ops.Replace ns id doc) = printed (tree_of id) ++ 32 ∷ printed (document doc)
values_of (ops.Update ns id operators) = printed (tree_of id) ++ 32 ∷ printed (document operators)
values_of (ops.Delete ns id) = printed (tree_of id)

-- the words after the kind
abbrev pub words_of : WriteOp → List ℕ
words_of op = collection_of op ++ 32 ∷ values_of op

more_begins : (bytes rest : List ℕ) → 0 < length bytes → Begins (bytes ++ rest)
more_begins [] rest some = absurd (omega (arith, some))
more_begins (c ∷ bytes) rest some = record { first = c; rest = bytes ++ rest; is = refl }

pub write_again : (op : WriteOp) → is_collection (collection_of op) ≡ true → CanBeWritten op → write_at (kind_of op) (Some (words_of op)) ≡ Ok op
unfolding insert_at replace_at update_at delete_at
write_again (ops.Insert ns doc) name can =
    let text = begins (printed (document doc)) (printed_some (document doc) can) in
    rw ((collection_again ns name).before (printed (document doc)), text_again (printed (document doc)) text, document_last doc can) refl
write_again (ops.Replace ns id doc) name can =
    let whole = printed (tree_of id) ++ 32 ∷ printed (document doc) in
    let text = more_begins (printed (tree_of id)) (32 ∷ printed (document doc)) (printed_some (tree_of id) can.0) in
    rw ((collection_again ns name).before whole, text_again whole text, value_before (tree_of id) (printed (document doc)) can.0, document_last doc can.1, value_is id) refl
write_again (ops.Update ns id operators) name can =
    let whole = printed (tree_of id) ++ 32 ∷ printed (document operators) in
    let text = more_begins (printed (tree_of id)) (32 ∷ printed (document operators)) (printed_some (tree_of id) can.0) in
    rw ((collection_again ns name).before whole, text_again whole text, value_before (tree_of id) (printed (document operators)) can.0, document_last operators can.1, value_is id) refl
write_again (ops.Delete ns id) name can =
    let text = begins (printed (tree_of id)) (printed_some (tree_of id) can) in
    rw ((collection_again ns name).before (printed (tree_of id)), text_again (printed (tree_of id)) text, value_last (tree_of id) can, value_is id) refl

-- a value begins there
pub values_begin : (op : WriteOp) → CanBeWritten op → has_text (Some (values_of op)) ≡ true
values_begin (ops.Insert ns doc) can = let b = begins (printed (document doc)) (printed_some (document doc) can) in rw b.is refl
values_begin (ops.Replace ns id doc) can = let b = more_begins (printed (tree_of id)) (32 ∷ printed (document doc)) (printed_some (tree_of id) can.0) in rw b.is refl
values_begin (ops.Update ns id operators) can = let b = more_begins (printed (tree_of id)) (32 ∷ printed (document operators)) (printed_some (tree_of id) can.0) in rw b.is refl
values_begin (ops.Delete ns id) can = let b = begins (printed (tree_of id)) (printed_some (tree_of id) can) in rw b.is refl
