-- Values as they are printed are read at the end of a line.
use Rattle.std.proofs.Common.{◌≡◌, ℕ, List, [], ◌∷◌, ◌++◌, length, drop, Ok, refl, sym, ap, ◌∙◌}
use Rattle.std.proofs.lemmas.List.{append-nil}
use Rattle.bson_doc.specs.Tree.{Tree, null, int32, int64, text, document, array, binary, object_id, boolean, date, timestamp, Fields}
use Rattle.bson_doc.specs.View.{tree_of}
use Rattle.bson_doc.specs.declared.doc.Value.{Value}
use Rattle.bson_doc.specs.declared.doc.Value.TheVariants.{Null, Int32, Int64, Text, Document, Array, Binary, ObjectId, Boolean, Date, Timestamp}
use Rattle.doc_text.specs.Printing.{printed}
use Rattle.doc_text.specs.Spelling.{EndsThere}
use Rattle.doc_text.specs.Values.{answer_at}
use Rattle.doc_text.proofs.PrintedIsSpelled.{read_again}
use Rattle.script_words.specs.Values.{last_document, last_value, value_at, value_of}
use Rattle.trace_laws.specs.Said.{CanBeSpelled}

-- ---- what may follow

pub ends_nothing : (tree : Tree) → EndsThere tree []
ends_nothing null = tt
ends_nothing (int32 number) = refl
ends_nothing (int64 number) = tt
ends_nothing (text bytes) = tt
ends_nothing (document fields) = tt
ends_nothing (array items) = tt
ends_nothing (binary subtype bytes) = tt
ends_nothing (object_id bytes) = tt
ends_nothing (boolean truth) = tt
ends_nothing (date milliseconds) = tt
ends_nothing (timestamp ts) = tt

ends_space : (tree : Tree) (rest : List ℕ) → EndsThere tree (32 ∷ rest)
ends_space null rest = tt
ends_space (int32 number) rest = refl
ends_space (int64 number) rest = tt
ends_space (text bytes) rest = tt
ends_space (document fields) rest = tt
ends_space (array items) rest = tt
ends_space (binary subtype bytes) rest = tt
ends_space (object_id bytes) rest = tt
ends_space (boolean truth) rest = tt
ends_space (date milliseconds) rest = tt
ends_space (timestamp ts) rest = tt

-- ---- reading

after : (xs ys : List ℕ) → drop (length xs) (xs ++ ys) ≡ ys
after [] ys = refl
after (x ∷ xs) ys = after xs ys

value_again : (tree : Tree) (rest : List ℕ) → CanBeSpelled tree → EndsThere tree rest → value_at (printed tree ++ rest) ≡ Ok (tree, rest)
unfolding value_at
value_again tree rest can ends =
    let read : answer_at (printed tree ++ rest) 0 ≡ Ok (tree, length (printed tree)) = read_again [] (printed tree) tree can.lawful refl rest can.shallow ends in
    rw read (ap (λ (left : List ℕ). Ok (tree, left)) (after (printed tree) rest))

-- before another value
pub value_before : (tree : Tree) (rest : List ℕ) → CanBeSpelled tree → value_at (printed tree ++ 32 ∷ rest) ≡ Ok (tree, 32 ∷ rest)
value_before tree rest can = value_again tree (32 ∷ rest) can (ends_space tree rest)

pub value_last : (tree : Tree) → CanBeSpelled tree → last_value (printed tree) ≡ Ok tree
unfolding last_value
value_last tree can =
    let read : value_at (printed tree) ≡ Ok (tree, []) = ap value_at (sym (append-nil (printed tree))) ∙ value_again tree [] can (ends_nothing tree) in
    rw read refl

pub document_last : (fields : Fields) → CanBeSpelled (document fields) → last_document (printed (document fields)) ≡ Ok fields
unfolding last_document
document_last fields can = rw (value_last (document fields) can) refl

-- the value that a tree was seen of
pub value_is : (value : Value) → value_of (tree_of value) ≡ value
value_is Null = refl
value_is (Int32 number) = refl
value_is (Int64 number) = refl
value_is (Text bytes) = refl
value_is (Document fields) = refl
value_is (Array items) = refl
value_is (Binary subtype bytes) = refl
value_is (ObjectId bytes) = refl
value_is (Boolean truth) = refl
value_is (Date milliseconds) = refl
value_is (Timestamp ts) = refl
