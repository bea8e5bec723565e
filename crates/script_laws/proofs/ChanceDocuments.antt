-- The documents at the end of a line are read as they are printed.
use Rattle.std.proofs.Common.{◌≡◌, ℕ, ◌^◌, ◌≤◌, ◌<◌, true, List, [], ◌++◌, length, Ok, refl, ap, sym, ◌∙◌, arith, append_assoc, pos}
use Rattle.std.specs.Prelude.{codes}
use Rattle.std.specs.Fmt.{decimal, digits}
use Rattle.std.proofs.lemmas.List.{append-nil, drop_at}
use Rattle.bson_doc.specs.Length.{value_levels}
use Rattle.bson_doc.specs.Tree.{Tree, int32, document, Fields, no_fields, field}
use Rattle.doc_text.specs.Integers.{fits}
use Rattle.doc_text.specs.Printing.{printed}
use Rattle.doc_text.specs.Spelling.{IsLawful, EndsThere}
use Rattle.doc_text.specs.Values.{answer_at}
use Rattle.doc_text.proofs.NamesAreClean.{no_zero}
use Rattle.doc_text.proofs.PrintedIsSpelled.{read_again}
use Rattle.script_words.specs.Values.{value_at, last_value, last_document}

-- a value that is printed, with what follows it
pub value_is : (tree : Tree) (rest : List ℕ) → IsLawful tree → value_levels tree ≤ 100 → EndsThere tree rest → value_at (printed tree ++ rest) ≡ Ok (tree, rest)
unfolding value_at
value_is tree rest lawful shallow whole =
    let answer : answer_at (printed tree ++ rest) 0 ≡ Ok (tree, length (printed tree)) = read_again [] (printed tree) tree lawful refl rest shallow whole in
    rw (answer, drop_at (printed tree) rest (length (printed tree)) refl) refl

pub last_value_is : (tree : Tree) → IsLawful tree → value_levels tree ≤ 100 → EndsThere tree [] → last_value (printed tree) ≡ Ok tree
unfolding last_value
last_value_is tree lawful shallow whole =
    let read : value_at (printed tree) ≡ Ok (tree, []) = ap value_at (sym (append-nil (printed tree))) ∙ value_is tree [] lawful shallow whole in
    rw read refl

pub last_document_is : (fields : Fields) → IsLawful (document fields) → value_levels (document fields) ≤ 100 → last_document (printed (document fields)) ≡ Ok fields
unfolding last_document
last_document_is fields lawful shallow = rw (last_value_is (document fields) lawful shallow tt) refl

-- ---- the documents of a script by chance

fits_small : (n : ℕ) → n < 2 ^ 31 → fits (2 ^ 31) (pos n) ≡ true
fits_small n few = grind arith

pub inserted : ℕ → Fields
inserted id = field (codes "_id") (int32 (pos id)) (field (codes "n") (int32 (pos 0)) no_fields)

pub operators : Fields
operators = field (codes "$inc") (document (field (codes "n") (int32 (pos 1)) no_fields)) no_fields

pub inserted_text : (id : ℕ) → printed (document (inserted id)) ≡ codes "{_id: " ++ decimal id ++ codes ", n: 0}"
unfolding inserted printed digits
inserted_text id = ap (λ (t : List ℕ). codes "{_id: " ++ t) (append_assoc (decimal id) (codes ", n: 0") (codes "}"))

pub operators_text : printed (document operators) ≡ codes "{$inc: {n: 1}}"
unfolding operators printed digits
operators_text = refl

pub inserted_is : (id : ℕ) → id < 2 ^ 31 → last_document (codes "{_id: " ++ decimal id ++ codes ", n: 0}") ≡ Ok (inserted id)
unfolding inserted
inserted_is id few =
    let lawful : IsLawful (document (inserted id)) = ((no_zero (codes "_id") (omega arith, (omega arith, (omega arith, tt))), refl, (no_zero (codes "n") (omega arith, tt), refl, tt)), (fits_small id few, (refl, tt))) in
    ap last_document (sym (inserted_text id)) ∙ last_document_is (inserted id) lawful (omega arith)

pub operators_are : last_document (codes "{$inc: {n: 1}}") ≡ Ok operators
unfolding operators
operators_are =
    let lawful : IsLawful (document operators) = ((no_zero (codes "$inc") (omega arith, (omega arith, (omega arith, (omega arith, tt)))), refl, tt), (((no_zero (codes "n") (omega arith, tt), refl, tt), (refl, tt)), tt)) in
    ap last_document (sym operators_text) ∙ last_document_is operators lawful (omega arith)

-- a number, with what is no number after it
pub number_value : (id : ℕ) (rest : List ℕ) → id < 2 ^ 31 → EndsThere (int32 (pos id)) rest → value_at (decimal id ++ rest) ≡ Ok (int32 (pos id), rest)
unfolding printed
number_value id rest few whole = value_is (int32 (pos id)) rest (fits_small id few) (omega arith) whole

pub last_number_value : (id : ℕ) → id < 2 ^ 31 → last_value (decimal id) ≡ Ok (int32 (pos id))
unfolding printed
last_number_value id few = last_value_is (int32 (pos id)) (fits_small id few) (omega arith) refl
