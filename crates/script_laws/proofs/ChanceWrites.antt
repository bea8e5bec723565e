-- Lines that ask a node for a write are commands.
use Rattle.std.proofs.Common.{◌≡◌, ℕ, ◌^◌, ◌≤◌, ◌<◌, true, List, [], ◌∷◌, ◌++◌, length, Some, Ok, refl, arith, pos}
use Rattle.std.specs.Prelude.{codes}
use Rattle.std.specs.Fmt.{decimal}
use Rattle.std.specs.List.{list_all}
use Rattle.std.proofs.lemmas.List.{length-append}
use Rattle.bson_doc.specs.Tree.{int32}
use Rattle.doc_update.specs.declared.write.WriteOp.{WriteOp}
use Rattle.doc_update.specs.declared.write.WriteOp.TheVariants as ops
use Rattle.script_words.specs.declared.verb.Verb.TheVariants as verbs
use Rattle.script_words.specs.declared.verb.NodeVerb.TheVariants as asks
use Rattle.script_words.specs.declared.verb.WriteKind.{WriteKind}
use Rattle.script_words.specs.declared.verb.WriteKind.TheVariants.{Insert, Update, Delete}
use Rattle.script_words.specs.declared.shape.Shape.TheVariants.{Value}
use Rattle.chance_script.specs.Generated.{ask}
use Rattle.script_words.specs.Words.{has_text, has_shape, left_after, collection_at}
use Rattle.script_words.specs.Values.{value_of, text_at, value_at}
use Rattle.script_words.specs.Commands.{insert_at, update_at, delete_at, write_at, write_command, words_at}
use Rattle.script_laws.proofs.ChanceLines.{is_text, AreCommands, one_command}
use Rattle.script_laws.proofs.ChanceWords.{word_is_text, word_is, after_is, is_written, name_of, node_is}
use Rattle.script_laws.proofs.ChanceAsks.{IsFirstWord, texts, a_command, ask_is, is_name}
use Rattle.script_laws.proofs.ChanceDocuments.{inserted, operators, inserted_is, operators_are, number_value, last_number_value}

in_t : (text : List ℕ) → collection_at (Some (116 ∷ 32 ∷ text)) ≡ Ok (codes "t", Some text)
unfolding collection_at
in_t text = rw (word_is (codes "t") text refl) refl

-- a write to the collection `t`
a_write : (nodes node : ℕ) (word text : List ℕ) (kind : WriteKind) (op : WriteOp) → IsFirstWord word (verbs.Node (asks.Write kind)) → node < nodes → nodes ≤ 50
    → list_all is_text text ≡ true → length text ≤ 500 → has_text (Some text) ≡ true → write_at kind (Some (116 ∷ 32 ∷ text)) ≡ Ok op → AreCommands nodes 1 (ask word node (32 ∷ 116 ∷ 32 ∷ text))
a_write nodes node word text kind op first within few plain short some read =
    let name = is_name nodes node within few in
    let after = 116 ∷ 32 ∷ text in
    let left = name_of node ++ 32 ∷ after in
    let second : left_after left ≡ Some after = after_is (name_of node) after name.inside in
    let shaped : has_shape (Value 2) (Some left) ≡ true = rw second some in
    let asked : words_at nodes (verbs.Node (asks.Write kind)) (Some left) ≡ Ok (write_command node op) = rw (node_is nodes node after within few, read) refl in
    let one = a_command nodes word left (verbs.Node (asks.Write kind)) (write_command node op) first (texts (name_of node) (32 ∷ after) (word_is_text (name_of node) name.inside) plain) (omega (arith, name.short, short, length-append (name_of node) (32 ∷ after))) shaped asked in
    one_command nodes (word ++ 32 ∷ left) (ask word node (32 ∷ after)) one (ask_is word node (32 ∷ after))

-- ---- numbers

number_text : (id : ℕ) → id < 2 ^ 31 → (list_all is_text (decimal id) ≡ true) × (length (decimal id) ≤ 19) × (0 < length (decimal id))
number_text id few = let written = is_written id (omega arith) in (word_is_text (decimal id) written.inside, written.short, written.some)

some_text : (text : List ℕ) → 0 < length text → (has_text (Some text) ≡ true) × (text_at (Some text) ≡ Ok text)
some_text [] some = absurd (omega arith)
some_text (c ∷ text) some = (refl, refl)

-- ---- the three writes

pub inserts : (nodes node id : ℕ) → node < nodes → nodes ≤ 50 → id < 2 ^ 31 → AreCommands nodes 1 (ask (codes "insert") node (codes " t {_id: " ++ decimal id ++ codes ", n: 0}"))
unfolding insert_at
inserts nodes node id within few low =
    let number = number_text id low in
    let text = codes "{_id: " ++ decimal id ++ codes ", n: 0}" in
    let plain : list_all is_text text ≡ true = texts (codes "{_id: " ++ decimal id) (codes ", n: 0}") (texts (codes "{_id: ") (decimal id) refl number.0) refl in
    let read : write_at Insert (Some (116 ∷ 32 ∷ text)) ≡ Ok (ops.Insert (codes "t") (inserted id)) = rw (in_t text, inserted_is id low) refl in
    a_write nodes node (codes "insert") text Insert (ops.Insert (codes "t") (inserted id)) (record { inside = refl; short = omega arith; said = λ rest. refl; named = refl }) within few plain
    (omega (arith, number.1, length-append (decimal id) (codes ", n: 0}"))) refl read

pub deletes : (nodes node id : ℕ) → node < nodes → nodes ≤ 50 → id < 2 ^ 31 → AreCommands nodes 1 (ask (codes "delete") node (codes " t " ++ decimal id))
unfolding delete_at
deletes nodes node id within few low =
    let number = number_text id low in
    let some = some_text (decimal id) number.2 in
    let read : write_at Delete (Some (116 ∷ 32 ∷ decimal id)) ≡ Ok (ops.Delete (codes "t") (value_of (int32 (pos id)))) = rw (in_t (decimal id), some.1, last_number_value id low) refl in
    a_write nodes node (codes "delete") (decimal id) Delete (ops.Delete (codes "t") (value_of (int32 (pos id)))) (record { inside = refl; short = omega arith; said = λ rest. refl; named = refl }) within few number.0
    (omega (arith, number.1)) some.0 read

pub updates : (nodes node id : ℕ) → node < nodes → nodes ≤ 50 → id < 2 ^ 31 → AreCommands nodes 1 (ask (codes "update") node (codes " t " ++ decimal id ++ codes " {$inc: {n: 1}}"))
unfolding update_at
updates nodes node id within few low =
    let number = number_text id low in
    let back = codes " {$inc: {n: 1}}" in
    let text = decimal id ++ back in
    let some = some_text text (omega (arith, number.2, length-append (decimal id) back)) in
    let value : value_at text ≡ Ok (int32 (pos id), back) = number_value id back low refl in
    let read : write_at Update (Some (116 ∷ 32 ∷ text)) ≡ Ok (ops.Update (codes "t") (value_of (int32 (pos id))) operators) = rw (in_t text, some.1, value, operators_are) refl in
    a_write nodes node (codes "update") text Update (ops.Update (codes "t") (value_of (int32 (pos id))) operators) (record { inside = refl; short = omega arith; said = λ rest. refl; named = refl }) within few (texts (decimal id) back number.0 refl)
    (omega (arith, number.1, length-append (decimal id) back)) some.0 read
