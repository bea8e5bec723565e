-- Commands of documents, writers and concerns, and those with values at their end, as they are written are read.
use Rattle.std.proofs.Common.{◌≡◌, ℕ, ◌^◌, ◌<◌, ◌≤◌, true, List, [], ◌∷◌, ◌++◌, Option, None, Some, Ok, refl, ap, ◌∙◌, arith, append_assoc}
use Rattle.std.specs.Prelude.{codes, IfSome}
use Rattle.std.specs.Fmt.{decimal}
use Rattle.std.specs.List.{list_all}
use Rattle.std.proofs.lemmas.List.{append-nil}
use Rattle.bson_doc.specs.View.{tree_of}
use Rattle.bson_doc.specs.declared.doc.Value.{Value}
use Rattle.doc_text.specs.Printing.{printed}
use Rattle.doc_update.specs.declared.write.WriteOp.{WriteOp}
use Rattle.doc_update.specs.declared.write.WriteOp.TheVariants as ops
use Rattle.member_config.specs.JsonText.{json_text}
use Rattle.member_config.specs.declared.config.Config.{Config}
use Rattle.oplog_entry.specs.declared.entry.Session.{Session}
use Rattle.run_checker.specs.Commands.{command_text, concern_word, disk_word, id_words, level_word, target_word, write_words}
use Rattle.script_words.specs.declared.verb.NodeVerb.TheVariants as asks
use Rattle.script_words.specs.declared.verb.Verb.TheVariants as verbs
use Rattle.script_words.specs.Words.{has_shape, pick_at, skip, word_count}
use Rattle.script_words.specs.Commands.{ack_at, begin_at, command_at, disk_fail_at, read_at, reconfig_at, retry_at, shape_of, write_command, write_kind}
use Rattle.script_laws.proofs.ChanceLines.{is_inside}
use Rattle.script_laws.proofs.ChanceWords.{after_is, one_more_word, only_word, word_is}
use Rattle.set_model.specs.declared.command.AckConcern.{AckConcern}
use Rattle.set_model.specs.declared.command.Command.TheVariants as commands
use Rattle.set_model.specs.declared.command.DiskName.{DiskName}
use Rattle.set_model.specs.declared.command.ReadLevel.{ReadLevel}
use Rattle.set_model.specs.declared.command.Target.{Target}
use Rattle.set_model.specs.Limits.{collection_of, is_collection, is_within_concern, is_within_config, is_within_target}
use Rattle.trace_laws.specs.Said.{CanBeSpelled, CanBeWritten, IsNumbered}
use Rattle.trace_laws.proofs.ConfigsAgain.{config_again}
use Rattle.trace_laws.proofs.WordsAgain.{node_name, node_word, number_word, writer_name, writer_word}
use Rattle.trace_laws.proofs.NamesAgain.{collection_again, concern_again, disk_again, level_again, target_again}
use Rattle.trace_laws.proofs.ValuesAgain.{value_is, value_last}
use Rattle.trace_laws.proofs.WritesAgain.{begins, kind_of, printed_some, text_again, values_begin, values_of, words_of, write_again}
use Rattle.trace_laws.proofs.CommandsAgain.{IsVerb, command_is}

-- two words after a text, with what stands between and after them
after_two : (text between second rest : List ℕ) → text ++ between ++ second ++ rest ≡ text ++ (between ++ (second ++ rest))
after_two text between second rest = append_assoc (text ++ between) second rest ∙ append_assoc text between (second ++ rest)

-- ---- writes

-- a write in one step
one_write : (nodes node : ℕ) (word : List ℕ) (op : WriteOp) → node < nodes → nodes ≤ 50 → IsVerb word (verbs.Node (asks.Write (kind_of op))) → is_collection (collection_of op) ≡ true → CanBeWritten op
    → command_at nodes (word ++ 32 ∷ (node_name node ++ 32 ∷ words_of op)) ≡ Ok (write_command node op)
one_write nodes node word op within few first name can =
    let own = node_word nodes node within few in
    let collection = collection_again (collection_of op) name in
    let after_node : skip 1 (Some (node_name node ++ 32 ∷ words_of op)) ≡ Some (words_of op) = after_is (node_name node) (words_of op) own.inside in
    let after_name : skip 2 (Some (node_name node ++ 32 ∷ words_of op)) ≡ Some (values_of op) = rw after_node (after_is (collection_of op) (values_of op) collection.inside) in
    let shaped : has_shape (shape_of (verbs.Node (asks.Write (kind_of op)))) (Some (node_name node ++ 32 ∷ words_of op)) ≡ true = rw after_name (values_begin op can) in
    command_is nodes word (node_name node ++ 32 ∷ words_of op) (verbs.Node (asks.Write (kind_of op))) (write_command node op) first shaped (rw (own.before (words_of op), write_again op name can) refl)

pub written_again : (nodes node : ℕ) (op : WriteOp) → node < nodes → nodes ≤ 50 → is_collection (collection_of op) ≡ true → CanBeWritten op
    → command_at nodes (command_text (write_command node op)) ≡ Ok (write_command node op)
written_again nodes node (ops.Insert ns doc) within few name can =
    let text : command_text (commands.Insert node ns doc) ≡ codes "insert" ++ 32 ∷ (node_name node ++ 32 ∷ words_of (ops.Insert ns doc)) = simp append_assoc in
    ap (command_at nodes) text ∙ one_write nodes node (codes "insert") (ops.Insert ns doc) within few (record { inside = refl; named = refl }) name can
written_again nodes node (ops.Replace ns id doc) within few name can =
    let text : command_text (commands.Replace node ns id doc) ≡ codes "replace" ++ 32 ∷ (node_name node ++ 32 ∷ words_of (ops.Replace ns id doc)) = simp append_assoc in
    ap (command_at nodes) text ∙ one_write nodes node (codes "replace") (ops.Replace ns id doc) within few (record { inside = refl; named = refl }) name can
written_again nodes node (ops.Update ns id operators) within few name can =
    let text : command_text (commands.Update node ns id operators) ≡ codes "update" ++ 32 ∷ (node_name node ++ 32 ∷ words_of (ops.Update ns id operators)) = simp append_assoc in
    ap (command_at nodes) text ∙ one_write nodes node (codes "update") (ops.Update ns id operators) within few (record { inside = refl; named = refl }) name can
written_again nodes node (ops.Delete ns id) within few name can =
    let text : command_text (commands.Delete node ns id) ≡ codes "delete" ++ 32 ∷ (node_name node ++ 32 ∷ words_of (ops.Delete ns id)) = simp append_assoc in
    ap (command_at nodes) text ∙ one_write nodes node (codes "delete") (ops.Delete ns id) within few (record { inside = refl; named = refl }) name can

-- ---- configurations

pub reconfig_again : (nodes node : ℕ) (config : Config) → node < nodes → nodes ≤ 50 → is_within_config config ≡ true → config.term ≡ 0 → command_at nodes (command_text (commands.Reconfig node config)) ≡ Ok (commands.Reconfig node config)
unfolding reconfig_at
reconfig_again nodes node config within few bounds new =
    let can = config_again config bounds new in
    let own = node_word nodes node within few in
    let text : command_text (commands.Reconfig node config) ≡ codes "reconfig" ++ 32 ∷ (node_name node ++ 32 ∷ json_text config) =
    ap (λ (xs : List ℕ). codes "reconfig n" ++ xs) (append_assoc (decimal node) (codes " ") (json_text config)) in
    let after_node : skip 1 (Some (node_name node ++ 32 ∷ json_text config)) ≡ Some (json_text config) = after_is (node_name node) (json_text config) own.inside in
    let shaped : has_shape (shape_of (verbs.Node asks.Reconfig)) (Some (node_name node ++ 32 ∷ json_text config)) ≡ true = rw after_node refl in
    ap (command_at nodes) text
    ∙ command_is nodes (codes "reconfig") (node_name node ++ 32 ∷ json_text config) (verbs.Node asks.Reconfig) (commands.Reconfig node config) (record { inside = refl; named = refl }) shaped
    (rw (own.before (json_text config), can) refl)

-- ---- reads

pub read_again : (nodes node : ℕ) (level : ReadLevel) (collection : List ℕ) (id : Value) → node < nodes → nodes ≤ 50 → is_collection collection ≡ true → CanBeSpelled (tree_of id)
    → command_at nodes (command_text (commands.Read node level collection id)) ≡ Ok (commands.Read node level collection id)
unfolding read_at
read_again nodes node level collection id within few name can =
    let own = node_word nodes node within few in
    let words = level_again level in
    let place = collection_again collection name in
    let value = printed (tree_of id) in
    let after_level = collection ++ 32 ∷ value in
    let after_node = level_word level ++ 32 ∷ after_level in
    let named : id_words collection id ≡ 32 ∷ after_level = ap (λ (xs : List ℕ). 32 ∷ xs) (append_assoc collection (codes " ") value) in
    let text : command_text (commands.Read node level collection id) ≡ codes "read" ++ 32 ∷ (node_name node ++ 32 ∷ after_node) =
    ap (λ (xs : List ℕ). codes "read n" ++ xs)
    (after_two (decimal node) (codes " ") (level_word level) (id_words collection id) ∙ ap (λ (xs : List ℕ). decimal node ++ 32 ∷ (level_word level ++ xs)) named) in
    let one : skip 1 (Some (node_name node ++ 32 ∷ after_node)) ≡ Some after_node = after_is (node_name node) after_node own.inside in
    let two : skip 2 (Some (node_name node ++ 32 ∷ after_node)) ≡ Some after_level = rw one (after_is (level_word level) after_level words.inside) in
    let three : skip 3 (Some (node_name node ++ 32 ∷ after_node)) ≡ Some value = rw two (after_is collection value place.inside) in
    let shaped : has_shape (shape_of (verbs.Node asks.Read)) (Some (node_name node ++ 32 ∷ after_node)) ≡ true = rw three (values_begin (ops.Delete collection id) can) in
    let begun = text_again value (begins value (printed_some (tree_of id) can)) in
    ap (command_at nodes) text
    ∙ command_is nodes (codes "read") (node_name node ++ 32 ∷ after_node) (verbs.Node asks.Read) (commands.Read node level collection id) (record { inside = refl; named = refl }) shaped
    (rw (own.before after_node, words.before after_level, place.before value, begun, value_last (tree_of id) can, value_is id) refl)

-- ---- writers and sessions

-- the word of a write's kind
abbrev kind_word : WriteOp → List ℕ
kind_word (ops.Insert ns doc) = codes "insert"
kind_word (ops.Replace ns id doc) = codes "replace"
kind_word (ops.Update ns id operators) = codes "update"
kind_word (ops.Delete ns id) = codes "delete"

kind_inside : (op : WriteOp) → list_all is_inside (kind_word op) ≡ true
kind_inside (ops.Insert ns doc) = refl
kind_inside (ops.Replace ns id doc) = refl
kind_inside (ops.Update ns id operators) = refl
kind_inside (ops.Delete ns id) = refl

kind_is : (op : WriteOp) → write_kind (kind_word op) ≡ Some (kind_of op)
kind_is (ops.Insert ns doc) = refl
kind_is (ops.Replace ns id doc) = refl
kind_is (ops.Update ns id operators) = refl
kind_is (ops.Delete ns id) = refl

words_are : (op : WriteOp) → write_words op ≡ 32 ∷ (kind_word op ++ 32 ∷ words_of op)
words_are (ops.Insert ns doc) = simp append_assoc
words_are (ops.Replace ns id doc) = simp append_assoc
words_are (ops.Update ns id operators) = simp append_assoc
words_are (ops.Delete ns id) = simp append_assoc

pub begin_again : (nodes node writer : ℕ) (op : WriteOp) → node < nodes → nodes ≤ 50 → writer < 1000 → is_collection (collection_of op) ≡ true → CanBeWritten op
    → command_at nodes (command_text (commands.Begin node writer op)) ≡ Ok (commands.Begin node writer op)
unfolding begin_at
begin_again nodes node writer op within few low name can =
    let own = node_word nodes node within few in
    let slot = writer_word writer low in
    let place = collection_again (collection_of op) name in
    let after_writer = kind_word op ++ 32 ∷ words_of op in
    let after_node = writer_name writer ++ 32 ∷ after_writer in
    let text : command_text (commands.Begin node writer op) ≡ codes "begin" ++ 32 ∷ (node_name node ++ 32 ∷ after_node) =
    ap (λ (xs : List ℕ). codes "begin n" ++ xs)
    (after_two (decimal node) (codes " w") (decimal writer) (write_words op) ∙ ap (λ (xs : List ℕ). decimal node ++ 32 ∷ (writer_name writer ++ xs)) (words_are op)) in
    let one : skip 1 (Some (node_name node ++ 32 ∷ after_node)) ≡ Some after_node = after_is (node_name node) after_node own.inside in
    let two : skip 2 (Some (node_name node ++ 32 ∷ after_node)) ≡ Some after_writer = rw one (after_is (writer_name writer) after_writer slot.inside) in
    let three : skip 3 (Some (node_name node ++ 32 ∷ after_node)) ≡ Some (words_of op) = rw two (after_is (kind_word op) (words_of op) (kind_inside op)) in
    let four : skip 4 (Some (node_name node ++ 32 ∷ after_node)) ≡ Some (values_of op) = rw three (after_is (collection_of op) (values_of op) place.inside) in
    let shaped : has_shape (shape_of (verbs.Node asks.Begin)) (Some (node_name node ++ 32 ∷ after_node)) ≡ true = rw four (values_begin op can) in
    ap (command_at nodes) text
    ∙ command_is nodes (codes "begin") (node_name node ++ 32 ∷ after_node) (verbs.Node asks.Begin) (commands.Begin node writer op) (record { inside = refl; named = refl }) shaped
    (rw (own.before after_node, slot.before after_writer, word_is (kind_word op) (words_of op) (kind_inside op), kind_is op, write_again op name can) refl)

pub retry_again : (nodes node : ℕ) (session : Session) (op : WriteOp) → node < nodes → nodes ≤ 50 → session.id < 4294967296 → 1 ≤ session.number → session.number < 2147483648
    → is_collection (collection_of op) ≡ true → CanBeWritten op
    → command_at nodes (command_text (commands.Retry node session op)) ≡ Ok (commands.Retry node session op)
unfolding retry_at
retry_again nodes node session op within few id_low some low name can =
    let own = node_word nodes node within few in
    let id = number_word 0 4294967295 session.id (omega arith) (omega arith) (omega arith) in
    let number = number_word 1 2147483647 session.number (omega arith) some (omega arith) in
    let place = collection_again (collection_of op) name in
    let after_number = kind_word op ++ 32 ∷ words_of op in
    let after_id = decimal session.number ++ 32 ∷ after_number in
    let after_node = decimal session.id ++ 32 ∷ after_id in
    let text : command_text (commands.Retry node session op) ≡ codes "retry" ++ 32 ∷ (node_name node ++ 32 ∷ after_node) =
    ap (λ (xs : List ℕ). codes "retry n" ++ xs)
    (after_two (decimal node ++ codes " " ++ decimal session.id) (codes " ") (decimal session.number) (write_words op)
    ∙ after_two (decimal node) (codes " ") (decimal session.id) (32 ∷ (decimal session.number ++ write_words op))
    ∙ ap (λ (xs : List ℕ). decimal node ++ 32 ∷ (decimal session.id ++ 32 ∷ (decimal session.number ++ xs))) (words_are op)) in
    let one : skip 1 (Some (node_name node ++ 32 ∷ after_node)) ≡ Some after_node = after_is (node_name node) after_node own.inside in
    let two : skip 2 (Some (node_name node ++ 32 ∷ after_node)) ≡ Some after_id = rw one (after_is (decimal session.id) after_id id.inside) in
    let three : skip 3 (Some (node_name node ++ 32 ∷ after_node)) ≡ Some after_number = rw two (after_is (decimal session.number) after_number number.inside) in
    let four : skip 4 (Some (node_name node ++ 32 ∷ after_node)) ≡ Some (words_of op) = rw three (after_is (kind_word op) (words_of op) (kind_inside op)) in
    let five : skip 5 (Some (node_name node ++ 32 ∷ after_node)) ≡ Some (values_of op) = rw four (after_is (collection_of op) (values_of op) place.inside) in
    let shaped : has_shape (shape_of (verbs.Node asks.Retry)) (Some (node_name node ++ 32 ∷ after_node)) ≡ true = rw five (values_begin op can) in
    ap (command_at nodes) text
    ∙ command_is nodes (codes "retry") (node_name node ++ 32 ∷ after_node) (verbs.Node asks.Retry) (commands.Retry node session op) (record { inside = refl; named = refl }) shaped
    (rw (own.before after_node, id.before after_id, number.before after_number, word_is (kind_word op) (words_of op) (kind_inside op), kind_is op, write_again op name can) refl)

-- ---- words after words

pub ack_again : (nodes node : ℕ) (target : Target) (concern : AckConcern) → node < nodes → nodes ≤ 50 → is_within_target target ≡ true → IsNumbered target → is_within_concern concern ≡ true
    → command_at nodes (command_text (commands.Ack node target concern)) ≡ Ok (commands.Ack node target concern)
unfolding ack_at
ack_again nodes node target concern within few bound numbered concern_in =
    let own = node_word nodes node within few in
    let to = target_again target bound numbered in
    let many = concern_again concern concern_in in
    let after_node = target_word target ++ 32 ∷ concern_word concern in
    let text : command_text (commands.Ack node target concern) ≡ codes "ack" ++ 32 ∷ (node_name node ++ 32 ∷ after_node) = simp append_assoc in
    let words : word_count (Some (node_name node ++ 32 ∷ after_node)) ≡ 3 = omega (arith, one_more_word (node_name node) after_node own.inside, one_more_word (target_word target) (concern_word concern) to.inside, only_word (concern_word concern) many.inside) in
    ap (command_at nodes) text
    ∙ command_is nodes (codes "ack") (node_name node ++ 32 ∷ after_node) (verbs.Node asks.Ack) (commands.Ack node target concern) (record { inside = refl; named = refl }) (rw words refl)
    (rw (own.before after_node, to.before (concern_word concern), many.last) refl)

disk_words : (node disk call rest : List ℕ) → node ++ codes " " ++ disk ++ codes " " ++ call ++ rest ≡ node ++ 32 ∷ (disk ++ 32 ∷ (call ++ rest))
disk_words node disk call rest = after_two (node ++ codes " " ++ disk) (codes " ") call rest ∙ after_two node (codes " ") disk (32 ∷ (call ++ rest))

pub disk_fail_again : (nodes node : ℕ) (disk : DiskName) (call : ℕ) (pick : Option ℕ) → node < nodes → nodes ≤ 50 → 1 ≤ call → call ≤ 1000 → IfSome pick (λ p. p < 2 ^ 64)
    → command_at nodes (command_text (commands.DiskFail node disk call pick)) ≡ Ok (commands.DiskFail node disk call pick)
unfolding disk_fail_at pick_at
disk_fail_again nodes node disk call None within few low high bound =
    let own = node_word nodes node within few in
    let which = disk_again disk in
    let number = number_word 1 1000 call (omega arith) low high in
    let after_node = disk_word disk ++ 32 ∷ decimal call in
    let text : command_text (commands.DiskFail node disk call None) ≡ codes "diskfail" ++ 32 ∷ (node_name node ++ 32 ∷ after_node) =
    ap (λ (xs : List ℕ). codes "diskfail n" ++ xs) (disk_words (decimal node) (disk_word disk) (decimal call) [] ∙ ap (λ (xs : List ℕ). decimal node ++ 32 ∷ (disk_word disk ++ 32 ∷ xs)) (append-nil (decimal call))) in
    let words : word_count (Some (node_name node ++ 32 ∷ after_node)) ≡ 3 = omega (arith, one_more_word (node_name node) after_node own.inside, one_more_word (disk_word disk) (decimal call) which.inside, only_word (decimal call) number.inside) in
    ap (command_at nodes) text
    ∙ command_is nodes (codes "diskfail") (node_name node ++ 32 ∷ after_node) (verbs.Node asks.DiskFail) (commands.DiskFail node disk call None) (record { inside = refl; named = refl }) (rw words refl)
    (rw (own.before after_node, which.before (decimal call), number.last) refl)
disk_fail_again nodes node disk call (Some pick) within few low high bound =
    let own = node_word nodes node within few in
    let which = disk_again disk in
    let number = number_word 1 1000 call (omega arith) low high in
    let last = number_word 0 18446744073709551615 pick bound (omega arith) (omega (arith, bound)) in
    let after_disk = decimal call ++ 32 ∷ decimal pick in
    let after_node = disk_word disk ++ 32 ∷ after_disk in
    let text : command_text (commands.DiskFail node disk call (Some pick)) ≡ codes "diskfail" ++ 32 ∷ (node_name node ++ 32 ∷ after_node) =
    ap (λ (xs : List ℕ). codes "diskfail n" ++ xs) (disk_words (decimal node) (disk_word disk) (decimal call) (32 ∷ decimal pick)) in
    let words : word_count (Some (node_name node ++ 32 ∷ after_node)) ≡ 4 = omega (arith, one_more_word (node_name node) after_node own.inside, one_more_word (disk_word disk) after_disk which.inside, one_more_word (decimal call) (decimal pick) number.inside, only_word (decimal pick) last.inside) in
    ap (command_at nodes) text
    ∙ command_is nodes (codes "diskfail") (node_name node ++ 32 ∷ after_node) (verbs.Node asks.DiskFail) (commands.DiskFail node disk call (Some pick)) (record { inside = refl; named = refl }) (rw words refl)
    (rw (own.before after_node, which.before after_disk, number.before (decimal pick), last.last) refl)
