-- A command that is read can be said.
use Rattle.std.proofs.Common.{◌≡◌, ◌≢◌, ℕ, ◌^◌, ◌<◌, ◌≤◌, true, false, ◌==◌, ◌&&◌, List, [], ◌∷◌, length, Option, None, Some, Result, Ok, Err, arith}
use Rattle.std.specs.Prelude.{IfSome, nat_le, nat_lt}
use Rattle.std.specs.Char.{is_ascii_digit}
use Rattle.std.specs.List.{list_all}
use Rattle.std.specs.Str.Parse.{digits_value}
use Rattle.bson_doc.proofs.BindLemmas.{Gets, bind_gets, cond_gets}
use Rattle.doc_update.specs.declared.write.WriteOp.{WriteOp}
use Rattle.oplog_entry.specs.declared.entry.Session.{Session}
use Rattle.script_words.specs.declared.rule.ScriptRule.{ScriptRule}
use Rattle.script_words.specs.declared.rule.ScriptRule.TheVariants.{BadWord}
use Rattle.script_words.specs.declared.verb.NodeVerb.{NodeVerb}
use Rattle.script_words.specs.declared.verb.NodeVerb.TheVariants as asks
use Rattle.script_words.specs.declared.verb.Verb.{Verb}
use Rattle.script_words.specs.declared.verb.Verb.TheVariants as verbs
use Rattle.script_words.specs.declared.verb.WriteKind.{WriteKind}
use Rattle.script_words.specs.declared.verb.WriteKind.TheVariants.{Insert, Replace, Update, Delete}
use Rattle.script_words.specs.Configs.{config_of}
use Rattle.script_words.specs.Values.{after_space, last_document, last_value, text_at, value_at}
use Rattle.script_words.specs.Words.{Left, after_word, collection_at, concern_at, cut_at_slash, disk_at, level_at, message_at, node_at, number_at, number_of, numbered, optime_of, optime_target, optional_at, other_node_at, pick_at, target_at, target_of, word_at, writer_at, writer_target}
use Rattle.script_words.specs.Commands.{abort_at, ack_at, apply_at, begin_at, begin_kind, clock_at, command_at, commit_at, common_at, crash_at, deliver_at, deliver_latest, deliver_one, delete_at, disk_fail_at, dump_at, heartbeat_at, insert_at, of_node, or_zero, read_at, reconfig_at, replace_at, report_at, retry_at, retry_kind, update_at, verb_at, words_at, write_at, write_command, write_kind}
use Rattle.script_words.proofs.CommandsFit.{IsIn, number_within, words_within}
use Rattle.script_words.proofs.Gets.{bind_any, ended_gets, got, tested}
use Rattle.set_model.specs.declared.command.Command.{Command}
use Rattle.set_model.specs.Limits.{is_for}
use Rattle.doc_update.specs.declared.write.WriteOp.TheVariants as ops
use Rattle.trace_laws.specs.Said.{CanBeSaid, CanBeSpelled, CanBeWritten, IsNumbered, IsSayable}
use Rattle.trace_laws.proofs.ConfigsAgain.{IsNew, config_new}
use Rattle.trace_laws.proofs.LinesAgain.{ranged}
use Rattle.trace_laws.proofs.ValuesSaid.{DocumentSaid, FirstSaid, document_said, last_said, shown_said, value_said}

-- ---- numbers

number_high : (form range : ScriptRule) (least most : ℕ) (word : List ℕ) → Gets (number_of form range least most word) (λ n. n ≤ most)
number_high form range least most word =
    tested (nat_lt 0 (length word) && list_all is_ascii_digit word) _ form (λ n. n ≤ most) (λ digits.
    tested (nat_le least (digits_value 10 word) && nat_le (digits_value 10 word) most) _ range (λ n. n ≤ most) (λ passed. (ranged least most (digits_value 10 word) passed).1))

numbered_high : (rule : ScriptRule) (letter most : ℕ) (word : List ℕ) → Gets (numbered rule letter most word) (λ n. n ≤ most)
numbered_high rule letter most [] = tt
numbered_high rule letter most (c ∷ digits) = tested (c == letter) (number_of rule rule 0 most digits) rule (λ n. n ≤ most) (λ passed. number_high rule rule 0 most digits)

message_said : (left : Left) → Gets (message_at left) (λ x. x.0 < 2 ^ 64)
unfolding message_at
message_said left =
    bind_any (word_at left) _ (λ x. x.0 < 2 ^ 64) (λ word.
    bind_gets (numbered BadWord 109 18446744073709551615 word.0) _ (λ n. n ≤ 18446744073709551615) (λ x. x.0 < 2 ^ 64) (numbered_high BadWord 109 18446744073709551615 word.0) (λ n high. omega (arith, high)))

-- a pick, or none
abbrev PickSaid : Option ℕ × Left → Type 0
PickSaid pick = IfSome pick.0 (λ p. p < 2 ^ 64)

pick_said : (left : Left) → Gets (pick_at left) PickSaid
unfolding pick_at
pick_said None = tt
pick_said (Some text) =
    bind_gets (number_at 0 18446744073709551615 (Some text)) _ (λ x. IsIn 0 18446744073709551615 x.0) PickSaid (number_within 0 18446744073709551615 (Some text)) (λ pick within.
    let high = (ranged 0 18446744073709551615 pick.0 within).1 in omega (arith, high))

zero_said : (pick : Option ℕ) → IfSome pick (λ p. p < 2 ^ 64) → or_zero pick < 2 ^ 64
zero_said None few = omega arith
zero_said (Some pick) few = few

other_said : (nodes node : ℕ) (left : Left) → Gets (other_node_at nodes node left) (λ x. x.0 ≢ node)
unfolding other_node_at
other_said nodes node left = bind_any (node_at nodes left) _ (λ x. x.0 ≢ node) (λ other. cond_gets (other.0 == node) _ _ (λ x. x.0 ≢ node) (λ same. tt) (λ apart. differs other.0 node apart))
  where
    differs : (n m : ℕ) → (n == m) ≡ false → n ≢ m
    differs n m apart same = grind arith

-- ---- targets

optime_said : (word : List ℕ) → Gets (optime_of word) (λ at. (at.term < 2 ^ 64) × (at.ts < 2 ^ 64))
unfolding optime_of
optime_said word =
    bind_any (cut_at_slash word) _ (λ at. (at.term < 2 ^ 64) × (at.ts < 2 ^ 64)) (λ term.
    bind_any (cut_at_slash term.1) _ (λ at. (at.term < 2 ^ 64) × (at.ts < 2 ^ 64)) (λ time.
    bind_gets (number_of BadWord BadWord 0 18446744073709551615 term.0) _ (λ n. n ≤ 18446744073709551615) (λ at. (at.term < 2 ^ 64) × (at.ts < 2 ^ 64)) (number_high BadWord BadWord 0 18446744073709551615 term.0) (λ number one.
    bind_gets (number_of BadWord BadWord 0 4294967295 time.0) _ (λ n. n ≤ 4294967295) (λ at. (at.term < 2 ^ 64) × (at.ts < 2 ^ 64)) (number_high BadWord BadWord 0 4294967295 time.0) (λ seconds two.
    bind_gets (number_of BadWord BadWord 0 4294967295 time.1) _ (λ n. n ≤ 4294967295) (λ at. (at.term < 2 ^ 64) × (at.ts < 2 ^ 64)) (number_high BadWord BadWord 0 4294967295 time.1) (λ increment three.
    (omega (arith, one), omega (arith, two, three)))))))

target_gets : (word : List ℕ) → Gets (target_of word) IsNumbered
unfolding writer_target optime_target
target_gets [] = tt
target_gets (c ∷ digits) =
    cond_gets (c == 119) _ _ IsNumbered (λ _. bind_any (number_of BadWord BadWord 0 999 digits) _ IsNumbered (λ writer. tt)) (λ _.
    bind_gets (optime_of (c ∷ digits)) _ (λ at. (at.term < 2 ^ 64) × (at.ts < 2 ^ 64)) IsNumbered (optime_said (c ∷ digits)) (λ at numbered. numbered))

target_said : (left : Left) → Gets (target_at left) (λ x. IsNumbered x.0)
unfolding target_at
target_said left = bind_any (word_at left) _ (λ x. IsNumbered x.0) (λ word. bind_gets (target_of word.0) _ IsNumbered (λ x. IsNumbered x.0) (target_gets word.0) (λ target numbered. numbered))

-- ---- writes

write_said : (kind : WriteKind) (left : Left) → Gets (write_at kind left) CanBeWritten
unfolding insert_at delete_at replace_at update_at
write_said Insert left =
    bind_any (collection_at left) _ CanBeWritten (λ ns. bind_any (text_at ns.1) _ CanBeWritten (λ text.
    bind_gets (last_document text) _ DocumentSaid CanBeWritten (document_said text) (λ document can. can)))
write_said Replace left =
    bind_any (collection_at left) _ CanBeWritten (λ ns. bind_any (text_at ns.1) _ CanBeWritten (λ text.
    bind_gets (value_at text) _ FirstSaid CanBeWritten (value_said text) (λ id can_id. bind_any (after_space id.1) _ CanBeWritten (λ rest.
    bind_gets (last_document rest) _ DocumentSaid CanBeWritten (document_said rest) (λ document can. (shown_said id.0 can_id, can))))))
write_said Update left =
    bind_any (collection_at left) _ CanBeWritten (λ ns. bind_any (text_at ns.1) _ CanBeWritten (λ text.
    bind_gets (value_at text) _ FirstSaid CanBeWritten (value_said text) (λ id can_id. bind_any (after_space id.1) _ CanBeWritten (λ rest.
    bind_gets (last_document rest) _ DocumentSaid CanBeWritten (document_said rest) (λ document can. (shown_said id.0 can_id, can))))))
write_said Delete left =
    bind_any (collection_at left) _ CanBeWritten (λ ns. bind_any (text_at ns.1) _ CanBeWritten (λ text.
    bind_gets (last_value text) _ CanBeSpelled CanBeWritten (last_said text) (λ id can. shown_said id can)))

written_said : (node : ℕ) (op : WriteOp) → CanBeWritten op → IsSayable (write_command node op)
written_said node (ops.Insert ns document) can = can
written_said node (ops.Replace ns id document) can = can
written_said node (ops.Update ns id operators) can = can
written_said node (ops.Delete ns id) can = can

kind_said : (node writer : ℕ) (kind : Option WriteKind) (left : Left) → Gets (begin_kind node writer kind left) IsSayable
kind_said node writer None left = tt
kind_said node writer (Some kind) left = bind_gets (write_at kind left) _ CanBeWritten IsSayable (write_said kind left) (λ op can. can)

retried_said : (node : ℕ) (session : Session) (kind : Option WriteKind) (left : Left) → Gets (retry_kind node session kind left) IsSayable
retried_said node session None left = tt
retried_said node session (Some kind) left = bind_gets (write_at kind left) _ CanBeWritten IsSayable (write_said kind left) (λ op can. can)

begin_said : (node : ℕ) (left : Left) → Gets (begin_at node left) IsSayable
unfolding begin_at
begin_said node left = bind_any (writer_at left) _ IsSayable (λ writer. bind_any (word_at writer.1) _ IsSayable (λ kind. kind_said node writer.0 (write_kind kind.0) kind.1))

retry_said : (node : ℕ) (left : Left) → Gets (retry_at node left) IsSayable
unfolding retry_at
retry_said node left =
    bind_any (number_at 0 4294967295 left) _ IsSayable (λ id. bind_any (number_at 1 2147483647 id.1) _ IsSayable (λ number.
    bind_any (word_at number.1) _ IsSayable (λ kind. retried_said node (record { id = id.0; number = number.0 }) (write_kind kind.0) kind.1)))

-- ---- the words after a node

commit_said : (node : ℕ) (left : Left) → Gets (commit_at node left) IsSayable
unfolding commit_at
commit_said node left = bind_any (writer_at left) _ IsSayable (λ writer. ended_gets writer.1 _ IsSayable tt)

abort_said : (node : ℕ) (left : Left) → Gets (abort_at node left) IsSayable
unfolding abort_at
abort_said node left = bind_any (writer_at left) _ IsSayable (λ writer. ended_gets writer.1 _ IsSayable tt)

ack_said : (node : ℕ) (left : Left) → Gets (ack_at node left) IsSayable
unfolding ack_at
ack_said node left =
    bind_gets (target_at left) _ (λ x. IsNumbered x.0) IsSayable (target_said left) (λ target numbered.
    bind_any (concern_at target.1) _ IsSayable (λ concern. ended_gets concern.1 _ IsSayable numbered))

read_said : (node : ℕ) (left : Left) → Gets (read_at node left) IsSayable
unfolding read_at
read_said node left =
    bind_any (level_at left) _ IsSayable (λ level. bind_any (collection_at level.1) _ IsSayable (λ ns. bind_any (text_at ns.1) _ IsSayable (λ text.
    bind_gets (last_value text) _ CanBeSpelled IsSayable (last_said text) (λ id can. shown_said id can))))

dump_said : (node : ℕ) (left : Left) → Gets (dump_at node left) IsSayable
unfolding dump_at
dump_said node left = bind_any (level_at left) _ IsSayable (λ level. ended_gets level.1 _ IsSayable tt)

heartbeat_said : (nodes node : ℕ) (left : Left) → Gets (heartbeat_at nodes node left) IsSayable
unfolding heartbeat_at
heartbeat_said nodes node left = bind_gets (other_node_at nodes node left) _ (λ x. x.0 ≢ node) IsSayable (other_said nodes node left) (λ other apart. ended_gets other.1 _ IsSayable apart)

report_said : (nodes node : ℕ) (left : Left) → Gets (report_at nodes node left) IsSayable
unfolding report_at
report_said nodes node left = bind_gets (other_node_at nodes node left) _ (λ x. x.0 ≢ node) IsSayable (other_said nodes node left) (λ other apart. ended_gets other.1 _ IsSayable apart)

common_said : (nodes node : ℕ) (left : Left) → Gets (common_at nodes node left) IsSayable
unfolding common_at
common_said nodes node left = bind_gets (other_node_at nodes node left) _ (λ x. x.0 ≢ node) IsSayable (other_said nodes node left) (λ other apart. ended_gets other.1 _ IsSayable apart)

apply_said : (node : ℕ) (left : Left) → Gets (apply_at node left) IsSayable
unfolding apply_at
apply_said node left = bind_any (optional_at 4 1 16 left) _ IsSayable (λ workers. ended_gets workers.1 _ IsSayable tt)

crash_said : (node : ℕ) (left : Left) → Gets (crash_at node left) IsSayable
unfolding crash_at
crash_said node left = bind_gets (pick_at left) _ PickSaid IsSayable (pick_said left) (λ pick few. ended_gets pick.1 _ IsSayable (zero_said pick.0 few))

disk_fail_said : (node : ℕ) (left : Left) → Gets (disk_fail_at node left) IsSayable
unfolding disk_fail_at
disk_fail_said node left =
    bind_any (disk_at left) _ IsSayable (λ disk. bind_any (number_at 1 1000 disk.1) _ IsSayable (λ call.
    bind_gets (pick_at call.1) _ PickSaid IsSayable (pick_said call.1) (λ pick few. ended_gets pick.1 _ IsSayable few)))

clock_said : (node : ℕ) (left : Left) → Gets (clock_at node left) IsSayable
unfolding clock_at
clock_said node left = bind_any (number_at 0 2147483647 left) _ IsSayable (λ seconds. ended_gets seconds.1 _ IsSayable tt)

latest_said : (nodes : ℕ) (left : Left) → Gets (deliver_latest nodes left) IsSayable
unfolding deliver_latest
latest_said nodes left =
    bind_any (node_at nodes left) _ IsSayable (λ from.
    bind_gets (other_node_at nodes from.0 from.1) _ (λ x. x.0 ≢ from.0) IsSayable (other_said nodes from.0 from.1) (λ to apart. ended_gets to.1 _ IsSayable apart))

one_said : (left : Left) → Gets (deliver_one left) IsSayable
unfolding deliver_one
one_said left = bind_gets (message_at left) _ (λ x. x.0 < 2 ^ 64) IsSayable (message_said left) (λ message few. ended_gets message.1 _ IsSayable few)

deliver_said : (nodes : ℕ) (after left : Left) → Gets (deliver_at nodes after left) IsSayable
deliver_said nodes None left = one_said left
deliver_said nodes (Some text) left = latest_said nodes left

reconfig_said : (node : ℕ) (left : Left) → Gets (reconfig_at node left) IsSayable
unfolding reconfig_at
reconfig_said node left = bind_any (text_at left) _ IsSayable (λ text. bind_gets (config_of text) _ IsNew IsSayable (config_new text) (λ config new. new))

node_said : (nodes : ℕ) (verb : NodeVerb) (node : ℕ) (left : Left) → Gets (of_node nodes verb node left) IsSayable
node_said nodes (asks.Write kind) node left = bind_gets (write_at kind left) _ CanBeWritten IsSayable (write_said kind left) (λ op can. written_said node op can)
node_said nodes asks.Retry node left = retry_said node left
node_said nodes asks.Note node left = ended_gets left _ IsSayable tt
node_said nodes asks.Begin node left = begin_said node left
node_said nodes asks.Commit node left = commit_said node left
node_said nodes asks.Abort node left = abort_said node left
node_said nodes asks.Ack node left = ack_said node left
node_said nodes asks.Read node left = read_said node left
node_said nodes asks.Dump node left = dump_said node left
node_said nodes asks.Log node left = ended_gets left _ IsSayable tt
node_said nodes asks.State node left = ended_gets left _ IsSayable tt
node_said nodes asks.Rolled node left = ended_gets left _ IsSayable tt
node_said nodes asks.Campaign node left = ended_gets left _ IsSayable tt
node_said nodes asks.DryRun node left = ended_gets left _ IsSayable tt
node_said nodes asks.Drain node left = ended_gets left _ IsSayable tt
node_said nodes asks.StepDown node left = ended_gets left _ IsSayable tt
node_said nodes asks.Heartbeat node left = heartbeat_said nodes node left
node_said nodes asks.Report node left = report_said nodes node left
node_said nodes asks.Common node left = common_said nodes node left
node_said nodes asks.Fetch node left = ended_gets left _ IsSayable tt
node_said nodes asks.Apply node left = apply_said node left
node_said nodes asks.Flush node left = ended_gets left _ IsSayable tt
node_said nodes asks.Checkpoint node left = ended_gets left _ IsSayable tt
node_said nodes asks.Reconfig node left = reconfig_said node left
node_said nodes asks.Crash node left = crash_said node left
node_said nodes asks.Restart node left = ended_gets left _ IsSayable tt
node_said nodes asks.DiskFail node left = disk_fail_said node left
node_said nodes asks.Clock node left = clock_said node left

sayable : (nodes : ℕ) (verb : Verb) (left : Left) → Gets (words_at nodes verb left) IsSayable
sayable nodes verbs.Deliver left = deliver_said nodes (after_word left) left
sayable nodes (verbs.Node verb) left = bind_any (node_at nodes left) _ IsSayable (λ node. node_said nodes verb node.0 node.1)

both_hold : (nodes : ℕ) (read : Result Command ScriptRule) → Gets read (λ command. is_for nodes command ≡ true) → Gets read IsSayable → Gets read (CanBeSaid nodes)
both_hold nodes (Ok command) within sayable = record { within = within; sayable = sayable }
both_hold nodes (Err rule) within sayable = tt

pub words_said : (nodes : ℕ) (verb : Verb) (left : Left) → Gets (words_at nodes verb left) (CanBeSaid nodes)
words_said nodes verb left = both_hold nodes (words_at nodes verb left) (words_within nodes verb left) (sayable nodes verb left)

command_gets : (nodes : ℕ) (text : List ℕ) → Gets (command_at nodes text) (CanBeSaid nodes)
unfolding command_at
command_gets nodes text = bind_any (verb_at text) _ (CanBeSaid nodes) (λ verb. words_said nodes verb.0 verb.1)

pub command_said : (nodes : ℕ) (text : List ℕ) (command : Command) → command_at nodes text ≡ Ok command → CanBeSaid nodes command
command_said nodes text command is = got (command_at nodes text) command (CanBeSaid nodes) (command_gets nodes text) is
