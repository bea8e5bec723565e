-- A command that is read is one of the set, within its bounds.
use Rattle.std.proofs.Common.{◌≡◌, ℕ, Bool, true, ◌&&◌, ◌==◌, List, [], ◌∷◌, Option, None, Some, refl, length, arith}
use Rattle.std.specs.Prelude.{nat_lt, nat_le, codes}
use Rattle.std.specs.Char.{is_ascii_digit}
use Rattle.std.specs.List.{list_all}
use Rattle.std.specs.Str.{bytes_eq}
use Rattle.std.specs.Str.Parse.{digits_value}
use Rattle.doc_update.specs.declared.write.WriteOp.{WriteOp}
use Rattle.doc_update.specs.declared.write.WriteOp.TheVariants as ops
use Rattle.oplog_entry.specs.declared.entry.Session.{Session}
use Rattle.set_model.specs.declared.command.Command.{Command}
use Rattle.set_model.specs.declared.command.Target.{Target}
use Rattle.set_model.specs.Limits.{is_collection, collection_of, is_within_target, is_within_concern, is_within_config, is_within_session, is_for}
use Rattle.script_words.specs.declared.rule.ScriptRule.{ScriptRule}
use Rattle.script_words.specs.declared.rule.ScriptRule.TheVariants.{BadWord, BadNode, BadNumber}
use Rattle.script_words.specs.declared.verb.Verb.{Verb}
use Rattle.script_words.specs.declared.verb.Verb.TheVariants as verbs
use Rattle.script_words.specs.declared.verb.NodeVerb.{NodeVerb}
use Rattle.script_words.specs.declared.verb.NodeVerb.TheVariants as asks
use Rattle.script_words.specs.declared.verb.WriteKind.{WriteKind}
use Rattle.script_words.specs.declared.verb.WriteKind.TheVariants.{Insert, Replace, Update, Delete}
use Rattle.script_words.specs.Words.{Left, after_word, word_at, number_of, numbered, number_at, optional_at, pick_at, node_at, other_node_at, writer_at, message_at, collection_at, target_of, optime_of, optime_target, writer_target, concern_of, target_at, concern_at, level_at, disk_at}
use Rattle.script_words.specs.Configs.{config_of}
use Rattle.script_words.specs.Values.{text_at, value_at, after_space, last_value, last_document}
use Rattle.script_words.specs.Commands.{write_kind, insert_at, delete_at, replace_at, update_at, write_at, write_command, retry_kind, retry_at, begin_kind, begin_at, commit_at, abort_at, ack_at, read_at, dump_at, heartbeat_at, report_at, common_at, apply_at, reconfig_at, crash_at, disk_fail_at, clock_at, of_node, deliver_one, deliver_latest, deliver_at, words_at}
use Rattle.bson_doc.proofs.BindLemmas.{Gets, bind_gets, cond_gets}
use Rattle.script_words.proofs.Gets.{bind_any, tested, ended_gets, both}
use Rattle.script_words.proofs.CommandsConfig.{config_text_within}

-- ---- words

abbrev pub IsIn : ℕ → ℕ → ℕ → Type 0
IsIn least most number = (nat_le least number && nat_le number most) ≡ true

number_gets : (form range : ScriptRule) (least most : ℕ) (word : List ℕ) → Gets (number_of form range least most word) (IsIn least most)
number_gets form range least most word =
    tested (nat_lt 0 (length word) && list_all is_ascii_digit word) _ form (IsIn least most) (λ digits.
    tested (nat_le least (digits_value 10 word) && nat_le (digits_value 10 word) most) _ range (IsIn least most) (λ passed. passed))

numbered_gets : (rule : ScriptRule) (letter most : ℕ) (word : List ℕ) → Gets (numbered rule letter most word) (IsIn 0 most)
numbered_gets rule letter most [] = tt
numbered_gets rule letter most (c ∷ digits) = tested (c == letter) (number_of rule rule 0 most digits) rule (IsIn 0 most) (λ passed. number_gets rule rule 0 most digits)

pub number_within : (least most : ℕ) (left : Left) → Gets (number_at least most left) (λ x. IsIn least most x.0)
unfolding number_at
number_within least most left =
    bind_any (word_at left) _ (λ x. IsIn least most x.0) (λ word.
    bind_gets (number_of BadWord BadNumber least most word.0) _ (IsIn least most) (λ x. IsIn least most x.0) (number_gets BadWord BadNumber least most word.0) (λ number within. within))

pub optional_within : (default least most : ℕ) (left : Left) → IsIn least most default → Gets (optional_at default least most left) (λ x. IsIn least most x.0)
optional_within default least most None fine = fine
optional_within default least most (Some text) fine = number_within least most (Some text)

abbrev pub IsOurs : ℕ → ℕ → Type 0
IsOurs nodes node = nat_lt node nodes ≡ true

pub node_within : (nodes : ℕ) (left : Left) → Gets (node_at nodes left) (λ x. IsOurs nodes x.0)
unfolding node_at
node_within nodes left =
    bind_any (word_at left) _ (λ x. IsOurs nodes x.0) (λ word. bind_any (numbered BadNode 110 4294967295 word.0) _ (λ x. IsOurs nodes x.0) (λ number.
    tested (nat_lt number nodes) _ BadNode (λ x. IsOurs nodes x.0) (λ passed. passed)))

pub other_within : (nodes node : ℕ) (left : Left) → Gets (other_node_at nodes node left) (λ x. IsOurs nodes x.0)
unfolding other_node_at
other_within nodes node left =
    bind_gets (node_at nodes left) _ (λ x. IsOurs nodes x.0) (λ x. IsOurs nodes x.0) (node_within nodes left) (λ other ours.
    cond_gets (other.0 == node) _ _ (λ x. IsOurs nodes x.0) (λ same. tt) (λ apart. ours))

small : (writer : ℕ) → IsIn 0 999 writer → nat_lt writer 1000 ≡ true
small writer within = grind arith

writer_within : (left : Left) → Gets (writer_at left) (λ x. nat_lt x.0 1000 ≡ true)
unfolding writer_at
writer_within left =
    bind_any (word_at left) _ (λ x. nat_lt x.0 1000 ≡ true) (λ word.
    bind_gets (numbered BadWord 119 999 word.0) _ (IsIn 0 999) (λ x. nat_lt x.0 1000 ≡ true) (numbered_gets BadWord 119 999 word.0) (λ number within. small number within))

pub collection_within : (left : Left) → Gets (collection_at left) (λ x. is_collection x.0 ≡ true)
unfolding collection_at
collection_within left = bind_any (word_at left) _ (λ x. is_collection x.0 ≡ true) (λ word. tested (is_collection word.0) _ BadWord (λ x. is_collection x.0 ≡ true) (λ passed. passed))

abbrev IsTargetIn : Target → Type 0
IsTargetIn target = is_within_target target ≡ true

target_gets : (word : List ℕ) → Gets (target_of word) IsTargetIn
unfolding writer_target optime_target
target_gets [] = tt
target_gets (c ∷ digits) =
    cond_gets (c == 119) _ _ IsTargetIn
    (λ writer. bind_gets (number_of BadWord BadWord 0 999 digits) _ (IsIn 0 999) IsTargetIn (number_gets BadWord BadWord 0 999 digits) (λ number within. small number within))
    (λ other. bind_any (optime_of (c ∷ digits)) _ IsTargetIn (λ at. refl))

target_within : (left : Left) → Gets (target_at left) (λ x. IsTargetIn x.0)
unfolding target_at
target_within left = bind_any (word_at left) _ (λ x. IsTargetIn x.0) (λ word. bind_gets (target_of word.0) _ IsTargetIn (λ x. IsTargetIn x.0) (target_gets word.0) (λ target within. within))

pub concern_within : (left : Left) → Gets (concern_at left) (λ x. is_within_concern x.0 ≡ true)
unfolding concern_at concern_of
concern_within left =
    bind_any (word_at left) _ (λ x. is_within_concern x.0 ≡ true) (λ word.
    bind_gets (concern_of word.0) _ (λ concern. is_within_concern concern ≡ true) (λ x. is_within_concern x.0 ≡ true)
    (cond_gets (bytes_eq word.0 (codes "majority")) _ _ (λ concern. is_within_concern concern ≡ true) (λ majority. refl)
    (λ other. bind_gets (number_of BadWord BadNumber 1 50 word.0) _ (IsIn 1 50) (λ concern. is_within_concern concern ≡ true) (number_gets BadWord BadNumber 1 50 word.0) (λ count within. within)))
    (λ concern within. within))

-- ---- writes

abbrev IsNamed : WriteOp → Type 0
IsNamed op = is_collection (collection_of op) ≡ true

write_within : (kind : WriteKind) (left : Left) → Gets (write_at kind left) IsNamed
unfolding insert_at delete_at replace_at update_at
write_within Insert left =
    bind_gets (collection_at left) _ (λ x. is_collection x.0 ≡ true) IsNamed (collection_within left) (λ ns named.
    bind_any (text_at ns.1) _ IsNamed (λ text. bind_any (last_document text) _ IsNamed (λ document. named)))
write_within Replace left =
    bind_gets (collection_at left) _ (λ x. is_collection x.0 ≡ true) IsNamed (collection_within left) (λ ns named.
    bind_any (text_at ns.1) _ IsNamed (λ text. bind_any (value_at text) _ IsNamed (λ id.
    bind_any (after_space id.1) _ IsNamed (λ rest. bind_any (last_document rest) _ IsNamed (λ document. named)))))
write_within Update left =
    bind_gets (collection_at left) _ (λ x. is_collection x.0 ≡ true) IsNamed (collection_within left) (λ ns named.
    bind_any (text_at ns.1) _ IsNamed (λ text. bind_any (value_at text) _ IsNamed (λ id.
    bind_any (after_space id.1) _ IsNamed (λ rest. bind_any (last_document rest) _ IsNamed (λ document. named)))))
write_within Delete left =
    bind_gets (collection_at left) _ (λ x. is_collection x.0 ≡ true) IsNamed (collection_within left) (λ ns named.
    bind_any (text_at ns.1) _ IsNamed (λ text. bind_any (last_value text) _ IsNamed (λ id. named)))

-- ---- commands

abbrev pub Fit : ℕ → Command → Type 0
Fit nodes command = is_for nodes command ≡ true

-- one node is named, and the rest is within its bounds
one_and : (a w : Bool) → a ≡ true → w ≡ true → ((a && true) && w) ≡ true
one_and a w one rest = rw (one, rest) refl

our_write : (nodes node : ℕ) (op : WriteOp) → IsOurs nodes node → IsNamed op → Fit nodes (write_command node op)
our_write nodes node (ops.Insert ns document) ours named = one_and (nat_lt node nodes) (is_collection ns) ours named
our_write nodes node (ops.Replace ns id document) ours named = one_and (nat_lt node nodes) (is_collection ns) ours named
our_write nodes node (ops.Update ns id operators) ours named = one_and (nat_lt node nodes) (is_collection ns) ours named
our_write nodes node (ops.Delete ns id) ours named = one_and (nat_lt node nodes) (is_collection ns) ours named

alone : (nodes node : ℕ) → IsOurs nodes node → ((nat_lt node nodes && true) && true) ≡ true
alone nodes node ours = one_and (nat_lt node nodes) true ours refl

pair : (nodes one other : ℕ) → IsOurs nodes one → IsOurs nodes other → ((nat_lt one nodes && (nat_lt other nodes && true)) && true) ≡ true
pair nodes one other ours too = rw (ours, too) refl

kind_within : (nodes node writer : ℕ) (kind : Option WriteKind) (left : Left) → IsOurs nodes node → nat_lt writer 1000 ≡ true → Gets (begin_kind node writer kind left) (Fit nodes)
kind_within nodes node writer None left ours low = tt
kind_within nodes node writer (Some kind) left ours low =
    bind_gets (write_at kind left) _ IsNamed (Fit nodes) (write_within kind left) (λ op named.
    one_and (nat_lt node nodes) (nat_lt writer 1000 && is_collection (collection_of op)) ours (both (nat_lt writer 1000) (is_collection (collection_of op)) low named))

abbrev IsSession : Session → Type 0
IsSession session = is_within_session session ≡ true

within_session : (id number : ℕ) → IsIn 0 4294967295 id → IsIn 1 2147483647 number → IsSession (record { id = id; number = number })
within_session id number one two = grind arith

retried_within : (nodes node : ℕ) (session : Session) (kind : Option WriteKind) (left : Left) → IsOurs nodes node → IsSession session → Gets (retry_kind node session kind left) (Fit nodes)
retried_within nodes node session None left ours fine = tt
retried_within nodes node session (Some kind) left ours fine =
    bind_gets (write_at kind left) _ IsNamed (Fit nodes) (write_within kind left) (λ op named.
    one_and (nat_lt node nodes) (is_within_session session && is_collection (collection_of op)) ours (both (is_within_session session) (is_collection (collection_of op)) fine named))

retry_within : (nodes node : ℕ) (left : Left) → IsOurs nodes node → Gets (retry_at node left) (Fit nodes)
unfolding retry_at
retry_within nodes node left ours =
    bind_gets (number_at 0 4294967295 left) _ (λ x. IsIn 0 4294967295 x.0) (Fit nodes) (number_within 0 4294967295 left) (λ id one.
    bind_gets (number_at 1 2147483647 id.1) _ (λ x. IsIn 1 2147483647 x.0) (Fit nodes) (number_within 1 2147483647 id.1) (λ number two.
    bind_any (word_at number.1) _ (Fit nodes) (λ kind.
    retried_within nodes node (record { id = id.0; number = number.0 }) (write_kind kind.0) kind.1 ours (within_session id.0 number.0 one two))))

begin_within : (nodes node : ℕ) (left : Left) → IsOurs nodes node → Gets (begin_at node left) (Fit nodes)
unfolding begin_at
begin_within nodes node left ours =
    bind_gets (writer_at left) _ (λ x. nat_lt x.0 1000 ≡ true) (Fit nodes) (writer_within left) (λ writer low.
    bind_any (word_at writer.1) _ (Fit nodes) (λ kind. kind_within nodes node writer.0 (write_kind kind.0) kind.1 ours low))

commit_within : (nodes node : ℕ) (left : Left) → IsOurs nodes node → Gets (commit_at node left) (Fit nodes)
unfolding commit_at
commit_within nodes node left ours =
    bind_gets (writer_at left) _ (λ x. nat_lt x.0 1000 ≡ true) (Fit nodes) (writer_within left) (λ writer low. ended_gets writer.1 _ (Fit nodes) (one_and (nat_lt node nodes) (nat_lt writer.0 1000) ours low))

abort_within : (nodes node : ℕ) (left : Left) → IsOurs nodes node → Gets (abort_at node left) (Fit nodes)
unfolding abort_at
abort_within nodes node left ours =
    bind_gets (writer_at left) _ (λ x. nat_lt x.0 1000 ≡ true) (Fit nodes) (writer_within left) (λ writer low. ended_gets writer.1 _ (Fit nodes) (one_and (nat_lt node nodes) (nat_lt writer.0 1000) ours low))

ack_within : (nodes node : ℕ) (left : Left) → IsOurs nodes node → Gets (ack_at node left) (Fit nodes)
unfolding ack_at
ack_within nodes node left ours =
    bind_gets (target_at left) _ (λ x. IsTargetIn x.0) (Fit nodes) (target_within left) (λ target one.
    bind_gets (concern_at target.1) _ (λ x. is_within_concern x.0 ≡ true) (Fit nodes) (concern_within target.1) (λ concern two.
    ended_gets concern.1 _ (Fit nodes) (one_and (nat_lt node nodes) (is_within_target target.0 && is_within_concern concern.0) ours (both (is_within_target target.0) (is_within_concern concern.0) one two))))

read_within : (nodes node : ℕ) (left : Left) → IsOurs nodes node → Gets (read_at node left) (Fit nodes)
unfolding read_at
read_within nodes node left ours =
    bind_any (level_at left) _ (Fit nodes) (λ level. bind_gets (collection_at level.1) _ (λ x. is_collection x.0 ≡ true) (Fit nodes) (collection_within level.1) (λ ns named.
    bind_any (text_at ns.1) _ (Fit nodes) (λ text. bind_any (last_value text) _ (Fit nodes) (λ id. one_and (nat_lt node nodes) (is_collection ns.0) ours named))))

dump_within : (nodes node : ℕ) (left : Left) → IsOurs nodes node → Gets (dump_at node left) (Fit nodes)
unfolding dump_at
dump_within nodes node left ours = bind_any (level_at left) _ (Fit nodes) (λ level. ended_gets level.1 _ (Fit nodes) (alone nodes node ours))

heartbeat_within : (nodes node : ℕ) (left : Left) → IsOurs nodes node → Gets (heartbeat_at nodes node left) (Fit nodes)
unfolding heartbeat_at
heartbeat_within nodes node left ours =
    bind_gets (other_node_at nodes node left) _ (λ x. IsOurs nodes x.0) (Fit nodes) (other_within nodes node left) (λ other too. ended_gets other.1 _ (Fit nodes) (pair nodes node other.0 ours too))

report_within : (nodes node : ℕ) (left : Left) → IsOurs nodes node → Gets (report_at nodes node left) (Fit nodes)
unfolding report_at
report_within nodes node left ours =
    bind_gets (other_node_at nodes node left) _ (λ x. IsOurs nodes x.0) (Fit nodes) (other_within nodes node left) (λ other too. ended_gets other.1 _ (Fit nodes) (pair nodes node other.0 ours too))

common_within : (nodes node : ℕ) (left : Left) → IsOurs nodes node → Gets (common_at nodes node left) (Fit nodes)
unfolding common_at
common_within nodes node left ours =
    bind_gets (other_node_at nodes node left) _ (λ x. IsOurs nodes x.0) (Fit nodes) (other_within nodes node left) (λ other too. ended_gets other.1 _ (Fit nodes) (pair nodes node other.0 ours too))

apply_within : (nodes node : ℕ) (left : Left) → IsOurs nodes node → Gets (apply_at node left) (Fit nodes)
unfolding apply_at
apply_within nodes node left ours =
    bind_gets (optional_at 4 1 16 left) _ (λ x. IsIn 1 16 x.0) (Fit nodes) (optional_within 4 1 16 left refl) (λ workers few.
    ended_gets workers.1 _ (Fit nodes) (one_and (nat_lt node nodes) (nat_le 1 workers.0 && nat_le workers.0 16) ours few))

reconfig_within : (nodes node : ℕ) (left : Left) → IsOurs nodes node → Gets (reconfig_at node left) (Fit nodes)
unfolding reconfig_at
reconfig_within nodes node left ours =
    bind_any (text_at left) _ (Fit nodes) (λ text.
    bind_gets (config_of text) _ (λ c. is_within_config c ≡ true) (Fit nodes) (config_text_within text) (λ config within. one_and (nat_lt node nodes) (is_within_config config) ours within))

crash_within : (nodes node : ℕ) (left : Left) → IsOurs nodes node → Gets (crash_at node left) (Fit nodes)
unfolding crash_at
crash_within nodes node left ours = bind_any (pick_at left) _ (Fit nodes) (λ pick. ended_gets pick.1 _ (Fit nodes) (alone nodes node ours))

disk_fail_within : (nodes node : ℕ) (left : Left) → IsOurs nodes node → Gets (disk_fail_at node left) (Fit nodes)
unfolding disk_fail_at
disk_fail_within nodes node left ours =
    bind_any (disk_at left) _ (Fit nodes) (λ disk. bind_gets (number_at 1 1000 disk.1) _ (λ x. IsIn 1 1000 x.0) (Fit nodes) (number_within 1 1000 disk.1) (λ call some.
    bind_any (pick_at call.1) _ (Fit nodes) (λ pick. ended_gets pick.1 _ (Fit nodes) (one_and (nat_lt node nodes) (nat_le 1 call.0 && nat_le call.0 1000) ours some))))

clock_within : (nodes node : ℕ) (left : Left) → IsOurs nodes node → Gets (clock_at node left) (Fit nodes)
unfolding clock_at
clock_within nodes node left ours =
    bind_gets (number_at 0 2147483647 left) _ (λ x. IsIn 0 2147483647 x.0) (Fit nodes) (number_within 0 2147483647 left) (λ seconds low.
    ended_gets seconds.1 _ (Fit nodes) (one_and (nat_lt node nodes) (nat_lt seconds.0 2147483648) ours (early seconds.0 low)))
  where
    early : (seconds : ℕ) → IsIn 0 2147483647 seconds → nat_lt seconds 2147483648 ≡ true
    early seconds low = grind arith

pub node_words : (nodes : ℕ) (verb : NodeVerb) (node : ℕ) (left : Left) → IsOurs nodes node → Gets (of_node nodes verb node left) (Fit nodes)
node_words nodes (asks.Write kind) node left ours = bind_gets (write_at kind left) _ IsNamed (Fit nodes) (write_within kind left) (λ op named. our_write nodes node op ours named)
node_words nodes asks.Retry node left ours = retry_within nodes node left ours
node_words nodes asks.Note node left ours = ended_gets left _ (Fit nodes) (alone nodes node ours)
node_words nodes asks.Begin node left ours = begin_within nodes node left ours
node_words nodes asks.Commit node left ours = commit_within nodes node left ours
node_words nodes asks.Abort node left ours = abort_within nodes node left ours
node_words nodes asks.Ack node left ours = ack_within nodes node left ours
node_words nodes asks.Read node left ours = read_within nodes node left ours
node_words nodes asks.Dump node left ours = dump_within nodes node left ours
node_words nodes asks.Heartbeat node left ours = heartbeat_within nodes node left ours
node_words nodes asks.Report node left ours = report_within nodes node left ours
node_words nodes asks.Common node left ours = common_within nodes node left ours
node_words nodes asks.Apply node left ours = apply_within nodes node left ours
node_words nodes asks.Reconfig node left ours = reconfig_within nodes node left ours
node_words nodes asks.Crash node left ours = crash_within nodes node left ours
node_words nodes asks.DiskFail node left ours = disk_fail_within nodes node left ours
node_words nodes asks.Clock node left ours = clock_within nodes node left ours
node_words nodes asks.Log node left ours = ended_gets left _ (Fit nodes) (alone nodes node ours)
node_words nodes asks.State node left ours = ended_gets left _ (Fit nodes) (alone nodes node ours)
node_words nodes asks.Rolled node left ours = ended_gets left _ (Fit nodes) (alone nodes node ours)
node_words nodes asks.Campaign node left ours = ended_gets left _ (Fit nodes) (alone nodes node ours)
node_words nodes asks.DryRun node left ours = ended_gets left _ (Fit nodes) (alone nodes node ours)
node_words nodes asks.Drain node left ours = ended_gets left _ (Fit nodes) (alone nodes node ours)
node_words nodes asks.StepDown node left ours = ended_gets left _ (Fit nodes) (alone nodes node ours)
node_words nodes asks.Fetch node left ours = ended_gets left _ (Fit nodes) (alone nodes node ours)
node_words nodes asks.Flush node left ours = ended_gets left _ (Fit nodes) (alone nodes node ours)
node_words nodes asks.Checkpoint node left ours = ended_gets left _ (Fit nodes) (alone nodes node ours)
node_words nodes asks.Restart node left ours = ended_gets left _ (Fit nodes) (alone nodes node ours)

latest_within : (nodes : ℕ) (left : Left) → Gets (deliver_latest nodes left) (Fit nodes)
unfolding deliver_latest
latest_within nodes left =
    bind_gets (node_at nodes left) _ (λ x. IsOurs nodes x.0) (Fit nodes) (node_within nodes left) (λ from ours.
    bind_gets (other_node_at nodes from.0 from.1) _ (λ x. IsOurs nodes x.0) (Fit nodes) (other_within nodes from.0 from.1) (λ to too. ended_gets to.1 _ (Fit nodes) (pair nodes from.0 to.0 ours too)))

one_within : (nodes : ℕ) (left : Left) → Gets (deliver_one left) (Fit nodes)
unfolding deliver_one
one_within nodes left = bind_any (message_at left) _ (Fit nodes) (λ message. ended_gets message.1 _ (Fit nodes) refl)

deliver_within : (nodes : ℕ) (after left : Left) → Gets (deliver_at nodes after left) (Fit nodes)
deliver_within nodes None left = one_within nodes left
deliver_within nodes (Some text) left = latest_within nodes left

-- the words after a command's first one
pub words_within : (nodes : ℕ) (verb : Verb) (left : Left) → Gets (words_at nodes verb left) (Fit nodes)
words_within nodes verbs.Deliver left = deliver_within nodes (after_word left) left
words_within nodes (verbs.Node verb) left =
    bind_gets (node_at nodes left) _ (λ x. IsOurs nodes x.0) (Fit nodes) (node_within nodes left) (λ node ours. node_words nodes verb node.0 node.1 ours)
