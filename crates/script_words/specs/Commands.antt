-- The command of a line, by its first word.
use Rattle.std.specs.Prelude.{ℕ, Bool, true, false, List, codes, Option, None, Some, Result, Ok, Err, if◌then◌else◌}
use Rattle.std.specs.Str.{bytes_eq}
use Rattle.bson_doc.specs.Bind.{◌>>=◌}
use Rattle.doc_update.specs.declared.write.WriteOp.{WriteOp}
use Rattle.doc_update.specs.declared.write.WriteOp.TheVariants as ops
use Rattle.oplog_entry.specs.declared.entry.Session.{Session}
use Rattle.set_model.specs.declared.command.Command.{Command}
use Rattle.set_model.specs.declared.command.Command.TheVariants as commands
use Rattle.script_words.specs.declared.rule.ScriptRule.{ScriptRule}
use Rattle.script_words.specs.declared.rule.ScriptRule.TheVariants.{UnknownCommand, WordCount, BadWord}
use Rattle.script_words.specs.declared.shape.Shape.{Shape}
use Rattle.script_words.specs.declared.shape.Shape.TheVariants.{Words, Value}
use Rattle.script_words.specs.declared.verb.Keyword.{Keyword}
use Rattle.script_words.specs.declared.verb.Keyword.TheVariants as keywords
use Rattle.script_words.specs.declared.verb.Verb.{Verb}
use Rattle.script_words.specs.declared.verb.Verb.TheVariants as verbs
use Rattle.script_words.specs.declared.verb.NodeVerb.{NodeVerb}
use Rattle.script_words.specs.declared.verb.NodeVerb.TheVariants as asks
use Rattle.script_words.specs.declared.verb.WriteKind.{WriteKind}
use Rattle.script_words.specs.declared.verb.WriteKind.TheVariants.{Insert, Replace, Update, Delete}
use Rattle.script_words.specs.Configs.{config_of}
use Rattle.script_words.specs.Words.{Left, after_word, has_shape, word_at, ended, number_at, optional_at, pick_at, node_at, other_node_at, writer_at, message_at, collection_at, target_at, concern_at, level_at, disk_at}
use Rattle.script_words.specs.Values.{value_of, text_at, value_at, after_space, last_value, last_document}

-- ---- first words

-- the kind of write that a word names
abbrev pub write_kind : List ℕ → Option WriteKind
write_kind word =
    if bytes_eq word (codes "insert") then Some Insert
    else if bytes_eq word (codes "replace") then Some Replace
    else if bytes_eq word (codes "update") then Some Update
    else if bytes_eq word (codes "delete") then Some Delete
    else None

-- what a word asks a node for
abbrev pub other_verb : List ℕ → Option NodeVerb
other_verb word =
    if bytes_eq word (codes "heartbeat") then Some asks.Heartbeat
    else if bytes_eq word (codes "fetch") then Some asks.Fetch
    else if bytes_eq word (codes "apply") then Some asks.Apply
    else if bytes_eq word (codes "flush") then Some asks.Flush
    else if bytes_eq word (codes "report") then Some asks.Report
    else if bytes_eq word (codes "ack") then Some asks.Ack
    else if bytes_eq word (codes "retry") then Some asks.Retry
    else if bytes_eq word (codes "note") then Some asks.Note
    else if bytes_eq word (codes "begin") then Some asks.Begin
    else if bytes_eq word (codes "commit") then Some asks.Commit
    else if bytes_eq word (codes "abort") then Some asks.Abort
    else if bytes_eq word (codes "read") then Some asks.Read
    else if bytes_eq word (codes "dump") then Some asks.Dump
    else if bytes_eq word (codes "log") then Some asks.Log
    else if bytes_eq word (codes "state") then Some asks.State
    else if bytes_eq word (codes "rolled") then Some asks.Rolled
    else if bytes_eq word (codes "campaign") then Some asks.Campaign
    else if bytes_eq word (codes "dryrun") then Some asks.DryRun
    else if bytes_eq word (codes "drain") then Some asks.Drain
    else if bytes_eq word (codes "stepdown") then Some asks.StepDown
    else if bytes_eq word (codes "common") then Some asks.Common
    else if bytes_eq word (codes "checkpoint") then Some asks.Checkpoint
    else if bytes_eq word (codes "reconfig") then Some asks.Reconfig
    else if bytes_eq word (codes "crash") then Some asks.Crash
    else if bytes_eq word (codes "restart") then Some asks.Restart
    else if bytes_eq word (codes "diskfail") then Some asks.DiskFail
    else if bytes_eq word (codes "clock") then Some asks.Clock
    else None

abbrev pub or_write : Option WriteKind → Option NodeVerb → Option NodeVerb
or_write (Some kind) other = Some (asks.Write kind)
or_write None other = other

abbrev pub node_verb : List ℕ → Option NodeVerb
node_verb word = or_write (write_kind word) (other_verb word)

abbrev pub as_verb : Option NodeVerb → Option Verb
as_verb (Some verb) = Some (verbs.Node verb)
as_verb None = None

-- what a first word asks for
abbrev pub verb_of : List ℕ → Option Verb
verb_of word = if bytes_eq word (codes "deliver") then Some verbs.Deliver else as_verb (node_verb word)

-- how many words follow this first word on a line
abbrev pub node_shape : NodeVerb → Shape
node_shape (asks.Write kind) = Value 2
node_shape asks.Retry = Value 5
node_shape asks.Note = Words 1 1
node_shape asks.Begin = Value 4
node_shape asks.Commit = Words 2 2
node_shape asks.Abort = Words 2 2
node_shape asks.Ack = Words 3 3
node_shape asks.Read = Value 3
node_shape asks.Dump = Words 2 2
node_shape asks.Log = Words 1 1
node_shape asks.State = Words 1 1
node_shape asks.Rolled = Words 1 1
node_shape asks.Campaign = Words 1 1
node_shape asks.DryRun = Words 1 1
node_shape asks.Drain = Words 1 1
node_shape asks.StepDown = Words 1 1
node_shape asks.Heartbeat = Words 2 2
node_shape asks.Report = Words 2 2
node_shape asks.Common = Words 2 2
node_shape asks.Fetch = Words 1 1
node_shape asks.Apply = Words 1 2
node_shape asks.Flush = Words 1 1
node_shape asks.Checkpoint = Words 1 1
node_shape asks.Reconfig = Value 1
node_shape asks.Crash = Words 1 2
node_shape asks.Restart = Words 1 1
node_shape asks.DiskFail = Words 3 4
node_shape asks.Clock = Words 2 2

-- a line of this shape ends in a value
abbrev pub ends_in_value : Shape → Bool
ends_in_value (Words least most) = false
ends_in_value (Value before) = true

abbrev pub shape_of : Verb → Shape
shape_of verbs.Deliver = Words 1 2
shape_of (verbs.Node verb) = node_shape verb

abbrev pub as_command : Option Verb → Option Keyword
as_command (Some verb) = Some (keywords.Command verb)
as_command None = None

-- what a first word says
abbrev pub keyword_of : List ℕ → Option Keyword
keyword_of word =
    if bytes_eq word (codes "par") then Some keywords.Par
    else if bytes_eq word (codes "thread") then Some keywords.Thread
    else if bytes_eq word (codes "end") then Some keywords.End
    else as_command (verb_of word)

abbrev pub keyword_shape : Keyword → Shape
keyword_shape keywords.Par = Words 0 0
keyword_shape keywords.Thread = Words 0 0
keyword_shape keywords.End = Words 0 0
keyword_shape (keywords.Command verb) = shape_of verb

abbrev pub known : {A : Type 0} → Option A → Result A ScriptRule
known (Some meaning) = Ok meaning
known None = Err UnknownCommand

-- the first word of a line that has as many words as it asks for
unfoldable pub keyword_at : List ℕ → Result (Keyword × Left) ScriptRule
keyword_at text = do
  first ← word_at (Some text)
  keyword ← known (keyword_of first.0)
  if has_shape (keyword_shape keyword) first.1 then Ok (keyword, first.1) else Err WordCount

-- ---- writes

-- COLLECTION DOCUMENT
unfoldable pub insert_at : Left → Result WriteOp ScriptRule
insert_at left = do
  ns ← collection_at left
  text ← text_at ns.1
  document ← last_document text
  Ok (ops.Insert ns.0 document)

-- COLLECTION ID
unfoldable pub delete_at : Left → Result WriteOp ScriptRule
delete_at left = do
  ns ← collection_at left
  text ← text_at ns.1
  id ← last_value text
  Ok (ops.Delete ns.0 (value_of id))

-- COLLECTION ID DOCUMENT
unfoldable pub replace_at : Left → Result WriteOp ScriptRule
replace_at left = do
  ns ← collection_at left
  text ← text_at ns.1
  id ← value_at text
  rest ← after_space id.1
  document ← last_document rest
  Ok (ops.Replace ns.0 (value_of id.0) document)

-- COLLECTION ID OPERATORS
unfoldable pub update_at : Left → Result WriteOp ScriptRule
update_at left = do
  ns ← collection_at left
  text ← text_at ns.1
  id ← value_at text
  rest ← after_space id.1
  operators ← last_document rest
  Ok (ops.Update ns.0 (value_of id.0) operators)

abbrev pub write_at : WriteKind → Left → Result WriteOp ScriptRule
write_at Insert left = insert_at left
write_at Replace left = replace_at left
write_at Update left = update_at left
write_at Delete left = delete_at left

-- a write that is reserved and committed at once
abbrev pub write_command : ℕ → WriteOp → Command
write_command node (ops.Insert ns document) = commands.Insert node ns document
write_command node (ops.Replace ns id document) = commands.Replace node ns id document
write_command node (ops.Update ns id operators) = commands.Update node ns id operators
write_command node (ops.Delete ns id) = commands.Delete node ns id

-- the words of a session's write, by its kind
abbrev pub retry_kind : ℕ → Session → Option WriteKind → Left → Result Command ScriptRule
retry_kind node session None left = Err BadWord
retry_kind node session (Some kind) left = do
  op ← write_at kind left
  Ok (commands.Retry node session op)

-- SESSION NUMBER KIND and the write's words
unfoldable pub retry_at : ℕ → Left → Result Command ScriptRule
retry_at node left = do
  id ← number_at 0 4294967295 left
  number ← number_at 1 2147483647 id.1
  kind ← word_at number.1
  retry_kind node (record { id = id.0; number = number.0 }) (write_kind kind.0) kind.1

-- the words of a writer's write, by its kind
abbrev pub begin_kind : ℕ → ℕ → Option WriteKind → Left → Result Command ScriptRule
begin_kind node writer None left = Err BadWord
begin_kind node writer (Some kind) left = do
  op ← write_at kind left
  Ok (commands.Begin node writer op)

-- WRITER KIND and the write's words
unfoldable pub begin_at : ℕ → Left → Result Command ScriptRule
begin_at node left = do
  writer ← writer_at left
  kind ← word_at writer.1
  begin_kind node writer.0 (write_kind kind.0) kind.1

-- ---- the other words after a node

unfoldable pub commit_at : ℕ → Left → Result Command ScriptRule
commit_at node left = do
  writer ← writer_at left
  ended writer.1 (commands.Commit node writer.0)

unfoldable pub abort_at : ℕ → Left → Result Command ScriptRule
abort_at node left = do
  writer ← writer_at left
  ended writer.1 (commands.Abort node writer.0)

-- TARGET CONCERN
unfoldable pub ack_at : ℕ → Left → Result Command ScriptRule
ack_at node left = do
  target ← target_at left
  concern ← concern_at target.1
  ended concern.1 (commands.Ack node target.0 concern.0)

-- LEVEL COLLECTION ID
unfoldable pub read_at : ℕ → Left → Result Command ScriptRule
read_at node left = do
  level ← level_at left
  ns ← collection_at level.1
  text ← text_at ns.1
  id ← last_value text
  Ok (commands.Read node level.0 ns.0 (value_of id))

unfoldable pub dump_at : ℕ → Left → Result Command ScriptRule
dump_at node left = do
  level ← level_at left
  ended level.1 (commands.Dump node level.0)

unfoldable pub heartbeat_at : ℕ → ℕ → Left → Result Command ScriptRule
heartbeat_at nodes node left = do
  other ← other_node_at nodes node left
  ended other.1 (commands.Heartbeat node other.0)

unfoldable pub report_at : ℕ → ℕ → Left → Result Command ScriptRule
report_at nodes node left = do
  other ← other_node_at nodes node left
  ended other.1 (commands.Report node other.0)

unfoldable pub common_at : ℕ → ℕ → Left → Result Command ScriptRule
common_at nodes node left = do
  other ← other_node_at nodes node left
  ended other.1 (commands.Common node other.0)

-- 1 to 16 workers, or 4
unfoldable pub apply_at : ℕ → Left → Result Command ScriptRule
apply_at node left = do
  workers ← optional_at 4 1 16 left
  ended workers.1 (commands.Apply node workers.0)

unfoldable pub reconfig_at : ℕ → Left → Result Command ScriptRule
reconfig_at node left = do
  text ← text_at left
  config ← config_of text
  Ok (commands.Reconfig node config)

abbrev pub or_zero : Option ℕ → ℕ
or_zero None = 0
or_zero (Some pick) = pick

unfoldable pub crash_at : ℕ → Left → Result Command ScriptRule
crash_at node left = do
  pick ← pick_at left
  ended pick.1 (commands.Crash node (or_zero pick.0))

-- DISK CALL, and a PICK or none
unfoldable pub disk_fail_at : ℕ → Left → Result Command ScriptRule
disk_fail_at node left = do
  disk ← disk_at left
  call ← number_at 1 1000 disk.1
  pick ← pick_at call.1
  ended pick.1 (commands.DiskFail node disk.0 call.0 pick.0)

-- a second from 0 to 2^31 - 1
unfoldable pub clock_at : ℕ → Left → Result Command ScriptRule
clock_at node left = do
  seconds ← number_at 0 2147483647 left
  ended seconds.1 (commands.Clock node seconds.0)

-- the words after the node
abbrev pub of_node : ℕ → NodeVerb → ℕ → Left → Result Command ScriptRule
of_node nodes (asks.Write kind) node left = write_at kind left >>= λ op. Ok (write_command node op)
of_node nodes asks.Retry node left = retry_at node left
of_node nodes asks.Note node left = ended left (commands.Note node)
of_node nodes asks.Begin node left = begin_at node left
of_node nodes asks.Commit node left = commit_at node left
of_node nodes asks.Abort node left = abort_at node left
of_node nodes asks.Ack node left = ack_at node left
of_node nodes asks.Read node left = read_at node left
of_node nodes asks.Dump node left = dump_at node left
of_node nodes asks.Log node left = ended left (commands.Log node)
of_node nodes asks.State node left = ended left (commands.State node)
of_node nodes asks.Rolled node left = ended left (commands.Rolled node)
of_node nodes asks.Campaign node left = ended left (commands.Campaign node)
of_node nodes asks.DryRun node left = ended left (commands.DryRun node)
of_node nodes asks.Drain node left = ended left (commands.Drain node)
of_node nodes asks.StepDown node left = ended left (commands.StepDown node)
of_node nodes asks.Heartbeat node left = heartbeat_at nodes node left
of_node nodes asks.Report node left = report_at nodes node left
of_node nodes asks.Common node left = common_at nodes node left
of_node nodes asks.Fetch node left = ended left (commands.Fetch node)
of_node nodes asks.Apply node left = apply_at node left
of_node nodes asks.Flush node left = ended left (commands.Flush node)
of_node nodes asks.Checkpoint node left = ended left (commands.Checkpoint node)
of_node nodes asks.Reconfig node left = reconfig_at node left
of_node nodes asks.Crash node left = crash_at node left
of_node nodes asks.Restart node left = ended left (commands.Restart node)
of_node nodes asks.DiskFail node left = disk_fail_at node left
of_node nodes asks.Clock node left = clock_at node left

-- ---- deliveries

-- mK
unfoldable pub deliver_one : Left → Result Command ScriptRule
deliver_one left = do
  message ← message_at left
  ended message.1 (commands.Deliver message.0)

-- A B
unfoldable pub deliver_latest : ℕ → Left → Result Command ScriptRule
deliver_latest nodes left = do
  sender ← node_at nodes left
  receiver ← other_node_at nodes sender.0 sender.1
  ended receiver.1 (commands.DeliverLatest sender.0 receiver.0)

-- a message's or two nodes', by the number of words
abbrev pub deliver_at : ℕ → Left → Left → Result Command ScriptRule
deliver_at nodes None left = deliver_one left
deliver_at nodes (Some text) left = deliver_latest nodes left

-- ---- the words after the first one

abbrev pub words_at : ℕ → Verb → Left → Result Command ScriptRule
words_at nodes verbs.Deliver left = deliver_at nodes (after_word left) left
words_at nodes (verbs.Node verb) left = node_at nodes left >>= λ node. of_node nodes verb node.0 node.1

-- ---- a command alone

-- the first word of a command that has as many words as it asks for
unfoldable pub verb_at : List ℕ → Result (Verb × Left) ScriptRule
verb_at text = do
  first ← word_at (Some text)
  verb ← known (verb_of first.0)
  if has_shape (shape_of verb) first.1 then Ok (verb, first.1) else Err WordCount

-- the command that a text is, in a set of this size
unfoldable pub command_at : ℕ → List ℕ → Result Command ScriptRule
command_at nodes text = do
  verb ← verb_at text
  words_at nodes verb.0 verb.1
