-- What a command says, but for its node: a number for its word, its numbers, and what else it names.
use mathlib.Core.Bool.{beq}
use Rattle.std.specs.Prelude.{ℕ, ◌+◌, ◌==◌, ◌&&◌, Bool, false, List, Option, None, Some}
use Rattle.std.specs.Cmp.Lexicographic.{pointwise}
use Rattle.std.specs.Option.{option_eq}
use Rattle.std.specs.Str.{bytes_eq}
use Rattle.bson_doc.specs.Same.{same_tree, same_fields}
use Rattle.bson_doc.specs.Tree.{Fields}
use Rattle.bson_doc.specs.View.{tree_of}
use Rattle.bson_doc.specs.declared.doc.Value.{Value}
use Rattle.doc_update.specs.declared.write.WriteOp.{WriteOp}
use Rattle.doc_update.specs.declared.write.WriteOp.TheVariants as writes
use Rattle.member_config.specs.declared.config.Config.{Config}
use Rattle.member_config.specs.declared.config.Member.{Member}
use Rattle.set_model.specs.declared.command.AckConcern.{AckConcern}
use Rattle.set_model.specs.declared.command.AckConcern.TheVariants as concerns
use Rattle.set_model.specs.declared.command.Command.{Command}
use Rattle.set_model.specs.declared.command.Command.TheVariants as commands
use Rattle.set_model.specs.declared.command.DiskName.{DiskName}
use Rattle.set_model.specs.declared.command.DiskName.TheVariants as disks
use Rattle.set_model.specs.declared.command.ReadLevel.{ReadLevel}
use Rattle.set_model.specs.declared.command.ReadLevel.TheVariants as levels
use Rattle.set_model.specs.declared.command.Target.{Target}
use Rattle.set_model.specs.declared.command.Target.TheVariants as targets

-- a number for its word
abbrev pub word_of : Command → ℕ
word_of (commands.Campaign node) = 0
word_of (commands.Drain node) = 1
word_of (commands.Insert node collection document) = 2
word_of (commands.Replace node collection id document) = 3
word_of (commands.Update node collection id operators) = 4
word_of (commands.Delete node collection id) = 5
word_of (commands.Retry node session op) = 6
word_of (commands.Note node) = 7
word_of (commands.Begin node writer op) = 8
word_of (commands.Commit node writer) = 9
word_of (commands.Abort node writer) = 10
word_of (commands.Ack node target concern) = 11
word_of (commands.Read node level collection id) = 12
word_of (commands.Dump node level) = 13
word_of (commands.Log node) = 14
word_of (commands.State node) = 15
word_of (commands.Rolled node) = 16
word_of (commands.DryRun node) = 17
word_of (commands.StepDown node) = 18
word_of (commands.Heartbeat node to) = 19
word_of (commands.Report node to) = 20
word_of (commands.Common node to) = 21
word_of (commands.Fetch node) = 22
word_of (commands.Deliver message) = 23
word_of (commands.DeliverLatest from to) = 24
word_of (commands.Apply node workers) = 25
word_of (commands.Flush node) = 26
word_of (commands.Checkpoint node) = 27
word_of (commands.Reconfig node config) = 28
word_of (commands.Crash node pick) = 29
word_of (commands.Restart node) = 30
word_of (commands.DiskFail node disk call pick) = 31
word_of (commands.Clock node seconds) = 32

-- which of two forms it has: with the optime of what is acknowledged or with its writer, without a pick or
-- with one
abbrev pub form_of : Command → ℕ
form_of (commands.Ack node (targets.Writer writer) concern) = 1
form_of (commands.DiskFail node disk call (Some pick)) = 1
form_of _ = 0

abbrev pub level_number : ReadLevel → ℕ
level_number levels.Local = 0
level_number levels.Majority = 1

abbrev pub disk_number : DiskName → ℕ
disk_number disks.Journal = 0
disk_number disks.Checkpoint = 1

abbrev pub concern_number : AckConcern → ℕ
concern_number concerns.Majority = 0
concern_number (concerns.Count count) = count + 1

abbrev pub ack_numbers : Target → AckConcern → ℕ × ℕ × ℕ
ack_numbers (targets.At at) concern = (at.term, at.ts, concern_number concern)
ack_numbers (targets.Writer writer) concern = (writer, 0, concern_number concern)

-- its numbers, and 0 for each that it doesn't have
abbrev pub numbers_of : Command → ℕ × ℕ × ℕ
numbers_of (commands.Retry node session op) = (session.id, session.number, 0)
numbers_of (commands.Begin node writer op) = (writer, 0, 0)
numbers_of (commands.Commit node writer) = (writer, 0, 0)
numbers_of (commands.Abort node writer) = (writer, 0, 0)
numbers_of (commands.Ack node target concern) = ack_numbers target concern
numbers_of (commands.Read node level collection id) = (level_number level, 0, 0)
numbers_of (commands.Dump node level) = (level_number level, 0, 0)
numbers_of (commands.Heartbeat node to) = (to, 0, 0)
numbers_of (commands.Report node to) = (to, 0, 0)
numbers_of (commands.Common node to) = (to, 0, 0)
numbers_of (commands.Deliver message) = (message, 0, 0)
numbers_of (commands.DeliverLatest from to) = (from, to, 0)
numbers_of (commands.Apply node workers) = (workers, 0, 0)
numbers_of (commands.Crash node pick) = (pick, 0, 0)
numbers_of (commands.DiskFail node disk call None) = (disk_number disk, call, 0)
numbers_of (commands.DiskFail node disk call (Some pick)) = (disk_number disk, call, pick)
numbers_of (commands.Clock node seconds) = (seconds, 0, 0)
numbers_of _ = (0, 0, 0)

abbrev pub collection_of : Command → Option (List ℕ)
collection_of (commands.Insert node collection document) = Some collection
collection_of (commands.Replace node collection id document) = Some collection
collection_of (commands.Update node collection id operators) = Some collection
collection_of (commands.Delete node collection id) = Some collection
collection_of (commands.Read node level collection id) = Some collection
collection_of _ = None

abbrev pub id_of : Command → Option Value
id_of (commands.Replace node collection id document) = Some id
id_of (commands.Update node collection id operators) = Some id
id_of (commands.Delete node collection id) = Some id
id_of (commands.Read node level collection id) = Some id
id_of _ = None

-- a document that is written, or operators
abbrev pub document_of : Command → Option Fields
document_of (commands.Insert node collection document) = Some document
document_of (commands.Replace node collection id document) = Some document
document_of (commands.Update node collection id operators) = Some operators
document_of _ = None

abbrev pub write_of : Command → Option WriteOp
write_of (commands.Retry node session op) = Some op
write_of (commands.Begin node writer op) = Some op
write_of _ = None

abbrev pub config_of : Command → Option Config
config_of (commands.Reconfig node config) = Some config
config_of _ = None

-- ---- the same said

abbrev pub same_value : Value → Value → Bool
same_value one other = same_tree (tree_of one) (tree_of other)

abbrev pub same_write : WriteOp → WriteOp → Bool
same_write (writes.Insert ns doc) (writes.Insert ns' doc') = bytes_eq ns ns' && same_fields doc doc'
same_write (writes.Replace ns id doc) (writes.Replace ns' id' doc') =
    bytes_eq ns ns' && same_value id id' && same_fields doc doc'
same_write (writes.Update ns id operators) (writes.Update ns' id' operators') =
    bytes_eq ns ns' && same_value id id' && same_fields operators operators'
same_write (writes.Delete ns id) (writes.Delete ns' id') = bytes_eq ns ns' && same_value id id'
same_write _ _ = false

abbrev pub same_member : Member → Member → Bool
same_member one other =
    (one.number == other.number) && (beq one.votes other.votes && (one.priority == other.priority))

abbrev pub same_config : Config → Config → Bool
same_config one other =
    (one.term == other.term) && (one.version == other.version) && beq one.chaining other.chaining
    && pointwise same_member one.members other.members

abbrev pub same_words : Command → Command → Bool
same_words one other =
    let own = numbers_of one in
    let others = numbers_of other in
    (word_of one == word_of other) && (form_of one == form_of other)
    && (own.0 == others.0) && (own.1 == others.1) && (own.2 == others.2)

abbrev pub same_names : Command → Command → Bool
same_names one other =
    option_eq bytes_eq (collection_of one) (collection_of other)
    && option_eq same_value (id_of one) (id_of other)

abbrev pub same_contents : Command → Command → Bool
same_contents one other =
    option_eq same_fields (document_of one) (document_of other)
    && option_eq same_write (write_of one) (write_of other)
    && option_eq same_config (config_of one) (config_of other)

abbrev pub say_the_same : Command → Command → Bool
say_the_same one other = same_words one other && same_names one other && same_contents one other
