-- The text of a command, in the words of a script. It is the shortest that says all: numbers have no leading
-- zeros, what a script may leave out is written, and documents and configurations are as they are printed.
use Rattle.std.specs.Prelude.{ℕ, Bool, true, false, List, [], ◌++◌, Option, None, Some, codes}
use Rattle.std.specs.Fmt.{decimal}
use Rattle.rs_optime.specs.Text.{optime_text}
use Rattle.bson_doc.specs.Tree.{Fields, document}
use Rattle.bson_doc.specs.View.{tree_of}
use Rattle.bson_doc.specs.declared.doc.Value.{Value}
use Rattle.doc_text.specs.Printing.{printed}
use Rattle.doc_update.specs.declared.write.WriteOp.{WriteOp}
use Rattle.doc_update.specs.declared.write.WriteOp.TheVariants as ops
use Rattle.member_config.specs.JsonText.{json_text}
use Rattle.set_model.specs.declared.command.AckConcern.{AckConcern}
use Rattle.set_model.specs.declared.command.AckConcern.TheVariants as concerns
use Rattle.set_model.specs.declared.command.Command.{Command}
use Rattle.set_model.specs.declared.command.Command.TheVariants.{Campaign, Drain, Insert, Replace, Update, Delete, Retry, Note, Begin, Commit, Abort, Ack, Read, Dump, Log, State, Rolled, DryRun, StepDown, Heartbeat, Report, Common, Fetch, Deliver, DeliverLatest, Apply, Flush, Checkpoint, Reconfig, Crash, Restart, DiskFail, Clock}
use Rattle.set_model.specs.declared.command.DiskName.{DiskName}
use Rattle.set_model.specs.declared.command.DiskName.TheVariants as disks
use Rattle.set_model.specs.declared.command.ReadLevel.{ReadLevel}
use Rattle.set_model.specs.declared.command.ReadLevel.TheVariants as levels
use Rattle.set_model.specs.declared.command.Target.{Target}
use Rattle.set_model.specs.declared.command.Target.TheVariants as targets

-- ---- words, each after a space where it isn't told otherwise

abbrev pub document_words : List ℕ → Fields → List ℕ
document_words collection fields = codes " " ++ collection ++ codes " " ++ printed (document fields)

abbrev pub id_words : List ℕ → Value → List ℕ
id_words collection id = codes " " ++ collection ++ codes " " ++ printed (tree_of id)

abbrev pub change_words : List ℕ → Value → Fields → List ℕ
change_words collection id fields = id_words collection id ++ codes " " ++ printed (document fields)

-- the write of a writer
abbrev pub write_words : WriteOp → List ℕ
write_words (ops.Insert ns doc) = codes " insert" ++ document_words ns doc
write_words (ops.Replace ns id doc) = codes " replace" ++ change_words ns id doc
write_words (ops.Update ns id operators) = codes " update" ++ change_words ns id operators
write_words (ops.Delete ns id) = codes " delete" ++ id_words ns id

-- these without the space
abbrev pub target_word : Target → List ℕ
target_word (targets.At at) = optime_text at
target_word (targets.Writer writer) = codes "w" ++ decimal writer

abbrev pub concern_word : AckConcern → List ℕ
concern_word concerns.Majority = codes "majority"
concern_word (concerns.Count count) = decimal count

abbrev pub level_word : ReadLevel → List ℕ
level_word levels.Local = codes "local"
level_word levels.Majority = codes "majority"

abbrev pub disk_word : DiskName → List ℕ
disk_word disks.Journal = codes "journal"
disk_word disks.Checkpoint = codes "checkpoint"

-- a pick, or nothing
abbrev pub pick_word : Option ℕ → List ℕ
pick_word None = []
pick_word (Some pick) = codes " " ++ decimal pick

-- ---- commands

abbrev pub command_text : Command → List ℕ
command_text (Campaign node) = codes "campaign n" ++ decimal node
command_text (Drain node) = codes "drain n" ++ decimal node
command_text (Insert node collection doc) =
    codes "insert n" ++ decimal node ++ document_words collection doc
command_text (Replace node collection id doc) =
    codes "replace n" ++ decimal node ++ change_words collection id doc
command_text (Update node collection id operators) =
    codes "update n" ++ decimal node ++ change_words collection id operators
command_text (Delete node collection id) = codes "delete n" ++ decimal node ++ id_words collection id
command_text (Retry node session op) =
    codes "retry n" ++ decimal node ++ codes " " ++ decimal session.id ++ codes " " ++ decimal session.number
    ++ write_words op
command_text (Note node) = codes "note n" ++ decimal node
command_text (Begin node writer op) =
    codes "begin n" ++ decimal node ++ codes " w" ++ decimal writer ++ write_words op
command_text (Commit node writer) = codes "commit n" ++ decimal node ++ codes " w" ++ decimal writer
command_text (Abort node writer) = codes "abort n" ++ decimal node ++ codes " w" ++ decimal writer
command_text (Ack node target concern) =
    codes "ack n" ++ decimal node ++ codes " " ++ target_word target ++ codes " " ++ concern_word concern
command_text (Read node level collection id) =
    codes "read n" ++ decimal node ++ codes " " ++ level_word level ++ id_words collection id
command_text (Dump node level) = codes "dump n" ++ decimal node ++ codes " " ++ level_word level
command_text (Log node) = codes "log n" ++ decimal node
command_text (State node) = codes "state n" ++ decimal node
command_text (Rolled node) = codes "rolled n" ++ decimal node
command_text (DryRun node) = codes "dryrun n" ++ decimal node
command_text (StepDown node) = codes "stepdown n" ++ decimal node
command_text (Heartbeat node to) = codes "heartbeat n" ++ decimal node ++ codes " n" ++ decimal to
command_text (Report node to) = codes "report n" ++ decimal node ++ codes " n" ++ decimal to
command_text (Common node to) = codes "common n" ++ decimal node ++ codes " n" ++ decimal to
command_text (Fetch node) = codes "fetch n" ++ decimal node
command_text (Deliver message) = codes "deliver m" ++ decimal message
command_text (DeliverLatest sender to) = codes "deliver n" ++ decimal sender ++ codes " n" ++ decimal to
command_text (Apply node workers) = codes "apply n" ++ decimal node ++ codes " " ++ decimal workers
command_text (Flush node) = codes "flush n" ++ decimal node
command_text (Checkpoint node) = codes "checkpoint n" ++ decimal node
command_text (Reconfig node config) = codes "reconfig n" ++ decimal node ++ codes " " ++ json_text config
command_text (Crash node pick) = codes "crash n" ++ decimal node ++ codes " " ++ decimal pick
command_text (Restart node) = codes "restart n" ++ decimal node
command_text (DiskFail node disk call pick) =
    codes "diskfail n" ++ decimal node ++ codes " " ++ disk_word disk ++ codes " " ++ decimal call
    ++ pick_word pick
command_text (Clock node seconds) = codes "clock n" ++ decimal node ++ codes " " ++ decimal seconds

-- ---- kinds of commands, by which those that write them are parted

-- it is a write that is done in one step
abbrev pub is_of_write : Command → Bool
is_of_write (Insert node collection doc) = true
is_of_write (Replace node collection id doc) = true
is_of_write (Update node collection id operators) = true
is_of_write (Delete node collection id) = true
is_of_write _ = false

-- a writer does it, or it waits for a write, or reads
abbrev pub is_of_documents : Command → Bool
is_of_documents (Retry node session op) = true
is_of_documents (Begin node writer op) = true
is_of_documents (Commit node writer) = true
is_of_documents (Abort node writer) = true
is_of_documents (Ack node target concern) = true
is_of_documents (Read node level collection id) = true
is_of_documents (Dump node level) = true
is_of_documents _ = false

-- it has other words after the node
abbrev pub is_of_words : Command → Bool
is_of_words (Heartbeat node to) = true
is_of_words (Report node to) = true
is_of_words (Common node to) = true
is_of_words (Deliver message) = true
is_of_words (DeliverLatest sender to) = true
is_of_words (Apply node workers) = true
is_of_words (Reconfig node config) = true
is_of_words (Crash node pick) = true
is_of_words (DiskFail node disk call pick) = true
is_of_words (Clock node seconds) = true
is_of_words _ = false
