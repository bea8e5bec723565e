-- Kinds of commands and of messages, which separate functions do.
use Rattle.std.specs.Prelude.{Bool, true, false, not}
use Rattle.repl_msg.specs.declared.message.Body.{Body}
use Rattle.repl_msg.specs.declared.message.Body.TheVariants as bodies
use Rattle.set_model.specs.declared.command.Command.{Command}
use Rattle.set_model.specs.declared.command.Command.TheVariants.{Campaign, Drain, Insert, Replace, Update, Delete, Read, Dump, Log, State, Rolled, DryRun, Heartbeat, Report, Common, Fetch, Deliver, DeliverLatest, Flush, Checkpoint, Reconfig, Restart, DiskFail, Clock}

-- it is a write that is done in one step
abbrev pub is_write : Command → Bool
is_write (Insert node collection document) = true
is_write (Replace node collection id document) = true
is_write (Update node collection id operators) = true
is_write (Delete node collection id) = true
is_write _ = false

-- it shows something of the node
abbrev pub is_reading : Command → Bool
is_reading (Read node level collection id) = true
is_reading (Dump node level) = true
is_reading (Log node) = true
is_reading (State node) = true
is_reading (Rolled node) = true
is_reading _ = false

-- it stores something, or sends something
abbrev pub is_telling : Command → Bool
is_telling (Campaign node) = true
is_telling (Drain node) = true
is_telling (DryRun node) = true
is_telling (Heartbeat node to) = true
is_telling (Report node to) = true
is_telling (Common node to) = true
is_telling (Fetch node) = true
is_telling (Flush node) = true
is_telling (Checkpoint node) = true
is_telling (Reconfig node config) = true
is_telling _ = false

-- a node does it only where it is up
abbrev pub is_up_only : Command → Bool
is_up_only (Restart node) = false
is_up_only (DiskFail node disk call pick) = false
is_up_only (Clock node seconds) = false
is_up_only (Deliver message) = false
is_up_only (DeliverLatest from to) = false
is_up_only _ = true

-- and neither stores nor sends anything with it
abbrev pub is_plain : Command → Bool
is_plain (Restart node) = false
is_plain (DiskFail node disk call pick) = false
is_plain (Clock node seconds) = false
is_plain (Deliver message) = false
is_plain (DeliverLatest from to) = false
is_plain command = not (is_telling command)

-- a node that takes such a message stores and sends nothing, once it has the message's term
abbrev pub is_plain_body : Body → Bool
is_plain_body (bodies.FetchReply reply) = true
is_plain_body (bodies.Report config durable) = true
is_plain_body (bodies.VoteReply asked dry why) = true
is_plain_body _ = false
