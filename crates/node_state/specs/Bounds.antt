-- How large the numbers are that a node is given, and which commands are its own.
use Rattle.std.specs.Prelude.{◌<◌, ◌-◌, ◌^◌, ℕ, Bool, true, false, ◌||◌}
use Rattle.set_model.specs.declared.command.Command.{Command}
use Rattle.set_model.specs.declared.command.Command.TheVariants.{Insert, Replace, Update, Delete, Retry, Note, Begin, Commit, Abort, Read, Dump, Log, State, Rolled, Deliver, DeliverLatest, Flush, Checkpoint, Crash, Restart, DiskFail, Clock}
use Rattle.set_model.specs.Node.{Node}

-- there are numbers for one more term, timestamp and rollback
pub record IsBounded (node : Node) : Type 0 where
  pub term : node.term < 2 ^ 63 - 1
  pub seen : node.seen < 2 ^ 64 - 1
  pub rollback : node.rollback < 2 ^ 64 - 1

-- there are numbers for the messages of one step
abbrev pub IsNumbered : ℕ → Type 0
IsNumbered next = next < 2 ^ 63

-- a command that a node does in memory, storing as it goes; the others are about its disks or the messages
-- of the set
abbrev pub is_own : Command → Bool
is_own (Deliver message) = false
is_own (DeliverLatest from to) = false
is_own (Crash node pick) = false
is_own (Restart node) = false
is_own (DiskFail node disk call pick) = false
is_own _ = true

-- commands that store so much that memory may run out while they do
abbrev pub is_long : Command → Bool
is_long (Flush node) = true
is_long (Checkpoint node) = true
is_long _ = false

-- a write, or a step of a writer
abbrev pub is_write : Command → Bool
is_write (Insert node collection document) = true
is_write (Replace node collection id document) = true
is_write (Update node collection id operators) = true
is_write (Delete node collection id) = true
is_write (Retry node session op) = true
is_write (Note node) = true
is_write (Begin node writer op) = true
is_write (Commit node writer) = true
is_write (Abort node writer) = true
is_write _ = false

-- what a node shows about itself, and its clock
abbrev pub is_show : Command → Bool
is_show (Read node level collection id) = true
is_show (Dump node level) = true
is_show (Log node) = true
is_show (State node) = true
is_show (Rolled node) = true
is_show (Clock node seconds) = true
is_show _ = false

-- a command that stores nothing and sends nothing
abbrev pub is_plain : Command → Bool
is_plain command = is_write command || is_show command
