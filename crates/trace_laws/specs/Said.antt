-- What a script can name: commands within the bounds of its words.
use Rattle.std.specs.Prelude.{◌≡◌, ◌≢◌, ◌<◌, ◌≤◌, ◌^◌, ℕ, true, ⊤, List, IfSome, map}
use Rattle.std.specs.List.{AllByRecursion}
use Rattle.bson_doc.specs.Length.{value_levels}
use Rattle.bson_doc.specs.Tree.{Tree, document}
use Rattle.bson_doc.specs.View.{tree_of}
use Rattle.doc_text.specs.Spelling.{IsLawful}
use Rattle.doc_update.specs.declared.write.WriteOp.{WriteOp}
use Rattle.doc_update.specs.declared.write.WriteOp.TheVariants as ops
use Rattle.run_checker.specs.Checking.{set_of}
use Rattle.run_checker.specs.Trace.{IsPlain}
use Rattle.set_model.specs.declared.command.Command.{Command}
use Rattle.set_model.specs.declared.command.Command.TheVariants.{Insert, Replace, Update, Delete, Retry, Begin, Ack, Read, Heartbeat, Report, Common, Deliver, DeliverLatest, Reconfig, Crash, DiskFail}
use Rattle.set_model.specs.declared.command.Event.{Event}
use Rattle.set_model.specs.declared.command.Target.{Target}
use Rattle.set_model.specs.declared.command.Target.TheVariants as targets
use Rattle.set_model.specs.declared.reply.Reply.{Reply}
use Rattle.set_model.specs.Limits.{is_for}
use Rattle.set_model.specs.Run.{run}

-- a value that a text can spell: it is sound, and has at most 100 levels
pub record CanBeSpelled (tree : Tree) : Type 0 where
  pub lawful : IsLawful tree
  pub shallow : value_levels tree ≤ 100

abbrev pub CanBeWritten : WriteOp → Type 0
CanBeWritten (ops.Insert ns doc) = CanBeSpelled (document doc)
CanBeWritten (ops.Replace ns id doc) = CanBeSpelled (tree_of id) × CanBeSpelled (document doc)
CanBeWritten (ops.Update ns id operators) = CanBeSpelled (tree_of id) × CanBeSpelled (document operators)
CanBeWritten (ops.Delete ns id) = CanBeSpelled (tree_of id)

-- its numbers fit their types
abbrev pub IsNumbered : Target → Type 0
IsNumbered (targets.At at) = (at.term < 2 ^ 64) × (at.ts < 2 ^ 64)
IsNumbered (targets.Writer writer) = ⊤

-- what must hold of a command besides the bounds of `is_for`
abbrev pub IsSayable : Command → Type 0
IsSayable (Insert node collection doc) = CanBeWritten (ops.Insert collection doc)
IsSayable (Replace node collection id doc) = CanBeWritten (ops.Replace collection id doc)
IsSayable (Update node collection id operators) = CanBeWritten (ops.Update collection id operators)
IsSayable (Delete node collection id) = CanBeWritten (ops.Delete collection id)
IsSayable (Retry node session op) = CanBeWritten op
IsSayable (Begin node writer op) = CanBeWritten op
IsSayable (Ack node target concern) = IsNumbered target
IsSayable (Read node level collection id) = CanBeSpelled (tree_of id)
IsSayable (Heartbeat node to) = to ≢ node
IsSayable (Report node to) = to ≢ node
IsSayable (Common node to) = to ≢ node
IsSayable (Deliver message) = message < 2 ^ 64
IsSayable (DeliverLatest from to) = to ≢ from
IsSayable (Reconfig node config) = config.term ≡ 0
IsSayable (Crash node pick) = pick < 2 ^ 64
IsSayable (DiskFail node disk call pick) = IfSome pick (λ p. p < 2 ^ 64)
IsSayable _ = ⊤

-- a command of a set of this size that a script can name
pub record CanBeSaid (nodes : ℕ) (command : Command) : Type 0 where
  pub within : is_for nodes command ≡ true
  pub sayable : IsSayable command

-- commands with the numbers of their lines
abbrev pub AreSaid : ℕ → List (ℕ × Command) → Type 0
AreSaid nodes lines = AllByRecursion (λ line. CanBeSaid nodes line.1) lines

-- an event of such a command, with numbers below 2^32
pub record IsEventLine (nodes : ℕ) (event : Event) : Type 0 where
  pub command : CanBeSaid nodes event.command
  pub line : event.line < 2 ^ 32
  pub failed : IfSome event.failed (λ store. store < 2 ^ 32)

-- an event of such a command, whose words are UTF-8
pub record CanBePrinted (nodes : ℕ) (event : Event) : Type 0 where
  pub command : CanBeSaid nodes event.command
  pub plain : IsPlain event

-- the replies to the events of a set, without their lines
abbrev pub replies_of : ℕ × ℕ × ℕ → List Event → List Reply
replies_of sizes events = map (λ reply. reply.1) (run (set_of sizes) events).replies
