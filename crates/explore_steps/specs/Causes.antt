-- What makes a node do something, and which wants are met by it.
use Rattle.std.specs.Prelude.{◌≡◌, ℕ, Bool, true, false, None, Some, Option}
use Rattle.std.specs.Option.{option_map, option_map_or}
use Rattle.bson_doc.specs.Key.{key_of}
use Rattle.bson_doc.specs.View.{tree_of}
use Rattle.oplog_entry.specs.declared.entry.Entry.{Entry}
use Rattle.repl_msg.specs.declared.message.Message.{Message}
use Rattle.set_model.specs.declared.command.Command.{Command}
use Rattle.set_model.specs.declared.command.Command.TheVariants as commands
use Rattle.set_model.specs.declared.command.Target.TheVariants.{At}
use Rattle.set_model.specs.declared.reply.Reply.{Reply}
use Rattle.set_model.specs.Deliver.{deliver}
use Rattle.set_model.specs.Node.{Node}
use Rattle.set_model.specs.Outcome.{Outcome}
use Rattle.set_model.specs.Rows.{row}
use Rattle.set_model.specs.Stores.{Plan, done}
use Rattle.set_model.specs.World.{World, is_delivery, takes, task}
use Rattle.explore_words.specs.declared.question.Look.{Look}
use Rattle.explore_words.specs.declared.question.Sight.{Sight}
use Rattle.explore_words.specs.declared.question.Sight.TheVariants as sights
use Rattle.explore_words.specs.declared.question.Want.{Want}
use Rattle.explore_words.specs.declared.question.Want.TheVariants.{Event as Happens, Seen}
use Rattle.explore_words.specs.declared.question.WantedEvent.{WantedEvent}
use Rattle.explore_words.specs.declared.question.WantedEvent.TheVariants as wanted
use Rattle.question_laws.specs.Meeting.{OnRoute, at_first, begins, last_of_key}

-- a command of its own, or a message that is delivered to it
pub data Cause : Type 0 where
  own : (command : Command) → Cause
  taken : (message : Message) → Cause

-- in a world, it is that of an event with this command
abbrev pub IsCauseOf : World → Command → Cause → Type 0
IsCauseOf world command (own line) = (command ≡ line) × (is_delivery line ≡ false)
IsCauseOf world command (taken message) = task world command ≡ takes message

-- what a node of a set of so many does by it, where the next message is the first
abbrev pub plan_at : ℕ → Cause → Node → Plan
plan_at nodes (own command) node = row nodes 0 false node command
plan_at nodes (taken message) node = deliver 0 node message

-- what comes of the node, as no store fails
abbrev pub outcome_at : ℕ → Cause → Node → Outcome
outcome_at nodes cause node = done (plan_at nodes cause node) None

-- ---- which wants are met by an event

-- a command is one that is looked for
abbrev pub IsOwnWanted : WantedEvent → Command → Type 0
IsOwnWanted (wanted.Delivery route) command = ⊥
IsOwnWanted (wanted.Heartbeat route) command =
    (from to : ℕ) × (command ≡ commands.Heartbeat from to) × OnRoute route from to
IsOwnWanted (wanted.Report route) command =
    (from to : ℕ) × (command ≡ commands.Report from to) × OnRoute route from to
IsOwnWanted (wanted.Common route) command =
    (from to : ℕ) × (command ≡ commands.Common from to) × OnRoute route from to
IsOwnWanted (wanted.Command (Some node) asked) command = command ≡ asked
IsOwnWanted (wanted.Command None asked) command = at_first command ≡ asked

-- the delivery of a message is
abbrev pub IsTakenWanted : WantedEvent → Message → Type 0
IsTakenWanted (wanted.Delivery route) message = OnRoute route message.from message.to
IsTakenWanted _ message = ⊥

abbrev pub IsWantedBy : WantedEvent → Cause → Type 0
IsWantedBy event (own command) = IsOwnWanted event command
IsWantedBy event (taken message) = IsTakenWanted event message

-- with this reply, an event of this cause meets a want
abbrev pub IsMetBy : Cause → Want → Reply → Type 0
IsMetBy cause (Happens event text) reply = IsWantedBy event cause × (begins reply text ≡ true)
IsMetBy cause (Seen looks) reply = ⊥

-- ---- and by what is seen at a node

-- the command that shows it at the node of a number; none where nothing is there to be shown
abbrev pub shows_at : ℕ → Node → Sight → Option Command
shows_at number node (sights.Read level collection id) = Some (commands.Read number level collection id)
shows_at number node (sights.Dump level) = Some (commands.Dump number level)
shows_at number node sights.Log = Some (commands.Log number)
shows_at number node sights.State = Some (commands.State number)
shows_at number node sights.Rolled = Some (commands.Rolled number)
shows_at number node (sights.Ack target concern) = Some (commands.Ack number target concern)
shows_at number node (sights.AckLast collection id concern) =
    option_map (λ (entry : Entry). commands.Ack number (At entry.optime) concern)
    (last_of_key node.log collection (key_of (tree_of id)))

-- A look is met at a node, in a set of so many: no reply tells the number of the node.
abbrev pub is_met_at : ℕ → Node → Look → Bool
is_met_at nodes node look =
    option_map_or (λ (command : Command). begins (outcome_at nodes (own command) node).reply look.text)
    (shows_at 0 node look.sight) false
