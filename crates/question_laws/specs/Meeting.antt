-- How the wants of a question are met.
use Rattle.std.specs.Prelude.{◌≡◌, ◌⊎◌, ℕ, zero, suc, ◌==◌, Bool, true, false, ◌||◌, List, [], ◌∷◌, filter, length, Option, None, Some, slice_get, unwrap_or, if◌then◌else◌}
use Rattle.std.specs.List.{list_all, starts_with}
use Rattle.std.specs.Option.{option_and_then, option_map, option_map_or}
use Rattle.bson_doc.specs.Key.{key_of}
use Rattle.bson_doc.specs.Place.{Place}
use Rattle.bson_doc.specs.View.{tree_of}
use Rattle.bson_doc.specs.declared.key.IdKey.{IdKey}
use Rattle.oplog_entry.specs.Step.{place_of, is_at}
use Rattle.oplog_entry.specs.declared.entry.Entry.{Entry}
use Rattle.repl_msg.specs.declared.message.Message.{Message}
use Rattle.set_model.specs.declared.command.Command.{Command}
use Rattle.set_model.specs.declared.command.Command.TheVariants as commands
use Rattle.set_model.specs.declared.command.Event.{Event}
use Rattle.set_model.specs.declared.command.Target.TheVariants.{At}
use Rattle.set_model.specs.declared.reply.Reply.{Reply}
use Rattle.set_model.specs.Node.{Node}
use Rattle.set_model.specs.World.{World, step, takes, task}
use Rattle.transcript.specs.Replies.{reply_text}
use Rattle.explore_words.specs.declared.question.Look.{Look}
use Rattle.explore_words.specs.declared.question.Route.{Route}
use Rattle.explore_words.specs.declared.question.Sight.{Sight}
use Rattle.explore_words.specs.declared.question.Sight.TheVariants as sights
use Rattle.explore_words.specs.declared.question.Want.{Want}
use Rattle.explore_words.specs.declared.question.Want.TheVariants.{Event as Happens, Seen}
use Rattle.explore_words.specs.declared.question.WantedEvent.{WantedEvent}
use Rattle.explore_words.specs.declared.question.WantedEvent.TheVariants as wanted
use Rattle.question_laws.specs.Doing.{event_of}

-- the text of the reply begins so
abbrev pub begins : Reply → List ℕ → Bool
begins reply text = starts_with ◌==◌ (reply_text reply) text

-- ---- events

-- a node, or any
abbrev pub is_of : Option ℕ → ℕ → Bool
is_of None number = true
is_of (Some wanted) number = wanted == number

abbrev pub OnRoute : Route → ℕ → ℕ → Type 0
OnRoute route from to = (is_of route.from from ≡ true) × (is_of route.to to ≡ true)

-- the command as one of node 0
abbrev pub at_first : Command → Command
at_first (commands.Campaign node) = commands.Campaign 0
at_first (commands.Drain node) = commands.Drain 0
at_first (commands.Insert node collection document) = commands.Insert 0 collection document
at_first (commands.Replace node collection id document) = commands.Replace 0 collection id document
at_first (commands.Update node collection id operators) = commands.Update 0 collection id operators
at_first (commands.Delete node collection id) = commands.Delete 0 collection id
at_first (commands.Retry node session op) = commands.Retry 0 session op
at_first (commands.Note node) = commands.Note 0
at_first (commands.Begin node writer op) = commands.Begin 0 writer op
at_first (commands.Commit node writer) = commands.Commit 0 writer
at_first (commands.Abort node writer) = commands.Abort 0 writer
at_first (commands.Ack node target concern) = commands.Ack 0 target concern
at_first (commands.Read node level collection id) = commands.Read 0 level collection id
at_first (commands.Dump node level) = commands.Dump 0 level
at_first (commands.Log node) = commands.Log 0
at_first (commands.State node) = commands.State 0
at_first (commands.Rolled node) = commands.Rolled 0
at_first (commands.DryRun node) = commands.DryRun 0
at_first (commands.StepDown node) = commands.StepDown 0
at_first (commands.Heartbeat node to) = commands.Heartbeat 0 to
at_first (commands.Report node to) = commands.Report 0 to
at_first (commands.Common node to) = commands.Common 0 to
at_first (commands.Fetch node) = commands.Fetch 0
at_first (commands.Deliver message) = commands.Deliver message
at_first (commands.DeliverLatest from to) = commands.DeliverLatest from to
at_first (commands.Apply node workers) = commands.Apply 0 workers
at_first (commands.Flush node) = commands.Flush 0
at_first (commands.Checkpoint node) = commands.Checkpoint 0
at_first (commands.Reconfig node config) = commands.Reconfig 0 config
at_first (commands.Crash node pick) = commands.Crash 0 pick
at_first (commands.Restart node) = commands.Restart 0
at_first (commands.DiskFail node disk call pick) = commands.DiskFail 0 disk call pick
at_first (commands.Clock node seconds) = commands.Clock 0 seconds

-- the command is one that is looked for; of a delivery the message that is taken counts
abbrev pub IsWanted : WantedEvent → World → Command → Type 0
IsWanted (wanted.Delivery route) world command =
    (message : Message) × (task world command ≡ takes message) × OnRoute route message.from message.to
IsWanted (wanted.Heartbeat route) world command =
    (from to : ℕ) × (command ≡ commands.Heartbeat from to) × OnRoute route from to
IsWanted (wanted.Report route) world command =
    (from to : ℕ) × (command ≡ commands.Report from to) × OnRoute route from to
IsWanted (wanted.Common route) world command =
    (from to : ℕ) × (command ≡ commands.Common from to) × OnRoute route from to
IsWanted (wanted.Command (Some node) asked) world command = command ≡ asked
IsWanted (wanted.Command None asked) world command = at_first command ≡ asked

-- the event meets a want
abbrev pub IsMet : Want → World → Event → Type 0
IsMet (Happens event text) world done =
    IsWanted event world done.command × (begins (step world done).reply text ≡ true)
IsMet (Seen looks) world done = ⊥

-- ---- sights

abbrev pub last_entry : List Entry → Option Entry
last_entry [] = None
last_entry (entry ∷ []) = Some entry
last_entry (entry ∷ next ∷ entries) = last_entry (next ∷ entries)

-- the last entry of a log that wrote a document
abbrev pub last_of_document : List Entry → Place → Option Entry
last_of_document log place = last_entry (filter (λ entry. is_at (place_of entry.op) place) log)

abbrev pub last_of_key : List Entry → List ℕ → Option IdKey → Option Entry
last_of_key log collection None = None
last_of_key log collection (Some key) = last_of_document log (collection, key)

-- the command that shows it at a node; none where nothing is there to be shown
abbrev pub shows : World → ℕ → Sight → Option Command
shows world number (sights.Read level collection id) = Some (commands.Read number level collection id)
shows world number (sights.Dump level) = Some (commands.Dump number level)
shows world number sights.Log = Some (commands.Log number)
shows world number sights.State = Some (commands.State number)
shows world number sights.Rolled = Some (commands.Rolled number)
shows world number (sights.Ack target concern) = Some (commands.Ack number target concern)
shows world number (sights.AckLast collection id concern) =
    option_map (λ (entry : Entry). commands.Ack number (At entry.optime) concern)
    (option_and_then (λ (node : Node). last_of_key node.log collection (key_of (tree_of id)))
    (slice_get world.nodes number))

-- a look is met at its node, or at this one where it may be any
abbrev pub is_look_met : World → ℕ → Look → Bool
is_look_met world number look =
    option_map_or (λ (command : Command). begins (step world (event_of command)).reply look.text)
    (shows world (unwrap_or look.node number) look.sight) false

abbrev pub any_below : (ℕ → Bool) → ℕ → Bool
any_below test zero = false
any_below test (suc number) = any_below test number || test number

-- all looks are met, with some node for any
abbrev pub is_seen : World → Want → Bool
is_seen world (Happens event text) = false
is_seen world (Seen looks) =
    any_below (λ number. list_all (is_look_met world number) looks) (length world.nodes)

-- ---- one after another

-- the wants that are left once those that are seen now are met
abbrev pub unseen : World → List Want → List Want
unseen world [] = []
unseen world (want ∷ wants) = if is_seen world want then unseen world wants else want ∷ wants

-- what is left of some wants after an event: first it may meet one, and then is seen what is to be seen
abbrev pub LeavesAfter : World → Event → List Want → List Want → Type 0
LeavesAfter world event [] left = left ≡ []
LeavesAfter world event (want ∷ wants) left =
    (IsMet want world event × (left ≡ unseen (step world event).world wants))
    ⊎ ((IsMet want world event → ⊥) × (left ≡ unseen (step world event).world (want ∷ wants)))

-- and after some events
abbrev pub Leaves : World → List Event → List Want → List Want → Type 0
Leaves world [] wants left = left ≡ wants
Leaves world (event ∷ events) wants left =
    (next : List Want) × LeavesAfter world event wants next × Leaves (step world event).world events next left
