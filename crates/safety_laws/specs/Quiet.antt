-- Which events leave the world as it was, and what remains of one whose store fails. This holds in any world.
use Rattle.std.specs.Prelude.{◌≡◌, ◌≤◌, ℕ, zero, suc, Bool, true, false, not, ◌&&◌, nat_lt, List, ◌∷◌, ◌++◌, fold, length, None, Some, slice_get, slice_set, if◌then◌else◌}
use Rattle.oplog_entry.specs.declared.entry.Session.{Session}
use Rattle.doc_update.specs.declared.write.WriteOp.{WriteOp}
use Rattle.repl_msg.specs.declared.message.Body.TheVariants as bodies
use Rattle.repl_msg.specs.declared.message.Message.{Message}
use Rattle.repl_msg.specs.declared.message.VoteAsk.{VoteAsk}
use Rattle.repl_msg.specs.declared.message.VoteRefusal.{VoteRefusal}
use Rattle.set_model.specs.declared.command.Command.{Command}
use Rattle.set_model.specs.declared.command.Command.TheVariants as commands
use Rattle.set_model.specs.declared.command.Event.{Event}
use Rattle.set_model.specs.declared.reply.Ignored.{Ignored}
use Rattle.set_model.specs.declared.reply.Refusal.{Refusal}
use Rattle.set_model.specs.declared.reply.Refusal.TheVariants.{DiskFailed}
use Rattle.set_model.specs.declared.reply.Reply.{Reply}
use Rattle.set_model.specs.declared.reply.Reply.TheVariants as reply
use Rattle.set_model.specs.declared.session.LastWrite.{LastWrite}
use Rattle.set_model.specs.declared.store.Store.{Store}
use Rattle.set_model.specs.Changes.{in_new_term}
use Rattle.set_model.specs.Deliver.{brings_term}
use Rattle.set_model.specs.Disk.{settled_doubt}
use Rattle.set_model.specs.Limits.{is_restart}
use Rattle.set_model.specs.Node.{Node}
use Rattle.set_model.specs.Sessions.{last_write}
use Rattle.set_model.specs.Stores.{in_doubt, stored, vote_record}
use Rattle.set_model.specs.Votes.{vote_refusal}
use Rattle.set_model.specs.World.{World, step, takes, task, touched_node}

-- the world after the event is the one before it
abbrev pub Stays : World → Event → Type 0
Stays world event = (step world event).world ≡ world

-- ---- replies

abbrev pub is_disk_failure : Refusal → Bool
is_disk_failure DiskFailed = true
is_disk_failure _ = false

-- it is a refusal other than that a disk failed; it shows something of the node; there was nothing to write;
-- a vote wasn't given; or a disk will fail
abbrev pub is_quiet : Reply → Bool
is_quiet (reply.Refused why) = not (is_disk_failure why)
is_quiet (reply.Acked at) = true
is_quiet (reply.Found document) = true
is_quiet reply.Missing = true
is_quiet (reply.Documents documents) = true
is_quiet (reply.Rolled documents) = true
is_quiet (reply.Entries entries) = true
is_quiet (reply.State role term vote last durable applied commit config rollback) = true
is_quiet reply.NoMatch = true
is_quiet reply.Unchanged = true
is_quiet (reply.VoteRefused why) = true
is_quiet reply.Armed = true
is_quiet _ = false

-- An event with such a reply leaves the world as it was.
abbrev pub QuietRepliesChangeNothing : Type 0
QuietRepliesChangeNothing =
    (world : World) (event : Event) → is_quiet (step world event).reply ≡ true → Stays world event

-- a command that asks what a node has, or whether a write is safe
abbrev pub is_question : Command → Bool
is_question (commands.Read node level collection id) = true
is_question (commands.Dump node level) = true
is_question (commands.Log node) = true
is_question (commands.State node) = true
is_question (commands.Rolled node) = true
is_question (commands.Ack node target concern) = true
is_question _ = false

-- A question leaves the world as it was, whatever the reply.
abbrev pub QuestionsChangeNothing : Type 0
QuestionsChangeNothing =
    (world : World) (event : Event) → is_question event.command ≡ true → Stays world event

-- A write of a session that the node's log has, or that is older than the session's last one there, is not
-- done again: the world stays as it was.
abbrev pub RetriesChangeNothing : Type 0
RetriesChangeNothing =
    (world : World) (event : Event) (number : ℕ) (session : Session) (op : WriteOp) (node : Node)
    (last : LastWrite)
    → event.command ≡ commands.Retry number session op → slice_get world.nodes number ≡ Some node
    → last_write session.id node.log ≡ Some last → session.number ≤ last.number → Stays world event

-- ---- messages that aren't taken

-- the node with a message's term, stored on its disk, where that is higher
abbrev pub with_term_of : Message → Node → Node
with_term_of message node =
    if brings_term message.body && nat_lt node.term message.term
    then in_new_term (stored node (vote_record message.term None)) message.term None
    else node

-- this message is delivered to this node
pub record IsHanded (world : World) (event : Event) (message : Message) (node : Node) : Type 0 where
  pub takes_it : task world event.command ≡ takes message
  pub there : slice_get world.nodes message.to ≡ Some node

-- An ignored message leaves the world as it was, except that its receiver takes a higher term.
pub record IgnoredMessagesBringTerms : Type 0 where
  pub term :
      (world : World) (event : Event) (message : Message) (node : Node) (why : Ignored)
      → IsHanded world event message node → (step world event).reply ≡ reply.Ignored why
      → (step world event).world
      ≡ record world { nodes = slice_set world.nodes message.to (with_term_of message node) }
  pub nothing :
      (world : World) (event : Event) (message : Message) (node : Node) (why : Ignored)
      → IsHanded world event message node → (step world event).reply ≡ reply.Ignored why
      → message.term ≤ node.term → Stays world event

-- Where a node is asked for its vote in a term that isn't higher than its own, and refuses it, no node
-- changes. (The answer is sent.)
abbrev pub RefusedVotesChangeNoNode : Type 0
RefusedVotesChangeNoNode =
    (world : World) (event : Event) (message : Message) (node : Node) (ask : VoteAsk) (why : VoteRefusal)
    → IsHanded world event message node → message.body ≡ bodies.VoteAsk ask
    → vote_refusal node ask ≡ Some why → ask.asked ≤ node.term
    → (step world event).world.nodes ≡ world.nodes

-- ---- a store that fails

-- these are on the node's disks, one after another
abbrev pub with_stores : Node → List Store → Node
with_stores node stores = fold stored node stores

-- Of what was to be stored from `start` on, this many are on the node's disks, the next one is in doubt, and
-- the node is down. `whole` is the node if nothing fails.
pub record IsCutOff (number : ℕ) (start new whole : Node) : Type 0 where
  pub earlier : List Store
  pub failing : Store
  pub later : List Store
  pub count : length earlier ≡ number
  pub new_is : new ≡ in_doubt (with_stores start earlier) failing
  pub records : whole.records ≡ (with_stores start (earlier ++ failing ∷ later)).records
  pub stable : whole.stable ≡ (with_stores start (earlier ++ failing ∷ later)).stable

-- At a restart, opening the disks counts as the first store. Where it fails, the node stays as it was, with
-- its doubt; otherwise the doubt was settled.
abbrev pub IsStopped : (restart : Bool) (number : ℕ) (there : Bool) (old new whole : Node) → Type 0
IsStopped false number there old new whole = IsCutOff number old new whole
IsStopped true zero there old new whole = new ≡ old
IsStopped true (suc number) there old new whole =
    IsCutOff number (settled_doubt old old.doubt there) new whole

-- the event without a failing store
abbrev pub unfailed : Event → Event
unfailed event = record event { failed = None }

-- A store of the event failed, and nothing else happened: nothing is sent, and no other node changed.
pub record BreaksOff (world : World) (event : Event) : Type 0 where
  pub number : ℕ
  pub fails : event.failed ≡ Some number
  pub old : Node
  pub there : slice_get world.nodes (touched_node world event.command) ≡ Some old
  pub new : Node
  pub whole : Node
  pub whole_is : (step world (unfailed event)).world.nodes
      ≡ slice_set world.nodes (touched_node world event.command) whole
  pub down : new.up ≡ false
  pub stopped : IsStopped (is_restart event.command) number event.kept old new whole
  pub left : (step world event).world
      ≡ record world { nodes = slice_set world.nodes (touched_node world event.command) new }

-- Only an event whose store failed is answered that a disk failed.
abbrev pub FailedStoresStop : Type 0
FailedStoresStop =
    (world : World) (event : Event) → (step world event).reply ≡ reply.Refused DiskFailed
    → BreaksOff world event
