-- Linearizable reads (MongoDB manual, read concern "linearizable"): a read shows each write that was
-- acknowledged before it.
use Rattle.std.specs.Prelude.{◌≡◌, ◌<◌, ◌≤◌, ℕ, suc, true, false, List, Some, ⊤}
use Rattle.std.specs.FinMap as maps
use Rattle.bson_doc.specs.Key.{key_of}
use Rattle.bson_doc.specs.Tree.{Tree}
use Rattle.bson_doc.specs.View.{tree_of}
use Rattle.bson_doc.specs.declared.doc.Value.{Value}
use Rattle.bson_doc.specs.declared.key.IdKey.{IdKey}
use Rattle.rs_optime.specs.declared.optime.OpTime.{OpTime}
use Rattle.oplog_entry.specs.Docs.{docs}
use Rattle.oplog_entry.specs.Log.{Begins}
use Rattle.oplog_entry.specs.Visible.{log_up_to}
use Rattle.oplog_entry.specs.declared.entry.Entry.{Entry}
use Rattle.set_model.specs.declared.command.AckConcern.TheVariants as concerns
use Rattle.set_model.specs.declared.command.Command.{Command}
use Rattle.set_model.specs.declared.command.Command.TheVariants as commands
use Rattle.set_model.specs.declared.command.Event.{Event}
use Rattle.set_model.specs.declared.command.ReadLevel.TheVariants as levels
use Rattle.set_model.specs.declared.command.Target.TheVariants as targets
use Rattle.set_model.specs.declared.reply.Reply.{Reply}
use Rattle.set_model.specs.declared.reply.Reply.TheVariants as reply
use Rattle.set_model.specs.declared.role.Role.TheVariants.{Primary}
use Rattle.set_model.specs.Node.{Node}
use Rattle.set_model.specs.Reads.{document_reply}
use Rattle.set_model.specs.Run.{Sizes}
use Rattle.set_model.specs.Safety.{Answers, IsAt, is_majority_ack, is_refusal}
use Rattle.linear_read.specs.declared.answer.LinearAnswer.{LinearAnswer}
use Rattle.linear_read.specs.declared.answer.LinearAnswer.TheVariants.{Found, Missing, Refused}

-- a reply shows what a log leaves of a document
pub record ShowsOf (log : List Entry) (collection : List ℕ) (id : Tree) (shown : Reply) : Type 0 where
  pub key : IdKey
  pub key_is : key_of id ≡ Some key
  pub shows : shown ≡ document_reply (maps.get (docs log) (collection, key))

module _ (sizes : Sizes) (events : List Event) where
  -- at a node, the event after a place has this command and this reply
  pub record Asks (place number : ℕ) (command : Command) (answer : Reply) : Type 0 where
    pub event : Event
    pub command_is : event.command ≡ command
    pub answers : Answers sizes events place number event answer

  -- A primary whose log is confirmed: it wrote a note later, in the same term, and a majority acknowledged
  -- that note.
  pub record IsConfirmed (place number : ℕ) (node : Node) : Type 0 where
    pub node_at : IsAt sizes events place number node
    pub role : node.role ≡ Primary
    pub at : OpTime
    pub term_is : node.term ≡ at.term
    pub noted : ℕ
    pub later : place ≤ noted
    pub notes : Asks noted number (commands.Note number) (reply.Written at)
    pub acked : ℕ
    pub acks : Asks acked number (commands.Ack number (targets.At at) concerns.Majority) (reply.Acked at)

  -- A linear read: a local read at a primary whose log is confirmed.
  pub record IsLinear (place number : ℕ) (node : Node) (collection : List ℕ) (id : Value)
      (shown : Reply) : Type 0 where
    pub confirmed : IsConfirmed place number node
    pub reads : Asks place number (commands.Read number levels.Local collection id) shown

  -- the node's log begins with what each node had up to an optime that it acknowledged at majority before
  abbrev pub HoldsAcked : ℕ → Node → Type 0
  HoldsAcked place node =
      (h m : ℕ) (event : Event) (at : OpTime) (other : Node) → h < place
      → Answers sizes events h m event (reply.Acked at) → is_majority_ack event.command ≡ true
      → IsAt sizes events (suc h) m other → Begins (log_up_to at other.log) node.log

  -- A linear read shows a document, or that there is none, as left by a log that holds all that was
  -- acknowledged at majority before the read.
  abbrev pub LinearLaw : Type 0
  LinearLaw =
      (place number : ℕ) (node : Node) (collection : List ℕ) (id : Value) (shown : Reply)
      → IsLinear place number node collection id shown
      → HoldsAcked place node × (is_refusal shown ≡ false → ShowsOf node.log collection (tree_of id) shown)

  -- The answer is that of a linear read after at least this many events: the document, or that there is none.
  abbrev pub Comes : ℕ → ℕ → List ℕ → Value → Reply → Type 0
  Comes first number collection id shown =
      (place : ℕ) × (node : Node) × (first ≤ place) × IsLinear place number node collection id shown

  abbrev pub IsShown : ℕ → ℕ → List ℕ → Value → LinearAnswer → Type 0
  IsShown first number collection id (Found document) =
      Comes first number collection id (reply.Found document)
  IsShown first number collection id Missing = Comes first number collection id reply.Missing
  IsShown first number collection id (Refused why) = ⊤
