-- Which event wrote an entry.
use Rattle.std.specs.Prelude.{◌≡◌, ◌<◌, ℕ, suc, List, Some, slice_get}
use Rattle.rs_optime.specs.Membership.{In}
use Rattle.oplog_entry.specs.declared.entry.Entry.{Entry}
use Rattle.oplog_store.specs.Log.{with_entry}
use Rattle.repl_msg.specs.Parts.{entries_carried}
use Rattle.repl_msg.specs.declared.message.Message.{Message}
use Rattle.set_model.specs.declared.command.Event.{Event}
use Rattle.set_model.specs.Node.{Node}
use Rattle.set_model.specs.Run.{Sizes, world_at}
use Rattle.set_model.specs.Safety.{Leads}

module _ (sizes : Sizes) (events : List Event) where
  -- The event after a place wrote the entry: a node that led in the entry's term before it, and still does,
  -- has this one more entry in its log.
  pub record Wrote (place : ℕ) (entry : Entry) : Type 0 where
    pub event : Event
    pub event_is : slice_get events place ≡ Some event
    pub number : ℕ
    pub old : Node
    pub new : Node
    pub before : Leads sizes events place number entry.optime.term old
    pub next : Leads sizes events (suc place) number entry.optime.term new
    pub more : new.log ≡ with_entry old.log entry

  -- an event before this place wrote the entry
  abbrev pub WasWritten : ℕ → Entry → Type 0
  WasWritten place entry = (earlier : ℕ) × (earlier < place) × Wrote earlier entry

  -- In the world at a place, each entry of a log, and each that a message carries, was written before it.
  pub record EntriesAreWritten : Type 0 where
    pub logs :
        (place number : ℕ) (node : Node) → slice_get (world_at sizes events place).nodes number ≡ Some node
        → (entry : Entry) → In entry node.log → WasWritten place entry
    pub messages :
        (place : ℕ) (message : Message) → In message (world_at sizes events place).messages
        → (entry : Entry) → In entry (entries_carried message.body) → WasWritten place entry
