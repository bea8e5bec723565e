-- What a node is asked, and what a new member begins with.
use Rattle.std.specs.Prelude.{◌≡◌, ◌≢◌, ◌⊎◌, ◌<◌, ◌≤◌, ℕ, true, List, [], ◌∷◌, ◌++◌, take, Option, Result, Ok, Err, Some, slice_get}
use Rattle.std.specs.Io.KnownBytes.{Appends, Keeps}
use Rattle.rs_optime.specs.declared.optime.OpTime.{OpTime}
use Rattle.oplog_entry.specs.Visible.{ZERO, log_up_to}
use Rattle.oplog_entry.specs.declared.entry.Entry.{Entry}
use Rattle.initial_sync.specs.Pinned.{listed_of}
use Rattle.initial_sync.specs.declared.pinned.Pinned.{Pinned}
use Rattle.set_model.specs.declared.command.Command.{Command}
use Rattle.set_model.specs.declared.command.Command.TheVariants as commands
use Rattle.set_model.specs.declared.command.Event.{Event}
use Rattle.set_model.specs.declared.command.ReadLevel.TheVariants.{Majority}
use Rattle.set_model.specs.declared.reply.Refusal.TheVariants.{NodeDown as IsDown}
use Rattle.set_model.specs.declared.reply.Reply.{Reply}
use Rattle.set_model.specs.declared.reply.Reply.TheVariants as reply
use Rattle.set_model.specs.Node.{Node}
use Rattle.set_model.specs.Run.{Sizes, run}
use Rattle.set_model.specs.Safety.{Begins, Leads}
use Rattle.change_stream.specs.Asking.{Does}
use Rattle.sync_words.specs.Texts.{refusal_text}
use Rattle.sync_words.specs.declared.refusal.SyncRefusal.{SyncRefusal}
use Rattle.sync_words.specs.declared.refusal.SyncRefusal.TheVariants.{NoSuchNode, NoNumberLeft, NodeDown, NothingCommitted}
use Rattle.sync_words.specs.declared.stop.SyncStop.{SyncStop}
use Rattle.sync_words.specs.declared.stop.SyncStop.TheVariants.{Refused, DiskFault, WriteFault, Memory}
use Rattle.sync_pin.specs.Showing.{shown_point}

-- a set has at most this many nodes
abbrev pub MOST : ℕ
MOST = 50

module _ (sizes : Sizes) where
  -- the node is up
  pub record IsUpIn (node : ℕ) (events : List Event) : Type 0 where
    pub is : Node
    pub there : slice_get (run sizes events).world.nodes node ≡ Some is
    pub up : is.up ≡ true

  -- a command without a line came next, with this reply
  abbrev pub Tells : List Event → List Event → Command → Reply → Type 0
  Tells old new command answered = Does true sizes old new command answered

  -- these commands came next, in their order
  abbrev pub AreDone : List Event → List Command → List Event → Type 0
  AreDone old [] new = new ≡ old
  AreDone old (command ∷ commands) new =
      (between : List Event) × (answered : Reply) × Tells old between command answered
      × AreDone between commands new

-- the node is in the set, and there is room for one more node
abbrev pub HasRoom : Sizes → ℕ → Type 0
HasRoom sizes node = (node < sizes.nodes) × (sizes.nodes < MOST)

-- each node that leads in a later term has a log that begins with these entries
abbrev pub HaveLeaders : Sizes → List Event → Pinned → Type 0
HaveLeaders sizes events pinned =
    (place number term : ℕ) (leader : Node) → Leads sizes events place number term leader
    → pinned.term < term → Begins pinned.entries.items leader.log

module _ (sizes : Sizes) (node : ℕ) (old new : List Event) where
  -- The three events of a node that is asked, one after the other, and what they show: its term and how far
  -- its log is committed and applied, the log up to there, and the documents of that.
  pub record Shows (pinned : Pinned) : Type 0 where
    pub first : List Event
    pub second : List Event
    pub state : Reply
    pub asks_state : Tells sizes old first (commands.State node) state
    pub point : shown_point state ≡ Some (pinned.term, pinned.at)
    pub above : pinned.at ≢ ZERO
    pub log : List Entry
    pub asks_log : Tells sizes first second (commands.Log node) (reply.Entries log)
    pub entries : pinned.entries.items ≡ log_up_to pinned.at log
    pub asks_documents : Tells sizes second new (commands.Dump node Majority)
        (reply.Documents (listed_of pinned.documents.items))

  -- what the first event shows
  abbrev pub AsksPoint : Result (ℕ × OpTime) SyncStop → Type 0
  AsksPoint (Ok point) =
      (state : Reply) × Tells sizes old new (commands.State node) state × (shown_point state ≡ Some point)
  AsksPoint (Err (Refused why)) =
      (why ≡ NodeDown) × Tells sizes old new (commands.State node) (reply.Refused IsDown)
  AsksPoint (Err DiskFault) = ⊥
  AsksPoint (Err WriteFault) = ⊥
  AsksPoint (Err Memory) = new ≡ old

  -- its first event shows that nothing that it has applied is committed
  pub record ShowsNothing : Type 0 where
    pub state : Reply
    pub asks_state : Tells sizes old new (commands.State node) state
    pub term : ℕ
    pub point : shown_point state ≡ Some (term, ZERO)

  abbrev pub IsRefused : SyncRefusal → Type 0
  IsRefused NoSuchNode = (sizes.nodes ≤ node) × (new ≡ old)
  IsRefused NoNumberLeft = (node < sizes.nodes) × (MOST ≤ sizes.nodes) × (new ≡ old)
  IsRefused NodeDown = HasRoom sizes node × Tells sizes old new (commands.State node) (reply.Refused IsDown)
  IsRefused NothingCommitted = HasRoom sizes node × ShowsNothing

  -- its first event shows that something that it has applied is committed, and of the other two events none,
  -- the first or both were done
  pub record GoesOn : Type 0 where
    pub first : List Event
    pub state : Reply
    pub asks_state : Tells sizes old first (commands.State node) state
    pub term : ℕ
    pub at : OpTime
    pub point : shown_point state ≡ Some (term, at)
    pub above : at ≢ ZERO
    pub asked : List Command
    pub unasked : List Command
    pub all : asked ++ unasked ≡ commands.Log node ∷ commands.Dump node Majority ∷ []
    pub done : AreDone sizes first asked new

  -- a node that can be asked wasn't asked, or at least its first event was done
  abbrev pub IsBrokenOff : Type 0
  IsBrokenOff = HasRoom sizes node × ((new ≡ old) ⊎ GoesOn)

  -- what a new member begins with, or why there is none
  abbrev pub Asks : Result Pinned SyncStop → Type 0
  Asks (Ok pinned) = HasRoom sizes node × Shows pinned
  Asks (Err (Refused why)) = IsRefused why
  Asks (Err DiskFault) = ⊥
  Asks (Err WriteFault) = ⊥
  Asks (Err Memory) = IsBrokenOff

  -- the same, and the line of a refusal is put, or a prefix of it
  abbrev pub Pins : Option (List ℕ) → Option (List ℕ) → Result Pinned SyncStop → Type 0
  Pins held now (Ok pinned) = HasRoom sizes node × Shows pinned × Keeps held now
  Pins held now (Err (Refused why)) = IsRefused why × Appends held now (refusal_text why)
  Pins held now (Err DiskFault) = ⊥
  Pins held now (Err WriteFault) =
      (why : SyncRefusal) × IsRefused why
      × ((count : ℕ) × Appends held now (take count (refusal_text why)))
  Pins held now (Err Memory) = (IsBrokenOff ⊎ ((why : SyncRefusal) × IsRefused why)) × Keeps held now
