-- The events of one call of a stream, and its result.
use Rattle.std.specs.Prelude.{◌≡◌, ◌⊎◌, ℕ, Bool, List, [], ◌∷◌, ◌++◌, Result, Ok, Err, Some, IsSome, length}
use mathlib.Core.Logic.{inl, inr}
use Rattle.rs_optime.specs.declared.optime.OpTime.{OpTime}
use Rattle.oplog_entry.specs.declared.entry.Entry.{Entry}
use Rattle.set_model.specs.declared.command.Command.{Command}
use Rattle.set_model.specs.declared.command.Command.TheVariants as commands
use Rattle.set_model.specs.declared.command.Event.{Event}
use Rattle.set_model.specs.declared.reply.Refusal.TheVariants.{NodeDown as IsDown}
use Rattle.set_model.specs.declared.reply.Reply.{Reply}
use Rattle.set_model.specs.declared.reply.Reply.TheVariants as reply
use Rattle.set_model.specs.Run.{HISTORY_LIMIT, Sizes}
use Rattle.set_world.specs.Stepper.{Learns, StepsOnce}
use Rattle.change_stream.specs.declared.error.WatchError.{WatchError}
use Rattle.change_stream.specs.declared.error.WatchError.TheVariants.{NodeDown, UnknownToken, HistoryFull, Memory}
use Rattle.change_stream.specs.Calls.{Call, answer}
use Rattle.change_stream.specs.Shown.{Shows, shown_state}

-- A step of a call: it isn't on a line of a script.
abbrev pub Does : Bool → Sizes → List Event → List Event → Command → Reply → Type 0
Does alone sizes old new command answered = StepsOnce alone sizes old new 0 command answered

module _ (alone : Bool) (sizes : Sizes) (old new : List Event) where
  -- the two events of a call, one after the other, and what they show
  pub record Asks (node term : ℕ) (commit : OpTime) (log : List Entry) : Type 0 where
    pub between : List Event
    pub state : Reply
    pub first : Does alone sizes old between (commands.State node) state
    pub state_is : shown_state state ≡ Some (term, commit)
    pub second : Does alone sizes between new (commands.Log node) (reply.Entries log)

  -- of some term
  abbrev pub Reads : ℕ → OpTime → List Entry → Type 0
  Reads node commit log = (term : ℕ) × Asks node term commit log

  -- both events of a call at this node were answered, and this is its answer
  pub record Tells (token : OpTime) (node most : ℕ) (told : Result (List Entry) WatchError) : Type 0 where
    pub call : Call
    pub node_is : call.node ≡ node
    pub most_is : call.most ≡ most
    pub asks : Asks call.node call.term call.commit call.log
    pub shows : Shows sizes new call
    pub told_is : answer token call ≡ told

  -- the first event showed the node's state
  pub record Begins (node : ℕ) (Goes : List Event → Type 0) : Type 0 where
    pub between : List Event
    pub state : Reply
    pub is_state : IsSome (shown_state state)
    pub first : Does alone sizes old between (commands.State node) state
    pub on : Goes between

  -- the first event was refused, or the second, since the node is down
  abbrev pub IsRefused : ℕ → Type 0
  IsRefused node =
      Does alone sizes old new (commands.State node) (reply.Refused IsDown)
      ⊎ Begins node (λ between. Does alone sizes between new (commands.Log node) (reply.Refused IsDown))

  -- the first event wasn't done, or the second
  abbrev pub IsBrokenOff : ℕ → Type 0
  IsBrokenOff node = Learns alone old new ⊎ Begins node (λ between. Learns alone between new)

  -- the error that the two events end in
  abbrev pub Breaks : ℕ → WatchError → Type 0
  Breaks node NodeDown = IsRefused node
  Breaks node UnknownToken = ⊥
  Breaks node HistoryFull = IsBrokenOff node × (length new ≡ HISTORY_LIMIT)
  Breaks node Memory = IsBrokenOff node

  -- the error that a call ends in; memory may also run out for the answer
  abbrev pub Fails : OpTime → ℕ → ℕ → WatchError → Type 0
  Fails token node most NodeDown = Breaks node NodeDown
  Fails token node most UnknownToken = Tells token node most (Err UnknownToken)
  Fails token node most HistoryFull = Breaks node HistoryFull
  Fails token node most Memory =
      Breaks node Memory ⊎ ((entries : List Entry) × Tells token node most (Ok entries))

  -- ---- with whoever steps the set

  -- the two events of a call
  abbrev pub both : {node term : ℕ} {commit : OpTime} {log : List Entry} → Asks node term commit log
      → List Event
  both asks = asks.first.event ∷ asks.second.event ∷ []

  -- the events of a call that was refused, and of one that was broken off
  abbrev pub did_refused : (node : ℕ) → IsRefused node → List Event
  did_refused node (inl first) = first.event ∷ []
  did_refused node (inr begun) = begun.first.event ∷ begun.on.event ∷ []

  abbrev pub did_before : (node : ℕ) → IsBrokenOff node → List Event
  did_before node (inl learns) = []
  did_before node (inr begun) = begun.first.event ∷ []

  abbrev pub did : (node : ℕ) (error : WatchError) → Breaks node error → List Event
  did node NodeDown refused = did_refused node refused
  did node UnknownToken none = []
  did node HistoryFull broken = did_before node broken.0
  did node Memory broken = did_before node broken

  abbrev pub did_failing : (token : OpTime) (node most : ℕ) (error : WatchError)
      → Fails token node most error → List Event
  did_failing token node most NodeDown refused = did_refused node refused
  did_failing token node most UnknownToken tells = both tells.asks
  did_failing token node most HistoryFull broken = did_before node broken.0
  did_failing token node most Memory (inl broken) = did_before node broken
  did_failing token node most Memory (inr told) = both told.1.asks

  -- The same, and these events and no others are its own, in their order.
  module _ (own own' : List Event) where
    abbrev pub OwnReads : ℕ → OpTime → List Entry → Type 0
    OwnReads node commit log = (reads : Reads node commit log) × (own' ≡ own ++ both reads.1)

    abbrev pub OwnTells : OpTime → ℕ → ℕ → Result (List Entry) WatchError → Type 0
    OwnTells token node most told = (tells : Tells token node most told) × (own' ≡ own ++ both tells.asks)

    abbrev pub OwnBreaks : ℕ → WatchError → Type 0
    OwnBreaks node error = (breaks : Breaks node error) × (own' ≡ own ++ did node error breaks)

    abbrev pub OwnFails : OpTime → ℕ → ℕ → WatchError → Type 0
    OwnFails token node most error =
        (fails : Fails token node most error) × (own' ≡ own ++ did_failing token node most error fails)
