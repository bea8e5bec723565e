-- What a watch asks, and what it tells: nodes are asked one after another, each until it has nothing more.
use Rattle.std.specs.Prelude.{◌≡◌, ◌⊎◌, ◌≤◌, ◌<◌, ℕ, Bool, true, false, List, [], ◌∷◌, ◌++◌, length, take, Option, Result, Ok, Err}
use Rattle.std.specs.List.{flat_map}
use Rattle.std.specs.Io.KnownBytes.{Appends}
use Rattle.oplog_entry.specs.declared.entry.Entry.{Entry}
use Rattle.rs_optime.specs.declared.optime.OpTime.{OpTime}
use Rattle.set_model.specs.declared.command.Event.{Event}
use Rattle.set_model.specs.Run.{Sizes}
use Rattle.change_stream.specs.Asking.{Asks, Fails, IsRefused, Tells}
use Rattle.change_stream.specs.Calls.{Call, answer, given, joined, token_of_last}
use Rattle.change_stream.specs.declared.error.WatchError.TheVariants as errors
use Rattle.change_words.specs.declared.asked.Watch.{Watch}
use Rattle.change_words.specs.declared.refusal.WatchRefusal.{WatchRefusal}
use Rattle.change_words.specs.declared.refusal.WatchRefusal.TheVariants.{UnknownToken, NodeDown, NoSuchNode}
use Rattle.change_watch.specs.declared.stop.WatchStop.{WatchStop}
use Rattle.change_watch.specs.declared.stop.WatchStop.TheVariants.{Refused, WriteFault, Memory}
use Rattle.change_words.specs.Texts.{change_lines, refusal_text, resume_text}

-- lines, one after the other
abbrev pub together : List (List ℕ) → List ℕ
together lines = flat_map (λ (line : List ℕ). line) lines

-- Lines are put up to a stop: if memory runs out, some first ones and not all; if the sink fails, a prefix of
-- their bytes. Putting lines refuses nothing.
abbrev pub PutsUpTo : Option (List ℕ) → Option (List ℕ) → List (List ℕ) → WatchStop → Type 0
PutsUpTo held now lines (Refused why) = ⊥
PutsUpTo held now lines WriteFault = (count : ℕ) × Appends held now (take count (together lines))
PutsUpTo held now lines Memory =
    (count : ℕ) × (count < length lines) × Appends held now (together (take count lines))

-- all these lines are put, or they are put up to a stop
abbrev pub PutsLines : Option (List ℕ) → Option (List ℕ) → List (List ℕ) → Result (Unit {0}) WatchStop
    → Type 0
PutsLines held now lines (Ok done) = Appends held now (together lines)
PutsLines held now lines (Err stop) = PutsUpTo held now lines stop

-- all of the first lines are put, but not all of those after them
abbrev pub PutsAfter : Option (List ℕ) → Option (List ℕ) → List (List ℕ) → List (List ℕ) → WatchStop
    → Type 0
PutsAfter held now first after stop =
    (told : Option (List ℕ)) × Appends held told (together first) × PutsUpTo told now after stop

-- the line of a refusal
abbrev pub stop_lines : WatchStop → List (List ℕ)
stop_lines (Refused why) = refusal_text why ∷ []
stop_lines WriteFault = []
stop_lines Memory = []

-- the last line
abbrev pub last_lines : OpTime → Result (Unit {0}) WatchStop → List (List ℕ)
last_lines token (Ok done) = resume_text token ∷ []
last_lines token (Err stop) = stop_lines stop

-- a call gives at most this many entries
abbrev pub most : ℕ
most = 1000

-- the nodes that are still to be asked, after the first of them gave these entries
abbrev pub still_to_ask : ℕ → List ℕ → List Entry → List ℕ
still_to_ask node others [] = others
still_to_ask node others (entry ∷ entries) = node ∷ others

-- nothing was given
abbrev pub gave_nothing : List Entry → Bool
gave_nothing [] = true
gave_nothing (entry ∷ entries) = false

-- a node that gave nothing isn't asked again
abbrev pub left_of : ℕ → Bool → List ℕ
left_of node true = []
left_of node false = node ∷ []

-- Nothing changed, or only what a step can change.
abbrev pub StaysSo : {S : Type 0} → (S → S → Type 0) → S → S → Type 0
StaysSo stays old new = (new ≡ old) ⊎ stays old new

-- These calls follow the list of nodes, and each was answered: the last one leaves this token, and these
-- nodes.
abbrev pub GoesBy : OpTime → List ℕ → List Call → OpTime → List ℕ → Type 0
GoesBy token nodes [] end left = (end ≡ token) × (left ≡ nodes)
GoesBy token [] (call ∷ calls) end left = ⊥
GoesBy token (node ∷ nodes) (call ∷ calls) end left =
    (call.node ≡ node) × (call.most ≡ most)
    × ((entries : List Entry) × (answer token call ≡ Ok entries)
    × GoesBy (token_of_last token entries) (still_to_ask node nodes entries) calls end left)

module _ (alone : Bool) (sizes : Sizes) where
  -- these calls were made one after another, by the events from the old ones to the new ones
  abbrev pub AreMade : List Event → List Call → List Event → Type 0
  AreMade old [] new = new ≡ old
  AreMade old (call ∷ calls) new =
      (between : List Event) × Asks alone sizes old between call.node call.term call.commit call.log
      × AreMade between calls new

  module _ (token : OpTime) where
    -- the next node refuses, or isn't in the set
    abbrev pub RefusesAt : List ℕ → List Event → List Event → WatchRefusal → Type 0
    RefusesAt [] old new why = ⊥
    RefusesAt (node ∷ others) old new UnknownToken =
        Tells alone sizes old new token node most (Err errors.UnknownToken)
    RefusesAt (node ∷ others) old new NodeDown = IsRefused alone sizes old new node
    RefusesAt (node ∷ others) old new NoSuchNode = (sizes.nodes ≤ node) × (new ≡ old)

    -- memory ran out in the next call, or before it
    abbrev pub BreaksAt : List ℕ → List Event → List Event → Type 0
    BreaksAt [] old new = new ≡ old
    BreaksAt (node ∷ others) old new = (new ≡ old) ⊎ Fails alone sizes old new token node most errors.Memory

    -- What comes after the calls, by the nodes that are left: nothing, or what stopped the next call. The
    -- sink stops no call.
    abbrev pub EndsSo : List ℕ → List Event → List Event → Result (Unit {0}) WatchStop → Type 0
    EndsSo left old new (Ok done) = (left ≡ []) × (new ≡ old)
    EndsSo left old new (Err (Refused why)) = RefusesAt left old new why
    EndsSo left old new (Err WriteFault) = ⊥
    EndsSo left old new (Err Memory) = BreaksAt left old new

  -- Some of these nodes are asked. The calls leave this token and these nodes, and the lines have their
  -- changes.
  pub record AskedSo (collection : List ℕ) (token : OpTime) (nodes : List ℕ) (token' : OpTime) (left : List ℕ)
      (old new : List Event) (lines : List (List ℕ)) : Type 0 where
    pub calls : List Call
    pub goes : GoesBy token nodes calls token' left
    pub made : AreMade old calls new
    pub lines_are : lines ≡ change_lines collection (joined token calls)

  -- The changes of all calls before the last one are put. Not all of the last one's are, and no call comes
  -- after it.
  pub record LosesChange (collection : List ℕ) (token : OpTime) (nodes : List ℕ) (token' : OpTime)
      (old new : List Event) (held now : Option (List ℕ)) (stop : WatchStop) : Type 0 where
    pub before : OpTime
    pub left : List ℕ
    pub between : List Event
    pub lines : List (List ℕ)
    pub asked : AskedSo collection token nodes before left old between lines
    pub last : Call
    pub still : List ℕ
    pub goes : GoesBy before left (last ∷ []) token' still
    pub made : AreMade between (last ∷ []) new
    pub put : PutsAfter held now lines (change_lines collection (given before last)) stop

  -- ---- a watch

  -- From the old events to the new ones, some calls were answered, and then came this end. The lines have
  -- their changes; the last ones say where to resume, or why a node refused.
  pub record Watched (watch : Watch) (old new : List Event) (ended : Result (Unit {0}) WatchStop)
      (lines last : List (List ℕ)) : Type 0 where
    pub token : OpTime
    pub left : List ℕ
    pub between : List Event
    pub asked : AskedSo watch.collection watch.token watch.nodes token left old between lines
    pub ends : EndsSo token left between new ended
    pub last_are : last ≡ last_lines token ended

  -- all of it is put
  abbrev pub TellsAll : Watch → List Event → List Event → Option (List ℕ) → Option (List ℕ)
      → Result (Unit {0}) WatchStop → Type 0
  TellsAll watch old new held now ended =
      (lines last : List (List ℕ)) × Watched watch old new ended lines last
      × Appends held now (together (lines ++ last))

  -- all changes are put, but the last line isn't
  abbrev pub LosesLast : Watch → List Event → List Event → Option (List ℕ) → Option (List ℕ) → WatchStop
      → Type 0
  LosesLast watch old new held now stop =
      (ended : Result (Unit {0}) WatchStop) × (lines : List (List ℕ)) × (line : List ℕ)
      × Watched watch old new ended lines (line ∷ []) × PutsAfter held now lines (line ∷ []) stop

  -- A line isn't put, which ends the watch: one of the last call's, or the last line.
  abbrev pub LosesLine : Watch → List Event → List Event → Option (List ℕ) → Option (List ℕ) → WatchStop
      → Type 0
  LosesLine watch old new held now stop =
      ((token : OpTime) × LosesChange watch.collection watch.token watch.nodes token old new held now stop)
      ⊎ LosesLast watch old new held now stop

  -- Everything is put, after which a call may be broken off out of memory; or a line is lost.
  abbrev pub Follows : Watch → List Event → List Event → Option (List ℕ) → Option (List ℕ)
      → Result (Unit {0}) WatchStop → Type 0
  Follows watch old new held now (Ok done) = TellsAll watch old new held now (Ok done)
  Follows watch old new held now (Err (Refused why)) = TellsAll watch old new held now (Err (Refused why))
  Follows watch old new held now (Err Memory) =
      TellsAll watch old new held now (Err Memory) ⊎ LosesLine watch old new held now Memory
  Follows watch old new held now (Err WriteFault) = LosesLine watch old new held now WriteFault

  -- ---- a part of a watch

  -- some of these nodes are asked, and then it stops
  pub record StopsSo (collection : List ℕ) (token : OpTime) (nodes : List ℕ) (token' : OpTime)
      (old new : List Event) (stop : WatchStop) (lines : List (List ℕ)) : Type 0 where
    pub left : List ℕ
    pub between : List Event
    pub asked : AskedSo collection token nodes token' left old between lines
    pub ends : EndsSo token' left between new (Err stop)

  -- Some nodes are asked, and the changes that they gave are put. The answer says which nodes are left. Where
  -- it stops, all changes before are put, or a line is lost. The lines of a refusal and of the end come
  -- later.
  abbrev pub AsksSome : {A : Type 0} → (A → List ℕ) → List ℕ → OpTime → List ℕ → OpTime → List Event
      → List Event → Option (List ℕ) → Option (List ℕ) → Result A WatchStop → Type 0
  AsksSome left_by collection token nodes token' old new held now (Ok answered) =
      (lines : List (List ℕ))
      × AskedSo collection token nodes token' (left_by answered) old new lines
      × Appends held now (together lines)
  AsksSome left_by collection token nodes token' old new held now (Err stop) =
      ((lines : List (List ℕ)) × StopsSo collection token nodes token' old new stop lines
      × Appends held now (together lines))
      ⊎ LosesChange collection token nodes token' old new held now stop

  -- all of them are asked, or it stops before
  abbrev pub AsksAll : List ℕ → OpTime → List ℕ → OpTime → List Event → List Event → Option (List ℕ)
      → Option (List ℕ) → Result (Unit {0}) WatchStop → Type 0
  AsksAll collection token nodes token' old new held now ended =
      AsksSome (λ (done : Unit {0}). []) collection token nodes token' old new held now ended

  -- One node is asked once. It is asked again if it gave something.
  abbrev pub AsksOnce : List ℕ → ℕ → OpTime → OpTime → List Event → List Event → Option (List ℕ)
      → Option (List ℕ) → Result Bool WatchStop → Type 0
  AsksOnce collection node token token' old new held now ended =
      AsksSome (left_of node) collection token (node ∷ []) token' old new held now ended
