-- How far a part is played, and what is put of its replies.
use Rattle.std.specs.Prelude.{ℕ, true, ◌≡◌, ◌++◌, ◌⊎◌, Option, Result, Ok, Err, List, [], map, length, take}
use Rattle.std.specs.List.{flat_map}
use Rattle.std.specs.Io.KnownBytes.{Appends, Keeps}
use Rattle.rs_disk.specs.State.{State}
use Rattle.set_model.specs.declared.command.Command.{Command}
use Rattle.set_model.specs.declared.command.Event.{Event}
use Rattle.set_model.specs.declared.reply.Reply.{Reply}
use Rattle.set_model.specs.Run.{run}
use Rattle.fault_script.specs.declared.script.Part.{Part}
use Rattle.transcript.specs.Replies.{line_text}
use Rattle.run_checker.specs.Trace.{entries_text}
use Rattle.set_world.specs.Went.{DisksPlay}
use Rattle.set_world.specs.World.{Set}
use Rattle.set_program.specs.declared.stop.Stop.{Stop}
use Rattle.set_program.specs.declared.stop.Stop.TheVariants.{Memory, Usage, Script as NoScript, ReadFault, WriteFault, TooLong, DiskFault, CopyFault, Refused}
use Rattle.set_program.specs.Headline.{PutsFirst, trace_put}
use Rattle.set_program.specs.Orders.{AnyPrefix, IsOrderOf, NoPrefix, PutsPrefix, PutsReplies}
use Rattle.set_program.specs.Parts.{SteppedSome}
use Rattle.set_program.specs.Steps.{GoesOn, line_of}

-- ---- texts

-- a text is put, or a prefix of it if the sink fails
abbrev pub PutsText : Option (List ℕ) → Option (List ℕ) → List ℕ → Result (Unit {0}) Stop → Type 0
PutsText held now piece (Ok done) = Appends held now piece
PutsText held now piece (Err Memory) = Keeps held now
PutsText held now piece (Err WriteFault) = (count : ℕ) × Appends held now (take count piece)
PutsText held now piece (Err Usage) = ⊥
PutsText held now piece (Err NoScript) = ⊥
PutsText held now piece (Err ReadFault) = ⊥
PutsText held now piece (Err TooLong) = ⊥
PutsText held now piece (Err DiskFault) = ⊥
PutsText held now piece (Err CopyFault) = ⊥
PutsText held now piece (Err Refused) = ⊥

-- replies are put one after another
abbrev pub PutsEach : Option (List ℕ) → Option (List ℕ) → List (ℕ × Reply) → Result (Unit {0}) Stop → Type 0
PutsEach held now replies (Ok done) = Appends held now (flat_map line_text replies)
PutsEach held now replies (Err Memory) = PutsReplies NoPrefix held now replies
PutsEach held now replies (Err WriteFault) = PutsReplies AnyPrefix held now replies
PutsEach held now replies (Err Usage) = ⊥
PutsEach held now replies (Err NoScript) = ⊥
PutsEach held now replies (Err ReadFault) = ⊥
PutsEach held now replies (Err TooLong) = ⊥
PutsEach held now replies (Err DiskFault) = ⊥
PutsEach held now replies (Err CopyFault) = ⊥
PutsEach held now replies (Err Refused) = ⊥

-- ---- a trace

-- events are put one after another, each with its reply
abbrev pub PutsEntries : Option (List ℕ) → Option (List ℕ) → List Event → List (ℕ × Reply)
    → Result (Unit {0}) Stop → Type 0
PutsEntries held now events replies (Ok done) =
    Appends held now (entries_text events (map (λ reply. reply.1) replies))
PutsEntries held now events replies (Err Memory) = (count : ℕ)
    × Appends held now (entries_text (take count events) (take count (map (λ reply. reply.1) replies)))
PutsEntries held now events replies (Err WriteFault) =
    (count : ℕ) × Appends held now (take count (entries_text events (map (λ reply. reply.1) replies)))
PutsEntries held now events replies (Err Usage) = ⊥
PutsEntries held now events replies (Err NoScript) = ⊥
PutsEntries held now events replies (Err ReadFault) = ⊥
PutsEntries held now events replies (Err TooLong) = ⊥
PutsEntries held now events replies (Err DiskFault) = ⊥
PutsEntries held now events replies (Err CopyFault) = ⊥
PutsEntries held now events replies (Err Refused) = ⊥

-- the trace of a set's run is put
abbrev pub PutsTrace : {D : Type 0} → Option (List ℕ) → Option (List ℕ) → Set D → Result (Unit {0}) Stop
    → Type 0
PutsTrace held now set (Ok done) = Appends held now (trace_put set)
PutsTrace held now set (Err Memory) = Keeps held now ⊎ PutsFirst held now set
PutsTrace held now set (Err WriteFault) = PutsPrefix AnyPrefix held now [] (trace_put set)
PutsTrace held now set (Err Usage) = ⊥
PutsTrace held now set (Err NoScript) = ⊥
PutsTrace held now set (Err ReadFault) = ⊥
PutsTrace held now set (Err TooLong) = ⊥
PutsTrace held now set (Err DiskFault) = ⊥
PutsTrace held now set (Err CopyFault) = ⊥
PutsTrace held now set (Err Refused) = ⊥

-- ---- a part

-- its lines are played, and then their replies put
pub record PlayedPart {D : Type 0} (part : Part) (held now : Option (List ℕ)) (old new : Set D) : Type 0 where
  pub added : List Event
  pub events : new.history ≡ old.history ++ added
  pub order : IsOrderOf part (map line_of added)
  pub replies : List (ℕ × Reply)
  pub told : GoesOn old.sizes old.history new.history replies
  pub put : Appends held now (flat_map line_text replies)
  pub whole : old.whole ≡ true → new.whole ≡ true

-- some first lines are played, and some first replies put: none before all lines are played
pub record CutPart {D : Type 0} (MayBe : ℕ → Type 0) (part : Part) (held now : Option (List ℕ))
    (old new : Set D) : Type 0 where
  pub added : List Event
  pub events : new.history ≡ old.history ++ added
  pub lines : List (ℕ × Command)
  pub order : IsOrderOf part lines
  pub front : map line_of added ≡ take (length added) lines
  pub replies : List (ℕ × Reply)
  pub told : GoesOn old.sizes old.history new.history replies
  pub put : PutsReplies MayBe held now replies
  pub waits : (map line_of added ≡ lines) ⊎ Keeps held now

abbrev pub PlaysPart : {D : Type 0} → Part → Option (List ℕ) → Option (List ℕ) → Set D → Set D
    → Result (Unit {0}) Stop → Type 0
PlaysPart part held now old new (Ok done) = PlayedPart part held now old new
PlaysPart part held now old new (Err Memory) = CutPart NoPrefix part held now old new
PlaysPart part held now old new (Err WriteFault) = CutPart AnyPrefix part held now old new
PlaysPart part held now old new (Err Usage) = ⊥
PlaysPart part held now old new (Err NoScript) = ⊥
PlaysPart part held now old new (Err ReadFault) = ⊥
PlaysPart part held now old new (Err TooLong) = ⊥
PlaysPart part held now old new (Err DiskFault) = ⊥
PlaysPart part held now old new (Err CopyFault) = ⊥
PlaysPart part held now old new (Err Refused) = ⊥

-- the disks are those that its events leave; if memory ran out, other commands may have used them
abbrev pub DisksGoBy : {D : Type 0} → (D → State) → Part → Set D → Set D → Type 0 → Type 0
DisksGoBy state part old new OutOfMemory =
    ((added : List Event) × (new.history ≡ old.history ++ added)
    × DisksPlay state (run old.sizes old.history).world added old.disks new.disks)
    ⊎ (OutOfMemory × SteppedSome state part old new)
