-- What is put of a text.
use Rattle.std.specs.Prelude.{ℕ, List, take, Option, Result, Ok, Err}
use Rattle.std.specs.Io.KnownBytes.{Appends, Keeps}
use Rattle.sync_words.specs.declared.stop.SyncStop.{SyncStop}
use Rattle.sync_words.specs.declared.stop.SyncStop.TheVariants.{Refused, DiskFault, WriteFault, Memory}

-- all of it; a prefix if the sink fails; nothing if it is never reached
abbrev pub PutsText : Option (List ℕ) → Option (List ℕ) → List ℕ → Result (Unit {0}) SyncStop → Type 0
PutsText held now text (Ok done) = Appends held now text
PutsText held now text (Err (Refused why)) = ⊥
PutsText held now text (Err DiskFault) = Keeps held now
PutsText held now text (Err WriteFault) = (count : ℕ) × Appends held now (take count text)
PutsText held now text (Err Memory) = Keeps held now
