-- What a linear read does after a script.
use Rattle.std.specs.Prelude.{ℕ, true, Option, Result, Ok, Err, List}
use Rattle.set_model.specs.declared.command.Event.{Event}
use Rattle.set_model.specs.Run.{Sizes}
use Rattle.linear_words.specs.declared.asked.Linear.{Linear}
use Rattle.linear_tell.specs.declared.stop.LinearStop.TheVariants as linears
use Rattle.linear_tell.specs.Telling.{Tells}
use Rattle.set_program.specs.declared.stop.Stop.{Stop}
use Rattle.set_program.specs.declared.stop.Stop.TheVariants.{Memory, Usage, Script as NoScript, ReadFault, WriteFault, TooLong, DiskFault, CopyFault, Refused}

-- Its commands come after the script's events and up to the set's last one, and the line of the result is put
-- after what the sink held.
abbrev pub ReadsLinearly : Linear → Sizes → List Event → Option (List ℕ) → Result (Unit {0}) Stop → List Event
    → Option (List ℕ) → Type 0
ReadsLinearly linear sizes events new (Ok done) scripted told =
    Tells true sizes linear scripted events told new (Ok done)
ReadsLinearly linear sizes events new (Err Refused) scripted told =
    Tells true sizes linear scripted events told new (Err linears.Refused)
ReadsLinearly linear sizes events new (Err Memory) scripted told =
    Tells true sizes linear scripted events told new (Err linears.Memory)
ReadsLinearly linear sizes events new (Err WriteFault) scripted told =
    Tells true sizes linear scripted events told new (Err linears.WriteFault)
ReadsLinearly linear sizes events new (Err Usage) scripted told = ⊥
ReadsLinearly linear sizes events new (Err NoScript) scripted told = ⊥
ReadsLinearly linear sizes events new (Err ReadFault) scripted told = ⊥
ReadsLinearly linear sizes events new (Err TooLong) scripted told = ⊥
ReadsLinearly linear sizes events new (Err DiskFault) scripted told = ⊥
ReadsLinearly linear sizes events new (Err CopyFault) scripted told = ⊥
