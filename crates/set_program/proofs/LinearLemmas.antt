-- A linear read after a script.
use Rattle.std.proofs.Common.{◌≡◌, ℕ, true, false, List, Option, Err}
use Rattle.set_model.specs.declared.command.Event.{Event}
use Rattle.set_model.specs.Run.{Sizes}
use Rattle.linear_words.specs.declared.asked.Linear.{Linear}
use Rattle.linear_tell.specs.declared.stop.LinearStop.{LinearStop}
use Rattle.linear_tell.specs.declared.stop.LinearStop.TheVariants as linears
use Rattle.linear_tell.specs.Telling.{Tells}
use Rattle.set_program.specs.declared.stop.Stop.{Stop}
use Rattle.set_program.specs.declared.stop.Stop.TheVariants.{Memory, Usage, Script as NoScript, ReadFault, WriteFault, TooLong, DiskFault, CopyFault, Refused}
use Rattle.set_program.specs.Causes.{of_linear}
use Rattle.set_program.specs.ReadingLinearly.{ReadsLinearly}
use Rattle.set_program.proofs.AfterScriptLemmas.{stops_work}

pub linear_stops : (linear : Linear) (sizes : Sizes) (scripted events : List Event) (told new : Option (List ℕ)) (stop : LinearStop) → Tells true sizes linear scripted events told new (Err stop)
    → ReadsLinearly linear sizes events new (Err (of_linear stop)) scripted told
linear_stops linear sizes scripted events told new linears.Refused tells = tells
linear_stops linear sizes scripted events told new linears.WriteFault tells = tells
linear_stops linear sizes scripted events told new linears.Memory tells = tells

-- it stops in no other way
pub only_linear : (linear : Linear) (stop : Stop) → stops_work stop ≡ false → (sizes : Sizes) (events scripted : List Event) (new told : Option (List ℕ)) → ReadsLinearly linear sizes events new (Err stop) scripted told → ⊥
only_linear linear Memory other sizes events scripted new told works = cc other
only_linear linear WriteFault other sizes events scripted new told works = cc other
only_linear linear Refused other sizes events scripted new told works = cc other
only_linear linear Usage other sizes events scripted new told works = works
only_linear linear NoScript other sizes events scripted new told works = works
only_linear linear ReadFault other sizes events scripted new told works = works
only_linear linear TooLong other sizes events scripted new told works = works
only_linear linear DiskFault other sizes events scripted new told works = works
only_linear linear CopyFault other sizes events scripted new told works = works
