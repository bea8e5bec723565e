-- What a watch does after a script.
use Rattle.std.specs.Prelude.{ℕ, true, Option, Result, Ok, Err, List}
use Rattle.set_model.specs.declared.command.Event.{Event}
use Rattle.set_model.specs.Run.{Sizes}
use Rattle.change_words.specs.declared.asked.Watch.{Watch}
use Rattle.change_words.specs.declared.refusal.WatchRefusal.{WatchRefusal}
use Rattle.change_watch.specs.declared.stop.WatchStop.TheVariants as watches
use Rattle.change_watch.specs.Following.{Follows}
use Rattle.set_program.specs.declared.stop.Stop.{Stop}
use Rattle.set_program.specs.declared.stop.Stop.TheVariants.{Memory, Usage, Script as NoScript, ReadFault, WriteFault, TooLong, DiskFault, CopyFault, Refused}

-- It asks its nodes after the script's events, up to the set's last one, and its lines are put after what the
-- sink held.
abbrev pub Watches : Watch → Sizes → List Event → Option (List ℕ) → Result (Unit {0}) Stop → List Event
    → Option (List ℕ) → Type 0
Watches watch sizes events new (Ok done) scripted told =
    Follows true sizes watch scripted events told new (Ok done)
Watches watch sizes events new (Err Refused) scripted told =
    (why : WatchRefusal) × Follows true sizes watch scripted events told new (Err (watches.Refused why))
Watches watch sizes events new (Err Memory) scripted told =
    Follows true sizes watch scripted events told new (Err watches.Memory)
Watches watch sizes events new (Err WriteFault) scripted told =
    Follows true sizes watch scripted events told new (Err watches.WriteFault)
Watches watch sizes events new (Err Usage) scripted told = ⊥
Watches watch sizes events new (Err NoScript) scripted told = ⊥
Watches watch sizes events new (Err ReadFault) scripted told = ⊥
Watches watch sizes events new (Err TooLong) scripted told = ⊥
Watches watch sizes events new (Err DiskFault) scripted told = ⊥
Watches watch sizes events new (Err CopyFault) scripted told = ⊥
