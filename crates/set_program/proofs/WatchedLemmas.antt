-- A watch after a script.
use Rattle.std.proofs.Common.{◌≡◌, ℕ, true, false, List, Option, Err}
use Rattle.set_model.specs.declared.command.Event.{Event}
use Rattle.set_model.specs.Run.{Sizes}
use Rattle.change_words.specs.declared.asked.Watch.{Watch}
use Rattle.change_watch.specs.declared.stop.WatchStop.{WatchStop}
use Rattle.change_watch.specs.declared.stop.WatchStop.TheVariants as watches
use Rattle.change_watch.specs.Following.{Follows as Asks}
use Rattle.set_program.specs.declared.stop.Stop.{Stop}
use Rattle.set_program.specs.declared.stop.Stop.TheVariants.{Memory, Usage, Script as NoScript, ReadFault, WriteFault, TooLong, DiskFault, CopyFault, Refused}
use Rattle.set_program.specs.Causes.{of_watch}
use Rattle.set_program.specs.Watching.{Watches}
use Rattle.set_program.proofs.AfterScriptLemmas.{stops_work}

pub watch_stops : (watch : Watch) (sizes : Sizes) (scripted events : List Event) (told new : Option (List ℕ)) (stop : WatchStop) → Asks true sizes watch scripted events told new (Err stop)
    → Watches watch sizes events new (Err (of_watch stop)) scripted told
watch_stops watch sizes scripted events told new (watches.Refused why) asks = (why, asks)
watch_stops watch sizes scripted events told new watches.WriteFault asks = asks
watch_stops watch sizes scripted events told new watches.Memory asks = asks

-- it stops in no other way
pub only_watched : (watch : Watch) (stop : Stop) → stops_work stop ≡ false → (sizes : Sizes) (events scripted : List Event) (new told : Option (List ℕ)) → Watches watch sizes events new (Err stop) scripted told → ⊥
only_watched watch Memory other sizes events scripted new told works = cc other
only_watched watch WriteFault other sizes events scripted new told works = cc other
only_watched watch Refused other sizes events scripted new told works = cc other
only_watched watch Usage other sizes events scripted new told works = works
only_watched watch NoScript other sizes events scripted new told works = works
only_watched watch ReadFault other sizes events scripted new told works = works
only_watched watch TooLong other sizes events scripted new told works = works
only_watched watch DiskFault other sizes events scripted new told works = works
only_watched watch CopyFault other sizes events scripted new told works = works
