-- Events that several sets may share.
use Rattle.std.specs.Prelude.{List, map}
use Rattle.std.specs.declared.alloc.Global.{Global}
use Rattle.std.specs.declared.sync.Arc.{Arc}
use Rattle.set_model.specs.declared.command.Event.{Event}

abbrev pub values_of : List (Arc Event Global) → List Event
values_of events = map (λ (event : Arc Event Global). event.value) events
