use Rattle.std.proofs.Common.{◌≡◌, take}
use Rattle.std.specs.List.{All}
use Rattle.initial_sync.specs.Pinned.{listed_of}
use Rattle.sync_pin.proofs.PinLemmas.{IsOwn}
use Rattle.sync_pin.proofs.showing.keyed.Given as goal

abbrev pub invariant-loop-ns : goal.invariant-loop-ns
invariant-loop-ns l = (listed_of l.kept.items ≡ take l.ns-index l.documents) × All IsOwn l.kept.items
