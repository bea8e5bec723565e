use Rattle.std.proofs.Common.{take, map}
use Rattle.version_store.specs.Listed.{HasPlaces}
use Rattle.version_store.specs.Shown.{place_of}
use Rattle.version_store.proofs.listing.places_of.Given as goal

abbrev pub invariant-loop-shown : goal.invariant-loop-shown
invariant-loop-shown l = HasPlaces l.places (map place_of (take l.shown-index l.documents))
