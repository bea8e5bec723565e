use Rattle.std.proofs.Common.{◌≡◌, take}
use Rattle.version_store.specs.Store.{shown_at}
use Rattle.node_answers.specs.Listing.{found_at}
use Rattle.node_answers.proofs.listing.found.Given as goal

abbrev pub invariant-loop-ns : goal.invariant-loop-ns
invariant-loop-ns l = l.documents ≡ found_at (λ place. shown_at l.store place l.at) (take l.ns-index l.places)
