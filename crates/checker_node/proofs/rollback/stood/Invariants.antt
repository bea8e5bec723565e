use Rattle.std.proofs.Common.{◌≡◌, map}
use Rattle.std.specs.FinMap as maps
use Rattle.bson_doc.specs.Place.{Place}
use Rattle.checker_node.proofs.rollback.stood.Given as goal

abbrev pub invariant-loop-place : goal.invariant-loop-place
invariant-loop-place l = l.lost ≡ map (λ (place : Place). (place, maps.get l.shelf.documents place)) l.yielded
