use Rattle.std.proofs.Common.{◌≡◌, take}
use Rattle.std.specs.Prelude.{map}
use Rattle.set_world.specs.World.{nodes_in}
use Rattle.transcript.specs.Summaries.{points_of}
use Rattle.set_program.proofs.summary.points.Given as goal

abbrev pub invariant-loop-node : goal.invariant-loop-node
invariant-loop-node g l = l.points ≡ map points_of (nodes_in (take l.node-index l.nodes))
