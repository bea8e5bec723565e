use Rattle.std.proofs.Common.{◌≡◌, ◌++◌, ◌+◌, ◌*◌, vec_len}
use Rattle.set_world.specs.World.{CanTakeBack, disks_in}
use Rattle.set_world.proofs.opening.give_back.Given as goal

abbrev pub decreases-loop-node : goal.decreases-loop-node
decreases-loop-node g l = vec_len l.nodes

abbrev pub invariant-loop-node : goal.invariant-loop-node
invariant-loop-node g l =
    (disks_in l.nodes.items ++ l.disks.items ≡ disks_in l.fn.nodes.items ++ l.fn.disks.items)
    × CanTakeBack (vec_len l.nodes) l.disks × (2 * vec_len l.nodes + vec_len l.disks ≡ 2 * vec_len l.fn.nodes + vec_len l.fn.disks)
