use Rattle.std.proofs.Common.{Ok, ◌≡◌, ◌≤◌, ◌+◌, ◌*◌, ◌++◌, vec_len, vec_capacity}
use Rattle.std.specs.Prelude.{All}
use Rattle.rs_disk.specs.File.{IsEmpty}
use Rattle.set_model.specs.World.{nodes_from}
use Rattle.set_world.specs.Acting.{EachNodeStands}
use Rattle.set_world.specs.Disks.{Opens}
use Rattle.set_world.specs.World.{disks_in, nodes_in}
use Rattle.set_world.proofs.opening.open_nodes.Given as goal

-- this many nodes are opened, on the first disks
abbrev pub invariant-loop-number : goal.invariant-loop-number
invariant-loop-number g l =
    (nodes_in l.nodes.items ≡ nodes_from l.config 0 l.number)
    × (vec_len l.nodes ≡ l.number) × (l.count ≤ vec_capacity l.nodes)
    × (vec_len l.disks + 2 * l.number ≡ vec_len l.fn.disks) × (vec_capacity l.disks ≡ vec_capacity l.fn.disks)
    × All (λ disk. IsEmpty (g.D.Disk.state disk).file) l.disks.items
    × EachNodeStands g.D.Disk.state l.nodes.items
    × Opens g.D.Disk.state l.number (Ok tt) l.fn.disks.items (disks_in l.nodes.items ++ l.disks.items)
