use Rattle.std.proofs.Common.{◌++◌, subst}
use Rattle.set_world.specs.Disks.{AllStand}
use Rattle.set_world.specs.World.{Set, disks_in}
use Rattle.set_world.proofs.DiskLemmas.{all_stand}
use Rattle.set_world.proofs.world.World.recall_stands.Goals as goal

pub returns : goal.returns
returns g c =
    subst (λ (s : Set g.row.D.Denot). AllStand g.D.Disk.state s) c.self.view_is
    (all_stand g.D.Disk.state (record { nodes = c.self.inside.size; voters = c.self.inside.voters; members = c.self.inside.members }) c.self.inside.history.items c.self.inside.nodes.items c.self.inside.idle.items (disks_in c.self.inside.first_nodes.value.items ++ c.self.inside.first_idle.value.items) c.self.inside.whole c.self.inside.pool.messages
    c.self.invariant.0.reached.world c.self.invariant.2)
