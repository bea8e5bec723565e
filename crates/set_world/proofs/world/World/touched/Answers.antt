use Rattle.std.proofs.Common.{◌≡◌, ◌<◌, ap, arith, subst}
use Rattle.set_model.specs.Run.{run}
use Rattle.set_model.specs.World.{touched_node}
use Rattle.set_world.specs.World.{Set}
use Rattle.set_world.proofs.WorldLemmas.{receivers}
use Rattle.set_world.proofs.world.World.touched.Goals as goal

pub returns-clause-touched : goal.returns-clause-touched
returns-clause-touched g c =
    subst (λ (s : Set g.row.D.Denot). c.touched.result ≡ touched_node (run s.sizes s.history).world c.args.command.now) c.self.view_is
    (c.touched.ensures.touched (run (record { nodes = c.self.inside.size; voters = c.self.inside.voters; members = c.self.inside.members }) c.self.inside.history.items).world (ap (λ w. w.messages) c.self.invariant.0.reached.world))

pub returns-clause-known : goal.returns-clause-known
returns-clause-known g c =
    let all = receivers (record { nodes = c.self.inside.size; voters = c.self.inside.voters; members = c.self.inside.members }) c.self.inside.history.items c.self.inside.nodes.items c.self.inside.pool c.self.invariant.0 c.numbers_stay_small.ensures in
    let less : c.touched.result < c.self.inside.pool.nodes = c.touched.ensures.known all.0 all.1 in
    let size : c.self.inside.pool.nodes ≡ c.self.inside.size = c.self.invariant.0.size in
    let known : c.touched.result < c.self.inside.size = omega (arith, less, size) in
    subst (λ (s : Set g.row.D.Denot). c.touched.result < s.sizes.nodes) c.self.view_is known
