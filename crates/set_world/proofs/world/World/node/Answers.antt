use Rattle.std.proofs.Common.{◌≡◌, ◌∙◌, ◌<◌, ap, sym, subst, rules, length, Some, slice_get}
use Rattle.set_model.specs.Node.{Node}
use Rattle.set_model.specs.Run.{run}
use Rattle.set_world.specs.World.{Set}
use Rattle.set_world.proofs.WorldLemmas.{known_place, lent_node}
use Rattle.set_world.proofs.world.World.node.Goals as goal

pub index-requires : goal.index-requires
index-requires g c =
    let known : c.args.node < c.self.inside.size = search rules in
    let within : c.args.node < length c.self.inside.nodes.items =
    known_place (record { nodes = c.self.inside.size; voters = c.self.inside.voters; members = c.self.inside.members }) c.self.inside.history.items c.self.inside.nodes.items c.self.inside.pool c.self.invariant.0 c.numbers_stay_small.ensures c.args.node known in
    search rules

pub returns : goal.returns
returns g c =
    let known : c.args.node < c.self.inside.size = search rules in
    let within : c.args.node < length c.self.inside.nodes.items =
    known_place (record { nodes = c.self.inside.size; voters = c.self.inside.voters; members = c.self.inside.members }) c.self.inside.history.items c.self.inside.nodes.items c.self.inside.pool c.self.invariant.0 c.numbers_stay_small.ensures c.args.node known in
    subst (λ (s : Set g.row.D.Denot). slice_get (run s.sizes s.history).world.nodes c.args.node ≡ Some c.index.result.now.0) c.self.view_is
    (lent_node (record { nodes = c.self.inside.size; voters = c.self.inside.voters; members = c.self.inside.members }) c.self.inside.history.items c.self.inside.nodes.items c.self.inside.pool c.self.invariant.0 c.args.node c.index.result.now within
    ∙ ap (λ (n : Node × g.row.D.Denot × g.row.D.Denot). Some n.0) (sym c.index.ensures))
