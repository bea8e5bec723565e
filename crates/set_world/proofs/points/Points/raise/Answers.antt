use Rattle.std.proofs.Common.{◌∙◌, ap, length, sym, subst}
use Rattle.set_model.specs.Node.{Node}
use Rattle.set_model.specs.Pointed.{committed}
use Rattle.set_world.specs.Points.{IsRaised}
use Rattle.set_world.specs.World.{nodes_in}
use Rattle.set_world.proofs.PointedLemmas.{raised_here}
use Rattle.set_world.proofs.points.Points.raise.Goals as goal

pub returns-clause-raised : goal.returns-clause-raised
returns-clause-raised g c =
    subst (λ old. IsRaised c.args.node (nodes_in c.args.nodes.now) old c.lift.new.numbers.items) c.self.view_is
    (raised_here c.args.nodes.now c.self.inside.numbers.items c.lift.new.numbers.items c.args.node c.committed-count.result c.index-nodes-place.result
    (ap length c.self.view_is ∙ c.requires.size) c.requires.known c.index-nodes-place.is
    (c.committed-count.ensures.count ∙ ap (λ (n : Node × g.row.D.Denot × g.row.D.Denot). committed n.0) (sym c.index-nodes-place.is))
    c.lift.ensures.size c.lift.ensures.here c.lift.ensures.others)
