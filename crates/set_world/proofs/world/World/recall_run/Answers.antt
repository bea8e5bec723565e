use Rattle.std.proofs.Common.{◌≡◌, ◌∙◌, ap, length, subst}
use Rattle.set_model.specs.Run.{run}
use Rattle.set_model.specs.World.{World}
use Rattle.set_world.specs.World.{Set, nodes_in}
use Rattle.set_world.proofs.WorldLemmas.{as_many}
use Rattle.set_world.proofs.world.World.recall_run.Goals as goal

pub returns-clause-count : goal.returns-clause-count
returns-clause-count g c =
    subst (λ (s : Set g.row.D.Denot). length (run s.sizes s.history).world.nodes ≡ s.sizes.nodes) c.self.view_is
    (ap (λ (w : World). length w.nodes) c.self.invariant.0.reached.world
    ∙ as_many (record { nodes = c.self.inside.size; voters = c.self.inside.voters; members = c.self.inside.members }) c.self.inside.history.items (nodes_in c.self.inside.nodes.items) c.self.inside.pool.messages c.self.invariant.0.reached c.numbers_stay_small.ensures)
