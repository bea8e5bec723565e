use Rattle.std.proofs.Common.{subst}
use Rattle.node_state.specs.StateView.{StateView}
use Rattle.node_state.specs.WellKept.{IsWellKept}
use Rattle.node_state.proofs.Inside.{rest_in}
use Rattle.node_state.proofs.StoredLemmas.{well_in_memory}
use Rattle.node_state.proofs.state.State.recall_well_kept.Goals as goal

pub returns : goal.returns
returns c =
    subst (λ (s : StateView). IsWellKept s.node.records s.node.stable) c.self.view_is
    (well_in_memory c.self.inside.node_data.node (rest_in c.self.inside) c.self.inside.unjournaled.optimes c.recall_sound.ensures.node c.self.invariant)
