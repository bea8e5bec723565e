use Rattle.std.proofs.Common.{◌∙◌, ap}
use Rattle.set_model.specs.Points.{applied_point}
use Rattle.node_state.specs.StateView.{StateView}
use Rattle.node_state.proofs.Inside.{rest_in}
use Rattle.node_state.proofs.StateLemmas.{applied_seen}
use Rattle.node_state.proofs.state.State.applied_point.Goals as goal

pub returns : goal.returns
returns c =
    let s = c.self.inside in
    c.applied_point.ensures ∙ applied_seen s.node_data.node (rest_in s) c.self.invariant.writable ∙ ap (λ (x : StateView). applied_point x.node) c.self.view_is
