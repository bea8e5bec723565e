use Rattle.std.proofs.Common.{◌∙◌, ap, sym}
use Rattle.member_config.specs.Voters.{voters}
use Rattle.set_model.specs.Roles.{is_primary}
use Rattle.node_data.specs.NodeData.{data_role}
use Rattle.node_state.specs.StateView.{StateView}
use Rattle.node_state.proofs.Inside.{rest_in}
use Rattle.node_state.proofs.TermLemmas.{coherent-standing}
use Rattle.node_state.proofs.state.State.stand.Goals as goal

pub invariant_of-self : goal.invariant_of-self
invariant_of-self c = record {
  writable = c.self.invariant.writable ∙ ap (λ (s : StateView). data_role (is_primary s.node.role)) c.self.view_is ∙ ap (λ role. data_role (is_primary role)) c.requires.role;
  of_term = c.self.invariant.of_term;
  coherent = coherent-standing c.self.inside.node_data.node (rest_in c.self.inside) c.args.tally c.self.inside.tally c.self.inside.unjournaled.optimes
      (c.requires.counts ∙ ap (λ (s : StateView). voters s.node.config) (sym c.self.view_is)) c.self.invariant.coherent;
}
