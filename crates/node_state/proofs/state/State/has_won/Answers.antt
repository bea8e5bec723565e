use Rattle.std.proofs.Common.{◌∙◌, ap}
use Rattle.set_model.specs.Roles.{is_primary}
use Rattle.set_model.specs.declared.role.Role.TheVariants.{Draining}
use Rattle.node_data.specs.NodeData.{data_role}
use Rattle.node_state.specs.StateView.{StateView}
use Rattle.node_state.proofs.Inside.{rest_in}
use Rattle.node_state.proofs.TermLemmas.{coherent-role}
use Rattle.node_state.proofs.state.State.has_won.Goals as goal

pub invariant_of-self : goal.invariant_of-self
invariant_of-self c = record {
  writable = c.self.invariant.writable ∙ ap (λ (s : StateView). data_role (is_primary s.node.role)) c.self.view_is ∙ ap (λ role. data_role (is_primary role)) c.requires.role;
  of_term = c.self.invariant.of_term;
  coherent = coherent-role c.self.inside.node_data.node (rest_in c.self.inside) Draining c.self.inside.unjournaled.optimes (λ same. cc same) c.self.invariant.coherent;
}
