use Rattle.std.proofs.Common.{◌∙◌, ap}
use Rattle.set_model.specs.Changes.{stepped_down}
use Rattle.node_data.specs.NodeData.{NodeData}
use Rattle.node_state.specs.StateView.{StateView}
use Rattle.node_state.proofs.Inside.{rest_in}
use Rattle.node_state.proofs.TermLemmas.{secondary_is, state-secondary}
use Rattle.node_state.proofs.state.State.be_secondary.Goals as goal

pub invariant_of-self : goal.invariant_of-self
invariant_of-self c =
    rw c.new.ensures
    (state-secondary c.self.inside.node_data.node c.follow.new.self.node (rest_in c.self.inside) c.self.inside.unjournaled.optimes
    (ap (λ (d : NodeData). d.node) c.follow.ensures) c.recall_sound.ensures.node c.self.invariant)

pub returns-clause-node : goal.returns-clause-node
returns-clause-node c =
    secondary_is c.self.inside.node_data.node c.follow.new.self.node (rest_in c.self.inside) c.new.result (ap (λ (d : NodeData). d.node) c.follow.ensures) c.new.ensures c.self.invariant.writable
    ∙ ap (λ (s : StateView). stepped_down s.node) c.self.view_is
