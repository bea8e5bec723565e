use Rattle.node_state.proofs.Inside.{rest_in}
use Rattle.node_messages.proofs.RollLemmas.{state-reached}
use Rattle.node_messages.proofs.rollback.reach.Goals as goal

pub invariant_of-state : goal.invariant_of-state
invariant_of-state g c =
    state-reached c.state.inside.node_data.node c.apply_to.new.self.node (rest_in c.state.inside) c.state.inside.node_data.spare c.apply_to.new.self.spare _ c.apply_to.result c.state.inside.unjournaled.optimes
    c.apply_to.ensures.ok c.apply_to.ensures.err c.state.invariant
