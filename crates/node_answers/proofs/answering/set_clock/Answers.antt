use Rattle.node_state.proofs.CoherentLemmas.{state-clock}
use Rattle.node_state.proofs.Inside.{rest_in}
use Rattle.node_answers.proofs.answering.set_clock.Goals as goal

pub invariant_of-state : goal.invariant_of-state
invariant_of-state c = state-clock c.state.inside.node_data.node (rest_in c.state.inside) c.state.inside.unjournaled.optimes c.args.seconds c.state.invariant
