use Rattle.node_state.proofs.Inside.{rest_in}
use Rattle.node_state.proofs.WrittenLemmas.{state-aborted}
use Rattle.node_answers.proofs.writers.abort_open.Goals as goal

pub invariant_of-state : goal.invariant_of-state
invariant_of-state c =
    let s = c.state.inside in
    let aborted = c.abort.ensures.node in
    state-aborted s.node_data.node c.abort.new.self.node (rest_in s) c.args.writer aborted.0 s.unjournaled.optimes aborted.3 c.recall_sound.ensures.node c.state.invariant
