use Rattle.node_state.proofs.Inside.{rest_in}
use Rattle.node_messages.proofs.JoinedLemmas.{coherent-source}
use Rattle.node_messages.proofs.fetching.learn_from.Goals as goal

pub invariant_of-state : goal.invariant_of-state
invariant_of-state c = record {
  writable = c.state.invariant.writable;
  of_term = c.state.invariant.of_term;
  coherent = coherent-source c.state.inside.node_data.node (rest_in c.state.inside) c.learn-state-inside.result c.args.commit c.set.new.self.heard c.state.inside.tally c.state.inside.unjournaled.optimes
      c.learn-state-inside.ensures c.state.invariant.coherent;
}
