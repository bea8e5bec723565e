use Rattle.node_state.proofs.CommitLemmas.{coherent-advanced}
use Rattle.node_state.proofs.Inside.{rest_in}
use Rattle.node_state.proofs.state.State.evaluate.Goals as goal

pub invariant_of-self : goal.invariant_of-self
invariant_of-self c = record {
  writable = c.self.invariant.writable;
  of_term = c.self.invariant.of_term;
  coherent = coherent-advanced c.self.inside.node_data.node (rest_in c.self.inside) c.advance-self-inside.result c.self.inside.term c.self.inside.tally c.self.inside.unjournaled.optimes
      c.advance-self-inside.ensures c.self.invariant.coherent;
}
