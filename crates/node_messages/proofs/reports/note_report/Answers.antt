use Rattle.node_state.specs.Seen.{seen_node}
use Rattle.node_messages.proofs.HearLemmas.{coherent-tables}
use Rattle.node_state.proofs.Inside.{rest_in}
use Rattle.node_messages.proofs.reports.note_report.Goals as goal

pub invariant_of-state : goal.invariant_of-state
invariant_of-state c = record {
  writable = c.state.invariant.writable;
  of_term = c.state.invariant.of_term;
  coherent = coherent-tables (seen_node c.state.inside.node_data.node (rest_in c.state.inside)) c.note.new.self c.state.inside.known.heard c.state.inside.tally c.state.inside.unjournaled.optimes
      c.state.invariant.coherent;
}
