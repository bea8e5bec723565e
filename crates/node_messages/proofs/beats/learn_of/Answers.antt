use Rattle.std.proofs.Common.{◌∙◌, ap, sym}
use Rattle.node_messages.specs.HeardBeats.{commit_learnt}
use Rattle.node_state.specs.StateView.{StateView}
use Rattle.node_messages.proofs.HearLemmas.{coherent-learnt}
use Rattle.node_state.proofs.Inside.{rest_in}
use Rattle.node_messages.proofs.beats.learn_of.Goals as goal

pub invariant_of-state : goal.invariant_of-state
invariant_of-state c = record {
  writable = c.state.invariant.writable;
  of_term = c.state.invariant.of_term;
  coherent = coherent-learnt c.state.inside.node_data.node (rest_in c.state.inside) c.commit_after-state-inside.result c.args.hearing.now.commit c.set.new.self.heard c.state.inside.tally c.state.inside.unjournaled.optimes
      (c.commit_after-state-inside.ensures
      ∙ ap (λ (s : StateView). commit_learnt (record s.node { role = c.state.inside.role }) c.args.hearing.now.commit) (sym c.state.view_is)) c.state.invariant.coherent;
}
