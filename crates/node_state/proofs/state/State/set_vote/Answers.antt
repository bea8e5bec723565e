use Rattle.std.proofs.Common.{◌∙◌, ap, sym, Some}
use Rattle.set_model.specs.declared.records.Records.{Records}
use Rattle.set_model.specs.Stores.{records_after, vote_record}
use Rattle.node_state.specs.StateView.{StateView}
use Rattle.node_state.proofs.Inside.{rest_in}
use Rattle.node_state.proofs.TermLemmas.{coherent-voted}
use Rattle.node_state.proofs.state.State.set_vote.Goals as goal

pub invariant_of-self : goal.invariant_of-self
invariant_of-self c = record {
  writable = c.self.invariant.writable;
  of_term = c.self.invariant.of_term;
  coherent = coherent-voted c.self.inside.node_data.node (rest_in c.self.inside) c.with-self-inside.result.list c.args.vote c.self.inside.tally c.self.inside.unjournaled.optimes
      (ap (λ (r : Records). r.list) c.with-self-inside.ensures
      ∙ ap (records_after c.self.inside.records.list) (c.requires.item ∙ ap (λ (s : StateView). vote_record s.node.term (Some c.args.vote)) (sym c.self.view_is)))
      c.requires.vote c.self.invariant.coherent;
}
