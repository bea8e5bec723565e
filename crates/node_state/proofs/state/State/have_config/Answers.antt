use Rattle.std.proofs.Common.{◌∙◌, ap, sym}
use Rattle.set_model.specs.declared.records.Records.{Records}
use Rattle.set_model.specs.Stores.{records_after}
use Rattle.node_state.specs.StateView.{StateView}
use Rattle.node_state.proofs.ChangeLemmas.{coherent-configured}
use Rattle.node_state.proofs.Inside.{rest_in}
use Rattle.node_state.proofs.state.State.have_config.Goals as goal

pub invariant_of-self : goal.invariant_of-self
invariant_of-self c = record {
  writable = c.self.invariant.writable;
  of_term = c.self.invariant.of_term;
  coherent = coherent-configured c.self.inside.node_data.node (rest_in c.self.inside) c.with-self-inside.result.list c.args.config c.self.inside.tally c.self.inside.unjournaled.optimes
      (ap (λ (r : Records). r.list) c.with-self-inside.ensures ∙ ap (records_after c.self.inside.records.list) c.requires.item)
      c.requires.lawful (λ same. c.requires.role (ap (λ (s : StateView). s.node.role) (sym c.self.view_is) ∙ same)) c.self.invariant.coherent;
}
