use Rattle.std.proofs.Common.{◌∙◌, ap, sym}
use Rattle.member_config.specs.Config.{in_term}
use Rattle.set_model.specs.Roles.{is_primary}
use Rattle.set_model.specs.declared.records.Records.{Records}
use Rattle.set_model.specs.Stores.{records_after}
use Rattle.node_data.specs.NodeData.{NodeData}
use Rattle.node_state.specs.StateView.{StateView}
use Rattle.node_state.proofs.Inside.{rest_in}
use Rattle.node_state.proofs.StateLemmas.{primary_seen}
use Rattle.node_state.proofs.TermLemmas.{state-leading}
use Rattle.node_state.proofs.state.State.lead.Goals as goal

pub make_writable-requires-clause-role : goal.make_writable-requires-clause-role
make_writable-requires-clause-role c =
    primary_seen c.self.inside.node_data.node.role c.self.inside.role c.self.invariant.writable
    ∙ ap (λ (s : StateView). is_primary s.node.role) c.self.view_is ∙ ap is_primary c.requires.role

pub invariant_of-self : goal.invariant_of-self
invariant_of-self c =
    rw c.new.ensures
    (state-leading c.self.inside.node_data.node c.make_writable.new.self.node (rest_in c.self.inside) c.with-self-inside.result.list c.args.config c.self.inside.unjournaled.optimes
    (ap (λ (d : NodeData). d.node) c.make_writable.ensures) (c.requires.config ∙ ap (λ (s : StateView). in_term s.node.config s.node.term) (sym c.self.view_is))
    (ap (λ (r : Records). r.list) c.with-self-inside.ensures ∙ ap (records_after c.self.inside.records.list) c.requires.item) c.self.invariant)
