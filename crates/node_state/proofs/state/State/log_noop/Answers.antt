use Rattle.std.proofs.Common.{◌∙◌, ap, sym, subst, List, None}
use Rattle.rs_optime.specs.declared.optime.OpTime.{OpTime}
use Rattle.oplog_entry.specs.declared.entry.Op.TheVariants.{Noop}
use Rattle.oplog_store.specs.Unjournaled.{Optimes}
use Rattle.set_model.specs.Points.{next_optime}
use Rattle.node_data.specs.NodeData.{NodeData}
use Rattle.node_state.specs.Coherent.{IsState}
use Rattle.node_state.specs.StateView.{StateView}
use Rattle.node_state.proofs.Inside.{rest_in}
use Rattle.node_state.proofs.StateLemmas.{is_next, primary_data}
use Rattle.node_state.proofs.WrittenLemmas.{state-logged}
use Rattle.node_state.proofs.state.State.log_noop.Goals as goal

pub append_noop-requires-clause-role : goal.append_noop-requires-clause-role
append_noop-requires-clause-role c =
    primary_data c.self.inside.node_data.node.role c.self.inside.role c.self.invariant.writable
    (ap (λ (s : StateView). s.node.role) c.self.view_is ∙ c.requires.role)

pub append_noop-requires-clause-next : goal.append_noop-requires-clause-next
append_noop-requires-clause-next c =
    is_next c.self.inside.node_data.node (rest_in c.self.inside) c.next-at.result c.self.invariant.of_term
    (c.next-at.ensures.at ∙ ap (λ (s : StateView). next_optime s.node) (sym c.self.view_is))

pub invariant_of-self : goal.invariant_of-self
invariant_of-self c =
    subst (λ (optimes : List OpTime). IsState c.append_noop.new.self.node (rest_in c.self.inside) optimes) (sym (ap (λ (u : Optimes). u.optimes) c.add.ensures))
    (state-logged c.self.inside.node_data.node c.append_noop.new.self.node (rest_in c.self.inside) c.next-at.result Noop None c.self.inside.unjournaled.optimes
    (ap (λ (d : NodeData). d.node) c.append_noop.ensures) (c.next-at.ensures.at ∙ ap (λ (s : StateView). next_optime s.node) (sym c.self.view_is))
    c.recall_sound.ensures.node c.recall_sound-2.ensures.node c.self.invariant)
