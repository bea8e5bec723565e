use Rattle.std.proofs.Common.{◌∙◌, ap, rules, sym, subst}
use Rattle.rs_optime.specs.Later.{later_of}
use Rattle.rs_optime.specs.declared.optime.OpTime.{OpTime}
use Rattle.oplog_entry.specs.Visible.{last_of, log_up_to}
use Rattle.set_model.specs.Points.{last_point}
use Rattle.set_model.specs.Roles.{is_primary}
use Rattle.node_state.specs.Coherent.{IsState}
use Rattle.node_data.specs.NodeData.{NodeData}
use Rattle.node_state.specs.Seen.{seen_node}
use Rattle.node_state.specs.StateView.{StateView}
use Rattle.node_state.proofs.Inside.{rest_in}
use Rattle.node_state.proofs.AppliedLemmas.{applied_all}
use Rattle.node_state.proofs.CoherentLemmas.{state-applied}
use Rattle.node_state.proofs.StateLemmas.{primary_seen}
use Rattle.node_state.proofs.state.State.apply_all.Goals as goal

pub apply_to-requires : goal.apply_to-requires
apply_to-requires g c = (
  search rules,
  primary_seen c.self.inside.node_data.node.role c.self.inside.role c.self.invariant.writable
      ∙ ap (λ (s : StateView). is_primary s.node.role) c.self.view_is ∙ c.requires.role,
)

pub invariant_of-self : goal.invariant_of-self
invariant_of-self g c =
    subst (λ (d : NodeData). IsState d.node (rest_in c.self.inside) c.self.inside.unjournaled.optimes) (sym c.in_err-apply_to.ensures.err) c.self.invariant

pub invariant_of-self-2 : goal.invariant_of-self-2
invariant_of-self-2 g c =
    subst (λ (d : NodeData). IsState d.node (rest_in c.self.inside) c.self.inside.unjournaled.optimes) (sym c.in_ok-apply_to.ensures.ok)
    (state-applied c.self.inside.node_data.node (rest_in c.self.inside) c.self.inside.unjournaled.optimes _ c.self.invariant)

pub returns-clause-ok : goal.returns-clause-ok
returns-clause-ok g c =
    let n = c.self.inside.node_data.node in
    ap (λ (d : NodeData). seen_node d.node (rest_in c.self.inside)) c.in_ok-apply_to.ensures.ok
    ∙ ap (λ (at : OpTime). record (seen_node n (rest_in c.self.inside)) { applied = at })
    (ap (λ (to : OpTime). later_of n.applied (last_of (log_up_to to n.log))) c.last-last.ensures ∙ applied_all n c.recall_sound.ensures.node)
    ∙ ap (λ (s : StateView). record s.node { applied = last_point s.node }) c.self.view_is
