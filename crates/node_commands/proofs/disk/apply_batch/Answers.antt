use Rattle.std.proofs.Common.{◌≡◌, ◌∙◌, ap, sym, subst, false}
use Rattle.set_model.specs.Disk.{apply, next_batch}
use Rattle.set_model.specs.Roles.{is_primary}
use Rattle.set_model.specs.Stores.{finished}
use Rattle.set_model.specs.declared.reply.Reply.TheVariants as reply
use Rattle.node_state.specs.Coherent.{IsState}
use Rattle.node_data.specs.NodeData.{NodeData, applied_after}
use Rattle.node_state.specs.Seen.{seen_node}
use Rattle.node_state.specs.StateView.{StateView}
use Rattle.node_state.proofs.Inside.{rest_in}
use Rattle.node_commands.proofs.KeepLemmas.{apply-done}
use Rattle.node_state.proofs.CoherentLemmas.{state-applied}
use Rattle.node_state.proofs.StateLemmas.{primary_seen}
use Rattle.node_state.proofs.TurnLemmas.{says_means}
use Rattle.node_commands.proofs.disk.apply_batch.Goals as goal

pub apply-requires-clause-role : goal.apply-requires-clause-role
apply-requires-clause-role g c κs within =
    primary_seen c.state.inside.node_data.node.role c.state.inside.role c.state.invariant.writable ∙ ap (λ (x : StateView). is_primary x.node.role) c.state.view_is ∙ c.requires.role

pub invariant_of-state-2 : goal.invariant_of-state-2
invariant_of-state-2 g c =
    let s = c.state.inside in
    subst (λ (l : NodeData). IsState l.node (rest_in s) s.unjournaled.optimes) (sym c.in_ok-count.ensures.ok)
    (state-applied s.node_data.node (rest_in s) s.unjournaled.optimes (applied_after s.node_data.node.applied (next_batch s.node_data.node)) c.state.invariant)

pub returns-clause-turn : goal.returns-clause-turn
returns-clause-turn g c =
    let s = c.state.inside in
    let not = subst (λ (x : StateView). is_primary x.node.role ≡ false) (sym c.state.view_is) c.requires.role in
    says_means c.answered.result (reply.Applied c.in_ok-count.count c.applied-to.result) (seen_node c.apply.new.self.node (rest_in s)) (finished (apply c.args.state.now.node)) c.answered.ensures
    (ap (λ (x : StateView). finished (apply x.node)) (sym c.state.view_is)
    ∙ ap finished (apply-done s.node_data c.apply.new.self (rest_in s) c.in_ok-count.count c.applied-to.result not c.in_ok-count.ensures.ok c.in_ok-count.ensures.count c.if-count-eq0.false c.applied-to.ensures))
