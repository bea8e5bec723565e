use Rattle.std.proofs.Common.{◌≡◌, ◌∙◌, ap, nat_lt, sym, subst, length, Option}
use Rattle.oplog_store.specs.Log.{IsOplog}
use Rattle.repl_msg.specs.Logs.{log_after}
use Rattle.repl_msg.specs.Rollback.{common_point}
use Rattle.set_model.specs.declared.reply.Ignored.{Ignored}
use Rattle.set_model.specs.Node.{Node}
use Rattle.set_model.specs.Reads.{local_documents}
use Rattle.set_model.specs.Rollback.{common_told, lost_documents, rollback_reason}
use Rattle.node_data.specs.NodeData.{NodeData}
use Rattle.node_messages.specs.Ahead.{IsPreparedFor, taking}
use Rattle.node_state.specs.Ready.{IsCut}
use Rattle.node_messages.specs.Rolling.{point_or, reached}
use Rattle.node_state.specs.Seen.{seen_node}
use Rattle.node_state.specs.StateView.{StateView}
use Rattle.node_state.specs.declared.turn.MessageContinuation.TheVariants as message_continuations
use Rattle.node_state.proofs.Inside.{rest_in}
use Rattle.node_messages.proofs.RollLemmas.{a_reason, no_reason, reason_as, ignored_tells, rolled_tells, can_cut}
use Rattle.node_messages.proofs.rollback.prepare_common_told.Goals as goal

pub returns-in-Err-clause-told : goal.returns-in-Err-clause-told
returns-in-Err-clause-told g c =
    let old = c.args.state.now.node in
    let term = c.args.message.now.term in
    let raised = nat_lt old.term term in
    let same = reason_as raised term old c.args.after c.args.optimes.now c.args.visible c.args.own.term c.args.own.role c.requires.own.term_is c.requires.own.role_is in
    subst (IsPreparedFor (message_continuations.Ignored c.in-Err.why) raised term (λ (node : Node). common_told node term c.args.after c.args.optimes.now c.args.visible) old)
    (ap (λ (s : StateView). s.node) (sym c.rollback_point.ensures.same))
    (ignored_tells raised term old c.args.after c.args.optimes.now c.args.visible c.in-Err.why
    (a_reason (rollback_reason (taking raised term old) term c.args.after c.args.optimes.now c.args.visible) (common_point old.log c.args.after c.args.optimes.now) c.in-Err.why (c.in-Err.ensures.point ∙ ap (λ (r : Option Ignored). point_or r (common_point old.log c.args.after c.args.optimes.now)) same)))

pub returns-clause-told : goal.returns-clause-told
returns-clause-told g c =
    let old = c.args.state.now.node in
    let term = c.args.message.now.term in
    let raised = nat_lt old.term term in
    let same = reason_as raised term old c.args.after c.args.optimes.now c.args.visible c.args.own.term c.args.own.role c.requires.own.term_is c.requires.own.role_is in
    let found = no_reason (rollback_reason (taking raised term old) term c.args.after c.args.optimes.now c.args.visible) (common_point old.log c.args.after c.args.optimes.now) c.in-Ok.point (c.in-Ok.ensures.point ∙ ap (λ (r : Option Ignored). point_or r (common_point old.log c.args.after c.args.optimes.now)) same) in
    let oplog : IsOplog old.log = subst (λ (s : StateView). IsOplog s.node.log) c.state.view_is c.recall_sound.ensures.node.oplog in
    let counted : seen_node c.count_after-removed.new.self.node (rest_in c.state-2.inside) ≡ old =
    ap (λ (l : NodeData). seen_node l.node (rest_in c.state-2.inside)) c.count_after-removed.ensures.same ∙ ap (λ (s : StateView). s.node) (c.state-2.view_is ∙ c.rollback_point.ensures.same) in
    let left : c.lost_after.new.state.node ≡ old = ap (λ (s : StateView). s.node) c.lost_after.ensures.same ∙ counted in
    subst (IsPreparedFor (message_continuations.RolledBack c.in-Ok.point c.count_after-removed.result c.in_ok-lost.lost) raised term
    (λ (node : Node). common_told node term c.args.after c.args.optimes.now c.args.visible) old)
    (sym (c.in_ok-reach.ensures.ok ∙ ap (λ (n : Node). reached n c.in-Ok.point) left))
    (rolled_tells raised term old (reached old c.in-Ok.point).applied c.args.after c.args.optimes.now c.args.visible c.in-Ok.point c.count_after-removed.result c.in_ok-lost.lost oplog found.0 found.1
    (c.count_after-removed.ensures.count ∙ ap (λ (s : StateView). length (log_after c.in-Ok.point s.node.log)) (c.state-2.view_is ∙ c.rollback_point.ensures.same))
    (c.in_ok-lost.ensures.lost ∙ ap (λ (n : Node). lost_documents (local_documents n) (log_after c.in-Ok.point n.log)) counted))

pub returns-clause-ready : goal.returns-clause-ready
returns-clause-ready g c =
    let old = c.args.state.now.node in
    let term = c.args.message.now.term in
    let raised = nat_lt old.term term in
    let same = reason_as raised term old c.args.after c.args.optimes.now c.args.visible c.args.own.term c.args.own.role c.requires.own.term_is c.requires.own.role_is in
    let found = no_reason (rollback_reason (taking raised term old) term c.args.after c.args.optimes.now c.args.visible) (common_point old.log c.args.after c.args.optimes.now) c.in-Ok.point (c.in-Ok.ensures.point ∙ ap (λ (r : Option Ignored). point_or r (common_point old.log c.args.after c.args.optimes.now)) same) in
    let oplog : IsOplog old.log = subst (λ (s : StateView). IsOplog s.node.log) c.state.view_is c.recall_sound.ensures.node.oplog in
    let counted : seen_node c.count_after-removed.new.self.node (rest_in c.state-2.inside) ≡ old =
    ap (λ (l : NodeData). seen_node l.node (rest_in c.state-2.inside)) c.count_after-removed.ensures.same ∙ ap (λ (s : StateView). s.node) (c.state-2.view_is ∙ c.rollback_point.ensures.same) in
    let left : c.lost_after.new.state.node ≡ old = ap (λ (s : StateView). s.node) c.lost_after.ensures.same ∙ counted in
    subst (λ (n : Node). IsCut c.in-Ok.point (taking raised term n)) (sym (c.in_ok-reach.ensures.ok ∙ ap (λ (n : Node). reached n c.in-Ok.point) left))
    (can_cut raised term old c.args.after c.args.optimes.now c.args.visible c.in-Ok.point oplog found.0 found.1 (c.requires.common found.0) c.requires.bounds.rollback)
