use Rattle.std.proofs.Common.{◌≡◌, ◌∙◌, ap, nat_lt, ℕ, List, [], ◌∷◌}
use Rattle.oplog_entry.specs.Visible.{log_up_to}
use Rattle.oplog_entry.specs.declared.entry.Entry.{Entry}
use Rattle.repl_msg.specs.Logs.{log_after}
use Rattle.repl_msg.specs.declared.message.Body.TheVariants as bodies
use Rattle.set_model.specs.Node.{Node}
use Rattle.set_model.specs.Outcome.{message_to}
use Rattle.set_model.specs.Rollback.{common_reply, optimes_of}
use Rattle.node_data.specs.NodeData.{NodeData}
use Rattle.node_state.specs.Seen.{seen_node}
use Rattle.node_state.specs.StateView.{StateView}
use Rattle.node_messages.proofs.CommonLemmas.{common_body}
use Rattle.node_messages.proofs.ForeseenLemmas.{answered_is}
use Rattle.node_state.proofs.Inside.{rest_in}
use Rattle.node_messages.proofs.TakenLemmas.{foretold}
use Rattle.node_messages.proofs.TellLemmas.{told_after}
use Rattle.node_messages.proofs.rollback.prepare_common_asked.Goals as goal

pub returns-clause-told : goal.returns-clause-told
returns-clause-told c =
    let old = c.args.state.now.node in
    let term = c.args.message.now.term in
    let from = c.args.message.now.from in
    let raised = nat_lt old.term term in
    let same : seen_node c.optimes_between.new.self.node (rest_in c.state.inside) ≡ old =
    ap (λ (l : NodeData). seen_node l.node (rest_in c.state.inside)) c.optimes_between.ensures.same ∙ ap (λ (s : StateView). s.node) c.state.view_is in
    let body = bodies.CommonReply c.args.after c.in_ok-optimes_between.field-0 c.args.own.visible in
    foretold _ raised term _ old (seen_node c.optimes_between.new.self.node (rest_in c.state.inside))
    (answered_is raised term c.args.next from old c.in_ok-sent.sent.items body (λ n. common_reply n c.args.after)
    (c.in_ok-sent.ensures
    ∙ ap (λ (n : Node). message_to (record n { term = c.args.own.term }) from body ∷ []) same
    ∙ ap (λ (t : ℕ). message_to (record old { term = t }) from body ∷ []) c.requires.own.term_is)
    (common_body raised term old c.args.after c.args.own.visible c.in_ok-optimes_between.field-0
    (c.in_ok-optimes_between.ensures.list
    ∙ ap (λ (s : StateView). optimes_of (log_after c.args.after (log_up_to c.args.own.visible s.node.log))) c.state.view_is
    ∙ ap (λ (list : List Entry). optimes_of list) (told_after raised term old c.args.own.visible c.args.after c.recall_sound.ensures.sound.oplog c.requires.own.visible_is))
    c.requires.own.visible_is))
    same
