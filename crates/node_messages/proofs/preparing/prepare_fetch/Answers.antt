use Rattle.std.proofs.Common.{◌≡◌, ◌∙◌, ap, subst, nat_lt, ℕ, [], ◌∷◌}
use Rattle.std.specs.List.{AllPairs}
use Rattle.oplog_fetcher.specs.Fetch.{reply_to as answered}
use Rattle.oplog_store.specs.Log.{StandsBefore}
use Rattle.repl_msg.specs.declared.message.Body.TheVariants as bodies
use Rattle.set_model.specs.Fetching.{reply_to}
use Rattle.set_model.specs.Node.{Node}
use Rattle.set_model.specs.Outcome.{message_to}
use Rattle.set_model.specs.Roles.{is_primary}
use Rattle.node_data.specs.NodeData.{NodeData}
use Rattle.node_state.specs.Seen.{seen_node}
use Rattle.node_state.specs.StateView.{StateView}
use Rattle.node_messages.proofs.ForeseenLemmas.{answered_is, fetch_body}
use Rattle.node_state.proofs.Inside.{rest_in}
use Rattle.node_messages.proofs.TakenLemmas.{foretold}
use Rattle.node_messages.proofs.preparing.prepare_fetch.Goals as goal

pub returns-clause-told : goal.returns-clause-told
returns-clause-told c =
    let old = c.args.state.now.node in
    let term = c.args.message.now.term in
    let from = c.args.message.now.from in
    let raised = nat_lt old.term term in
    let order : AllPairs StandsBefore old.log = subst (λ (s : StateView). AllPairs StandsBefore s.node.log) c.state.view_is c.recall_sound.ensures.node.oplog.order in
    let same : seen_node c.fetched.new.self.node (rest_in c.state.inside) ≡ old =
    ap (λ (l : NodeData). seen_node l.node (rest_in c.state.inside)) c.fetched.ensures.same ∙ ap (λ (s : StateView). s.node) c.state.view_is in
    let body = bodies.FetchReply c.in_ok-reply.reply in
    foretold _ raised term _ old (seen_node c.fetched.new.self.node (rest_in c.state.inside))
    (answered_is raised term c.args.next from old c.in_ok-sent.sent.items body (λ n. bodies.FetchReply (reply_to n c.args.base))
    (c.in_ok-sent.ensures
    ∙ ap (λ (n : Node). message_to (record n { term = c.args.own.term }) from body ∷ []) same
    ∙ ap (λ (t : ℕ). message_to (record old { term = t }) from body ∷ []) c.requires.own.term_is)
    (fetch_body raised term old c.args.base c.args.own.visible c.leads-primary.result c.in_ok-reply.reply order c.requires.own.visible_is (c.leads-primary.ensures ∙ ap is_primary c.requires.own.role_is)
    (c.in_ok-reply.ensures.reply
    ∙ ap (λ (s : StateView). answered s.node.log c.args.own.visible c.args.base s.node.commit c.leads-primary.result) c.state.view_is)))
    same
