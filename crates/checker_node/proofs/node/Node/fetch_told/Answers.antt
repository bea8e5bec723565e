use Rattle.std.proofs.Common.{◌≡◌, ◌∙◌, List, ap}
use Rattle.oplog_entry.specs.declared.entry.Entry.{Entry}
use Rattle.oplog_fetcher.specs.Fetch.{reply_to as answered}
use Rattle.repl_msg.specs.declared.message.Body.TheVariants as bodies
use Rattle.set_model.specs.Fetching.{reply_to}
use Rattle.set_model.specs.Node.{Node}
use Rattle.set_model.specs.declared.reply.Reply.TheVariants.{Replied}
use Rattle.checker_node.specs.contracts.node.Node.{the_view}
use Rattle.checker_node.proofs.DoesLemmas.{sends_so}
use Rattle.checker_node.proofs.FetchLemmas.{told_reply}
use Rattle.checker_node.proofs.node.Node.fetch_told.Goals as goal

pub returns-clause-answer : goal.returns-clause-answer
returns-clause-answer c =
    let node = c.args.self.now in
    let visible = c.visible_point-visible.result in
    let primary = c.is_primary-primary.result in
    let told : c.in_ok-reply.reply ≡ reply_to node c.args.base =
    told_reply node c.args.base visible primary c.in_ok-reply.reply c.recall_log.ensures.order c.visible_point-visible.ensures c.is_primary-primary.ensures
    (c.in_ok-reply.ensures.reply ∙ ap (λ (n : Node). answered n.log visible c.args.base n.commit primary) c.self.view_is) in
    sends_so (Replied c.args.next) c.args.from (bodies.FetchReply c.in_ok-reply.reply) (bodies.FetchReply (reply_to node c.args.base)) node
    (record (the_view c.self.inside) { log = c.fetched.new.self }) c.sends.result
    (ap (λ (log : List Entry). record (the_view c.self.inside) { log = log }) c.fetched.ensures.same ∙ c.self.view_is) (ap bodies.FetchReply told) c.sends.ensures
