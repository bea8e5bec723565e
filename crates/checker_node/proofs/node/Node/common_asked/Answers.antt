use Rattle.std.proofs.Common.{◌≡◌, ◌∙◌, List, ap}
use Rattle.std.specs.FinSet as sets
use Rattle.oplog_entry.specs.Visible.{least, log_after, log_up_to}
use Rattle.oplog_entry.specs.declared.entry.Entry.{Entry}
use Rattle.repl_msg.specs.declared.message.Body.TheVariants as bodies
use Rattle.rs_optime.specs.declared.optime.OpTime.{OpTime}
use Rattle.set_model.specs.Node.{Node}
use Rattle.set_model.specs.Points.{visible_log}
use Rattle.set_model.specs.Rollback.{common_reply, optimes_of}
use Rattle.set_model.specs.declared.reply.Reply.TheVariants.{Replied}
use Rattle.node_messages.proofs.TellLemmas.{after_shown}
use Rattle.checker_node.specs.contracts.node.Node.{the_view}
use Rattle.checker_node.proofs.DoesLemmas.{sends_so}
use Rattle.checker_node.proofs.node.Node.common_asked.Goals as goal

pub returns-clause-answer : goal.returns-clause-answer
returns-clause-answer c =
    let node = c.args.self.now in
    let after = c.args.after in
    let list : c.in_ok-optimes_between.field-0 ≡ optimes_of (log_after after (visible_log node)) =
    c.in_ok-optimes_between.ensures.list
    ∙ ap (λ (n : Node). optimes_of (log_after after (log_up_to c.visible_point-visible.result n.log))) c.self.view_is
    ∙ ap optimes_of (ap (λ (v : OpTime). log_after after (log_up_to v node.log)) c.visible_point-visible.ensures
    ∙ after_shown (least (sets.items node.slots)) node.log after c.recall_log.ensures) in
    let body : bodies.CommonReply after c.in_ok-optimes_between.field-0 c.visible_point-visible.result ≡ common_reply node after =
    λ i. bodies.CommonReply after (list i) (c.visible_point-visible.ensures i) in
    sends_so (Replied c.args.next) c.args.from (bodies.CommonReply after c.in_ok-optimes_between.field-0 c.visible_point-visible.result) (common_reply node after) node
    (record (the_view c.self.inside) { log = c.optimes_between.new.self }) c.sends.result
    (ap (λ (log : List Entry). record (the_view c.self.inside) { log = log }) c.optimes_between.ensures.same ∙ c.self.view_is) body c.sends.ensures
