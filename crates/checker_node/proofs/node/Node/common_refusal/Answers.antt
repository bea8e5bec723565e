use Rattle.std.proofs.Common.{◌<◌, ◌≤◌, List, length, nat_lt, subst}
use Rattle.oplog_entry.specs.Visible.{log_after, log_up_to}
use Rattle.oplog_entry.specs.declared.entry.Entry.{Entry}
use Rattle.node_messages.proofs.TellLemmas.{refused_few, refused_many, told_after}
use Rattle.checker_node.proofs.node.Node.common_refusal.Goals as goal

pub returns-then-between-gt-MOST_OPTIMES : goal.returns-then-between-gt-MOST_OPTIMES
returns-then-between-gt-MOST_OPTIMES c =
    let node = c.args.self.now in
    refused_many node c.args.term c.args.after (log_after c.args.after (log_up_to c.visible_in.result node.log))
    (told_after (nat_lt node.term c.args.term) c.args.term node c.visible_in.result c.args.after c.recall_log.ensures c.visible_in.ensures)
    (subst (λ (l : List Entry). 20000 < length l) c.between.ensures c.if-between-gt-MOST_OPTIMES.true)

pub returns : goal.returns
returns c =
    let node = c.args.self.now in
    refused_few node c.args.term c.args.after (log_after c.args.after (log_up_to c.visible_in.result node.log))
    (told_after (nat_lt node.term c.args.term) c.args.term node c.visible_in.result c.args.after c.recall_log.ensures c.visible_in.ensures)
    (subst (λ (l : List Entry). length l ≤ 20000) c.between.ensures c.if-between-gt-MOST_OPTIMES.false)
