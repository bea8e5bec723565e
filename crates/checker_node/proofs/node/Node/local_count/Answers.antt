use Rattle.std.proofs.Common.{◌≡◌, ◌∙◌, List, length, rules, subst, sym}
use Rattle.oplog_entry.specs.Visible.{log_up_to}
use Rattle.oplog_entry.specs.declared.entry.Entry.{Entry}
use Rattle.set_model.specs.Node.{Node}
use Rattle.set_model.specs.Points.{if_primary}
use Rattle.checker_node.proofs.WriteLemmas.{CountsUpTo, counts_up_to}
use Rattle.checker_node.proofs.node.Node.local_count.Goals as goal

pub returns-in-Secondary : goal.returns-in-Secondary
returns-in-Secondary c =
    let node = c.args.self.now in
    let other : if_primary node.role node.log (log_up_to node.applied node.log) ≡ log_up_to node.applied node.log = search rules in
    let front : CountsUpTo c.args.self.now.applied c.args.self.now.log (length c.up_to.result.now) =
    subst (λ (n : Node). CountsUpTo n.applied n.log (length c.up_to.result.now)) c.self.view_is
    (subst (λ (l : List Entry). CountsUpTo c.self.inside.applied l (length c.up_to.result.now)) c.log-in-Secondary.ensures
    (counts_up_to c.self.inside.applied c.log-in-Secondary.result.now.entries c.up_to.result.now c.up_to.ensures.entries c.up_to.ensures.oplog)) in
    record { shown = front.0 ∙ sym other; within = front.1 }
