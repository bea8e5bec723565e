use Rattle.std.proofs.Common.{◌≡◌, ◌∙◌, Bool, ap, cond, length, sym}
use Rattle.rs_optime.specs.declared.optime.OpTime.{OpTime}
use Rattle.oplog_entry.specs.Visible.{log_after}
use Rattle.set_model.specs.Node.{Node}
use Rattle.set_model.specs.Rollback.{cut_record}
use Rattle.set_model.specs.Stores.{in_doubt, stored}
use Rattle.checker_node.proofs.RollbackLemmas.{rolled_so}
use Rattle.checker_node.proofs.node.Node.common_told.Goals as goal

pub returns : goal.returns
returns c =
    let old : Node = c.args.self.now in
    let point : OpTime = c.in-Ok.point in
    let removed : length c.after.result.now ≡ length (log_after point c.store_other.new.self.log) = ap length (c.after.ensures ∙ ap (log_after point) (c.log.ensures ∙ ap (λ (n : Node). n.log) c.self.view_is)) in
    rolled_so old c.store_other.new.self c.cut_back.new.self c.args.term c.args.after c.args.visible point c.args.optimes.now c.args.failed.now c.store_other.new.failed c.replies.result (length c.after.result.now)
    c.in-Ok.ensures (sym c.if-not-branch.false ∙ c.in_ok-store_other.ensures.stands)
    (c.in_ok-store_other.ensures.node ∙ ap (λ (b : Bool). cond b (stored old (cut_record point)) (in_doubt old (cut_record point))) c.if-not-branch.false)
    c.in_ok-store_other.ensures.left c.in_ok-cut_back.ensures removed c.replies.ensures
