use Rattle.std.proofs.Common.{◌≡◌, ◌∙◌, ap, false, length, sym, take, rules}
use Rattle.set_model.specs.Disk.{next_batch}
use Rattle.set_model.specs.Outcome.{replied}
use Rattle.set_model.specs.Points.{log_after}
use Rattle.set_model.specs.Roles.{is_primary}
use Rattle.set_model.specs.declared.reply.Reply.TheVariants as reply
use Rattle.checker_node.proofs.DiskLemmas.{apply_some}
use Rattle.checker_node.proofs.node.Node.apply.Goals as goal

pub returns : goal.returns
returns c =
    let s = c.self.inside in
    let batch = c.first_of-batch.result.now in
    let other : is_primary c.args.self.now.role ≡ false = search rules in
    apply_some c.args.self.now batch other
    (c.first_of-batch.ensures ∙ ap (take 5000) (c.after.ensures ∙ ap (log_after s.applied) c.log.ensures) ∙ ap next_batch c.self.view_is)
    (sym c.is_empty.ensures ∙ c.if-is_empty.false)
    ∙ (λ i. replied (reply.Applied (length batch) (sym c.last_optime-to.ensures i)) (record (sym c.self.view_is i) { applied = sym c.last_optime-to.ensures i }))
