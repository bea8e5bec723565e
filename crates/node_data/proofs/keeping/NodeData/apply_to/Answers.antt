use Rattle.std.proofs.Common.{◌≡◌, ◌∙◌, ap, false, subst, sym, take}
use Rattle.bson_doc.proofs.BindLemmas.{on_ok}
use Rattle.oplog_entry.specs.Visible.{is_before}
use Rattle.repl_msg.specs.Logs.{log_after}
use Rattle.node_data.specs.NodeData.{NodeData as Seen, applied_at, applied_with}
use Rattle.node_data.proofs.BatchLemmas.{stable_applied}
use Rattle.node_data.proofs.BatchesLemmas.{applied_up_to, count_there}
use Rattle.node_data.proofs.keeping.NodeData.apply_to.Goals as goal

pub apply_batches-done-requires-clause-there : goal.apply_batches-done-requires-clause-there
apply_batches-done-requires-clause-there g c κs within =
    let old = c.args.self.now.node in
    rw (c.count_unapplied-count.ensures.same, c.count_unapplied-count.ensures.count) (count_there old.applied c.args.to old.log c.recall_sound.ensures.node.oplog.order)

pub unapply-requires-clause-kept : goal.unapply-requires-clause-kept
unapply-requires-clause-kept g c =
    let old = c.args.self.now in
    subst (λ (l : Seen). is_before c.applied-start.result l.node.stable ≡ false) (sym c.apply_batches-done.ensures.begun.1)
    (rw (c.count_unapplied-count.ensures.same, c.applied-start.ensures) (stable_applied old.node c.recall_sound.ensures.node c.requires))

pub unapply-requires-clause-applied : goal.unapply-requires-clause-applied
unapply-requires-clause-applied g c =
    let at = c.apply_batches-done.ensures.begun.0 in
    subst (λ (l : Seen). is_before l.node.applied c.applied-start.result ≡ false) (sym c.apply_batches-done.ensures.begun.1)
    (rw c.applied-start.ensures (subst (λ (l : Seen). is_before at l.node.applied ≡ false) c.count_unapplied-count.ensures.same c.apply_batches-done.ensures.begun.2))

pub returns-else-is_err-clause-ok : goal.returns-else-is_err-clause-ok
returns-else-is_err-clause-ok g c =
    let old = c.args.self.now in
    let count = c.count_unapplied-count.result in
    on_ok c.apply_batches-done.result
    (λ done. done ∙ ap (λ (l : Seen). applied_with l (take count (log_after l.node.applied l.node.log))) c.count_unapplied-count.ensures.same
    ∙ ap (λ o. applied_at old o) (applied_up_to old.node.applied c.args.to old.node.log count c.recall_sound.ensures.node.oplog.order c.count_unapplied-count.ensures.count))
    c.apply_batches-done.ensures.ok
