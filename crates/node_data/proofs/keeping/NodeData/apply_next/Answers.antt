use Rattle.std.proofs.Common.{◌≡◌, ◌∙◌, ◌-◌, Some, ap, length, subst, take}
use Rattle.std.specs.Prelude.{slice_get}
use Rattle.std.proofs.lemmas.List.{take_min}
use Rattle.batch_applier.specs.Applied.{HasApplied}
use Rattle.oplog_store.specs.Places.{LogWithHoles}
use Rattle.repl_msg.specs.Logs.{log_after}
use Rattle.node_data.specs.contracts.keeping.NodeData.{the_view}
use Rattle.node_data.specs.NodeData.{NodeData as Seen, applied_at, applied_with}
use Rattle.node_data.proofs.BatchLemmas.{applied_is, batch_fits, batch_of, kept_next}
use Rattle.node_data.proofs.keeping.NodeData.apply_next.Goals as goal

pub apply_batch-requires-clause-batch : goal.apply_batch-requires-clause-batch
apply_batch-requires-clause-batch c c' κs within =
    let role = rw (← c'.self.view_is) at c'.requires.role in
    rw (c'.min.ensures, c'.after-entries.ensures, c'.settled.ensures, c'.written.ensures, c'.gather.ensures)
    (rw (take_min c'.args.most _) (batch_fits _ c'.self.inside.store c'.args.most c'.self.invariant role))

pub invariant_of-self-2 : goal.invariant_of-self-2
invariant_of-self-2 c c' =
    let role = rw (← c'.self.view_is) at c'.requires.role in
    let later : c'.after-entries.result.now ≡ log_after c'.self.inside.applied c'.self.inside.log.entries =
    c'.after-entries.ensures ∙ ap (log_after c'.self.inside.applied) (c'.settled.ensures ∙ ap (λ (l : LogWithHoles). l.settled) (c'.written.ensures ∙ c'.gather.ensures)) in
    let same : take c'.min.result c'.after-entries.result.now ≡ batch_of c'.args.most c'.self.inside.applied c'.self.inside.log.entries =
    ap (λ n. take n c'.after-entries.result.now) c'.min.ensures ∙ take_min c'.args.most c'.after-entries.result.now ∙ ap (λ l. take c'.args.most l) later in
    rw c'.gather.ensures
    (kept_next _ c'.self.inside.store c'.apply_batch.new.store c'.args.most c'.in-Some.last.now c'.self.invariant role
    (subst (λ b. Some c'.in-Some.last.now ≡ slice_get b (length b - 1)) same c'.in-Some.ensures.value)
    (subst (λ b. HasApplied c'.self.inside.store c'.apply_batch.new.store b) same c'.in_ok-apply_batch.ensures.ok))

pub returns-clause-ok : goal.returns-clause-ok
returns-clause-ok c c' =
    let later : c'.after-entries.result.now ≡ log_after c'.self.inside.applied c'.self.inside.log.entries =
    c'.after-entries.ensures ∙ ap (log_after c'.self.inside.applied) (c'.settled.ensures ∙ ap (λ (l : LogWithHoles). l.settled) (c'.written.ensures ∙ c'.gather.ensures)) in
    let same : take c'.min.result c'.after-entries.result.now ≡ batch_of c'.args.most c'.self.inside.applied c'.self.inside.log.entries =
    ap (λ n. take n c'.after-entries.result.now) c'.min.ensures ∙ take_min c'.args.most c'.after-entries.result.now ∙ ap (λ l. take c'.args.most l) later in
    let at = applied_is c'.self.inside.applied (batch_of c'.args.most c'.self.inside.applied c'.self.inside.log.entries) c'.in-Some.last.now
    (subst (λ b. Some c'.in-Some.last.now ≡ slice_get b (length b - 1)) same c'.in-Some.ensures.value) in
    rw c'.gather.ensures
    (subst (λ (seen : Seen). applied_at (the_view c'.self.inside) c'.in-Some.last.now.optime ≡ applied_with seen (batch_of c'.args.most seen.node.applied seen.node.log)) c'.self.view_is
    (ap (λ o. applied_at (the_view c'.self.inside) o) at))
