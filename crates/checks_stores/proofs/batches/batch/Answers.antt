use Rattle.std.proofs.Common.{◌∙◌, ◌+◌, None, ap, sym}
use Rattle.std.proofs.lemmas.List.{length_push}
use Rattle.oplog_entry.specs.declared.entry.Entry.{Entry}
use Rattle.batch_applier.proofs.FreshLemmas.{numbered_more}
use Rattle.checks_stores.proofs.batches.batch.Goals as goal

pub loop-place-preserved : goal.loop-place-preserved
loop-place-preserved c =
    let entry : Entry = record { optime = record { term = 1; ts = c.loop-place.place + 1 }; op = c.in_ok-change.change; session = None } in
    let more = numbered_more c.loop-place.entries.items entry c.loop-place.invariant.1
    (c.in_ok-change.ensures (c.loop-place.place + 1), ap (λ n. record { term = 1; ts = n + 1 }) (sym c.loop-place.invariant.0)) in
    rw c.in_ok-push.ensures.items (rw c.in_ok-op.ensures (length_push c.loop-place.entries.items entry ∙ ap (λ n. n + 1) c.loop-place.invariant.0, more))
