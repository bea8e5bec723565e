use Rattle.std.proofs.lemmas.List.{get_or_read}
use Rattle.batch_applier.proofs.EachLemmas.{each_so_far, ready_for}
use Rattle.batch_applier.proofs.each.apply_each.Goals as goal

pub apply_one-requires-clause-ready : goal.apply_one-requires-clause-ready
apply_one-requires-clause-ready c =
    ready_for c.args.shards.now c.loop-entry.shards c.args.entries.now c.loop-entry.entry-index c.entry-item.result c.loop-entry-test.true
    (get_or_read c.args.entries.now c.loop-entry.entry-index c.entry-item.result c.loop-entry-test.true c.entry-item.is) c.requires.ready c.loop-entry.invariant

pub returns-in_err-apply_one-clause-begun : goal.returns-in_err-apply_one-clause-begun
returns-in_err-apply_one-clause-begun c =
    rw c.in_err-apply_one.ensures.err (each_so_far c.args.shards.now c.loop-entry.shards c.args.entries.now c.loop-entry.entry-index c.loop-entry.invariant)

pub returns-clause-begun : goal.returns-clause-begun
returns-clause-begun c = each_so_far c.args.shards.now c.loop-entry.shards c.args.entries.now c.loop-entry.entry-index c.loop-entry.invariant
