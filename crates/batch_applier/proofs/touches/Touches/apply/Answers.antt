use Rattle.std.proofs.Common.{◌≡◌, ◌<◌, ◌∙◌, length}
use Rattle.std.proofs.lemmas.List.{get_or_read}
use Rattle.std.specs.Prelude.{slice_index_or}
use Rattle.oplog_entry.specs.declared.entry.Entry.{Entry}
use Rattle.batch_applier.proofs.PartLemmas.{ready_own, ready_later, applied_more}
use Rattle.batch_applier.proofs.touches.Touches.apply.Goals as goal

pub apply-requires-clause-own : goal.apply-requires-clause-own
apply-requires-clause-own c =
    let all : c.deref-touch-items.result.now ≡ c.args.self.now = c.deref-touch-items.ensures.value ∙ c.self.view_is in
    let within : c.loop-touch.touch-index < length c.args.self.now = rw (← all) c.loop-touch-test.true in
    let is : (d : Entry) → c.touch-item.result ≡ slice_index_or c.args.self.now c.loop-touch.touch-index d = rw (← all) (get_or_read c.deref-touch-items.result.now c.loop-touch.touch-index c.touch-item.result c.loop-touch-test.true c.touch-item.is) in
    ready_own c.args.shard.now c.loop-touch.shard c.args.self.now c.loop-touch.touch-index c.touch-item.result c.requires within (is _) c.loop-touch.invariant.number c.loop-touch.invariant.count

pub apply-requires-clause-later : goal.apply-requires-clause-later
apply-requires-clause-later c =
    let all : c.deref-touch-items.result.now ≡ c.args.self.now = c.deref-touch-items.ensures.value ∙ c.self.view_is in
    let within : c.loop-touch.touch-index < length c.args.self.now = rw (← all) c.loop-touch-test.true in
    let is : (d : Entry) → c.touch-item.result ≡ slice_index_or c.args.self.now c.loop-touch.touch-index d = rw (← all) (get_or_read c.deref-touch-items.result.now c.loop-touch.touch-index c.touch-item.result c.loop-touch-test.true c.touch-item.is) in
    ready_later c.args.shard.now c.loop-touch.shard c.args.self.now c.loop-touch.touch-index c.touch-item.result c.requires within (is _) (rw all at c.loop-touch.invariant)

pub loop-touch-preserved : goal.loop-touch-preserved
loop-touch-preserved c =
    let all : c.deref-touch-items.result.now ≡ c.args.self.now = c.deref-touch-items.ensures.value ∙ c.self.view_is in
    let within : c.loop-touch.touch-index < length c.args.self.now = rw (← all) c.loop-touch-test.true in
    let is : (d : Entry) → c.touch-item.result ≡ slice_index_or c.args.self.now c.loop-touch.touch-index d = rw (← all) (get_or_read c.deref-touch-items.result.now c.loop-touch.touch-index c.touch-item.result c.loop-touch-test.true c.touch-item.is) in
    rw all
    (applied_more c.args.shard.now c.loop-touch.shard c.apply.new.shard c.args.self.now c.loop-touch.touch-index c.touch-item.result within is (rw all at c.loop-touch.invariant) c.in_ok-apply.ensures.ok)
