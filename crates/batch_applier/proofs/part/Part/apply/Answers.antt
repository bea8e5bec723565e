use Rattle.std.proofs.Common.{◌≡◌, ◌∙◌, ap, sym, subst, arith, length, take, take_all}
use Rattle.batch_applier.specs.Parts.{joined, IsReady, IsApplied, IsBegun}
use Rattle.batch_applier.proofs.PieceLemmas.{ready_piece, piece_applied, piece_begun}
use Rattle.batch_applier.proofs.part.Part.apply.Goals as goal

pub apply-requires : goal.apply-requires
apply-requires c =
    let whole : joined c.deref-touches-items.result.now ≡ c.args.self.now = ap joined c.deref-touches-items.ensures.value ∙ c.self.view_is in
    ready_piece c.args.shard.now c.loop-touches.shard c.deref-touches-items.result.now c.loop-touches.touches-index c.touches-item.result c.loop-touches-test.true c.touches-item.is
    (subst (IsReady c.args.shard.now) (sym whole) c.requires) c.loop-touches.invariant

pub returns-in_err-apply-clause-begun : goal.returns-in_err-apply-clause-begun
returns-in_err-apply-clause-begun c =
    let whole : joined c.deref-touches-items.result.now ≡ c.args.self.now = ap joined c.deref-touches-items.ensures.value ∙ c.self.view_is in
    subst (IsBegun c.args.shard.now c.apply.new.shard) whole
    (piece_begun c.args.shard.now c.loop-touches.shard c.apply.new.shard c.deref-touches-items.result.now c.loop-touches.touches-index c.touches-item.result c.loop-touches-test.true c.touches-item.is
    c.loop-touches.invariant c.apply.ensures.begun)

pub loop-touches-preserved : goal.loop-touches-preserved
loop-touches-preserved c =
    piece_applied c.args.shard.now c.loop-touches.shard c.apply.new.shard c.deref-touches-items.result.now c.loop-touches.touches-index c.touches-item.result c.loop-touches-test.true c.touches-item.is
    c.loop-touches.invariant c.in_ok-apply.ensures.ok

pub returns-clause-begun : goal.returns-clause-begun
returns-clause-begun c =
    let whole : joined c.deref-touches-items.result.now ≡ c.args.self.now = ap joined c.deref-touches-items.ensures.value ∙ c.self.view_is in
    let all : take c.loop-touches.touches-index c.deref-touches-items.result.now ≡ c.deref-touches-items.result.now = take_all c.loop-touches.touches-index c.deref-touches-items.result.now (omega arith) in
    let applied : IsApplied c.args.shard.now c.loop-touches.shard c.args.self.now = subst (IsApplied c.args.shard.now c.loop-touches.shard) (ap joined all ∙ whole) c.loop-touches.invariant in
    (length c.args.self.now, subst (IsApplied c.args.shard.now c.loop-touches.shard) (sym (take_all (length c.args.self.now) c.args.self.now (omega arith))) applied)
