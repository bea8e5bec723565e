use Rattle.std.proofs.Common.{arith, ◌∙◌, ◌<◌, length}
use Rattle.batch_applier.proofs.JobLemmas.{moved_more, any_default}
use Rattle.batch_applier.proofs.shard_job.jobs_of.Goals as goal

pub loop-place-preserved : goal.loop-place-preserved
loop-place-preserved c = let m = c.loop-place.invariant.1 in let long = m.long in let short : c.loop-place.place < length c.args.shards.now = omega arith in (
  omega (arith, c.push.ensures.capacity, c.loop-place.invariant.0),
  moved_more c.args.shards.now c.loop-place.shards c.args.parts.now c.loop-place.jobs.items c.push.new.self.items c.loop-place.place _ c.replace-shard.new.dest m short (omega (arith, c.requires))
      (c.replace-shard.ensures.value ∙ any_default c.loop-place.shards c.loop-place.place _ _ (omega arith)) c.index-parts-place.is c.in-Ok.ensures.items,
)

pub returns-clause-ok : goal.returns-clause-ok
returns-clause-ok c = let m = c.loop-place.invariant.1 in (m.len ∙ omega arith, λ k s p within. m.moved k s p (omega arith))
