use Rattle.std.proofs.Common.{◌<◌, sym, subst}
use Rattle.bson_doc.proofs.BindLemmas.{on_ok}
use Rattle.batch_applier.specs.Parts.{IsApplied, IsBegun}
use Rattle.batch_applier.specs.Jobs.{AreAllJobs, AreBack}
use denote.Param.Send.{sendable}
use Rattle.batch_applier.proofs.Crosses.{job_send}
use Rattle.batch_applier.proofs.JobLemmas.{jobs_ready, all_jobs, each_back, same_begun, got}
use Rattle.batch_applier.proofs.shard_job.apply_claimed.Goals as goal

pub done_by_workers-requires-clause-ready : goal.done_by_workers-requires-clause-ready
done_by_workers-requires-clause-ready g c κs within = jobs_ready c.args.shards.now c.args.parts.now _ c.requires.ready c.in_ok-jobs.ensures.ok

pub done_by_workers-requires-send-T : goal.done_by_workers-requires-send-T
done_by_workers-requires-send-T g c κs within = search (job_send, sendable)

pub take_back-requires-clause-jobs : goal.take_back-requires-clause-jobs
take_back-requires-clause-jobs g c = λ k within. let d = c.in-Ok.ensures.done.1 in let j = all_jobs _ _ _ c.in_ok-jobs.ensures.ok k (subst (λ n. k < n) d.0 within) in let y = d.1 k j.0 j.1 in (y.0, y.1)

pub give_back-requires-clause-jobs : goal.give_back-requires-clause-jobs
give_back-requires-clause-jobs g c = subst AreAllJobs (sym c.in-Err.ensures.err) (all_jobs _ _ _ c.in_ok-jobs.ensures.ok)

pub returns-in-Ok : goal.returns-in-Ok
returns-in-Ok g c = let d = c.in-Ok.ensures.done.1 in let back = c.take_back.ensures.back in (
  on_ok c.take_back.result
      (λ all. each_back IsApplied c.args.shards.now c.take_back.new.shards c.args.parts.now c.in_ok-jobs.jobs.items _ c.in_ok-jobs.ensures.ok d.0 (λ k x at. let y = d.1 k x at in (y.0, y.1, got y.0.applied (all k y.0 y.1) y.2.0)) back)
      c.take_back.ensures.ok,
  each_back IsBegun c.args.shards.now c.take_back.new.shards c.args.parts.now c.in_ok-jobs.jobs.items _ c.in_ok-jobs.ensures.ok d.0 (λ k x at. let y = d.1 k x at in (y.0, y.1, y.2.1)) back,
)

pub returns-in-Err : goal.returns-in-Err
returns-in-Err g c = (
  tt,
  same_begun c.args.shards.now c.give_back.new.shards c.args.parts.now c.in_ok-jobs.jobs.items c.in_ok-jobs.ensures.ok (subst (λ l. AreBack l c.give_back.new.shards) c.in-Err.ensures.err c.give_back.ensures),
)
