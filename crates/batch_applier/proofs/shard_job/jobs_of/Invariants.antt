use Rattle.std.proofs.Common.{◌≤◌, length}
use Rattle.batch_applier.proofs.JobLemmas.{Moved}
use Rattle.batch_applier.proofs.shard_job.jobs_of.Given as goal

abbrev pub invariant-loop-place : goal.invariant-loop-place
invariant-loop-place l = (length l.fn.shards ≤ l.jobs.cap) × Moved l.fn.shards l.shards l.parts l.jobs.items l.place
