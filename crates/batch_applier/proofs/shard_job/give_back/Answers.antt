use Rattle.std.proofs.Common.{◌≡◌, ◌+◌, ◌-◌, ◌≤◌, ℕ, arith, ◌∙◌, length, take, refl, sym, ap, length-set}
use Rattle.std.proofs.lemmas.List.{take_all}
use Rattle.batch_applier.proofs.ClaimSteps.{inside}
use Rattle.batch_applier.proofs.JobLemmas.{given_more, not_given, less_taken, took, last_read}
use Rattle.batch_applier.proofs.shard_job.give_back.Goals as goal

pub loop-job-init : goal.loop-job-init
loop-job-init c = (sym (take_all _ _ (omega arith)), refl, λ k job s le at. let short = inside _ k _ at in absurd (omega arith))

pub unreachable-requires : goal.unreachable-requires
unreachable-requires c = let n : ℕ = c.pop.new.self.len in
    let up : n + 1 ≡ c.loop-job.jobs.len = omega (arith, c.in-Some.ensures.cases) in
    let is : c.loop-job.jobs.items ≡ take (n + 1) c.args.jobs.items = c.loop-job.invariant.0 ∙ ap (λ m. take m c.args.jobs.items) (sym up) in
    let whole : n + 1 ≤ length c.args.jobs.items = took c.args.jobs.items (n + 1) (ap (λ l. length l) (sym is) ∙ omega arith) in
    let job = c.requires.jobs n (omega arith) in
    not_given c.args.jobs.items c.loop-job.jobs.items n c.in-Some.job is (last_read c.loop-job.jobs.items n _ c.in-Some.job c.pop.result c.in-Some.is (omega arith) (c.pop.ensures.value c.in-Some.job (omega arith))) job.0 job.1 c.in_default-job.is

pub loop-job-preserved : goal.loop-job-preserved
loop-job-preserved c = let n : ℕ = c.len.result in
    let up : n + 1 ≡ c.loop-job.jobs.len = omega (arith, c.len.ensures, c.in-Some.ensures.cases) in
    let is : c.loop-job.jobs.items ≡ take (n + 1) c.args.jobs.items = c.loop-job.invariant.0 ∙ ap (λ m. take m c.args.jobs.items) (sym up) in
    let whole : n + 1 ≤ length c.args.jobs.items = took c.args.jobs.items (n + 1) (ap (λ l. length l) (sym is) ∙ omega arith) in
    let less : c.loop-job.jobs.len - 1 ≡ n = omega arith in (
      c.pop.ensures.rest ∙ (ap (λ m. take m c.loop-job.jobs.items) less ∙ (ap (λ l. take n l) is ∙ (less_taken c.args.jobs.items n ∙ ap (λ m. take m c.args.jobs.items) c.len.ensures))),
      length-set c.loop-job.shards n c.in-Some-job.field-0.shard ∙ c.loop-job.invariant.1,
      λ k job s le at. given_more c.args.jobs.items c.loop-job.jobs.items c.loop-job.shards n c.in-Some-job.field-0 c.in-Some.job is (omega arith) (c.loop-job.invariant.1 ∙ c.requires.long)
          (last_read c.loop-job.jobs.items n _ c.in-Some.job c.pop.result c.in-Some.is less (c.pop.ensures.value c.in-Some.job (omega arith))) c.in-Some-job.is
          (λ i x t more there. c.loop-job.invariant.2 i x t (omega arith) there) k job s (omega (arith, c.len.ensures)) at,
    )

pub loop-job-preserved-in-Some-job : goal.loop-job-preserved-in-Some-job
loop-job-preserved-in-Some-job c = let n : ℕ = c.len.result in
    let up : n + 1 ≡ c.loop-job.jobs.len = omega (arith, c.len.ensures, c.in-Some.ensures.cases) in
    let is : c.loop-job.jobs.items ≡ take (n + 1) c.args.jobs.items = c.loop-job.invariant.0 ∙ ap (λ m. take m c.args.jobs.items) (sym up) in
    let whole : n + 1 ≤ length c.args.jobs.items = took c.args.jobs.items (n + 1) (ap (λ l. length l) (sym is) ∙ omega arith) in
    let less : c.loop-job.jobs.len - 1 ≡ n = omega arith in (
      c.pop.ensures.rest ∙ (ap (λ m. take m c.loop-job.jobs.items) less ∙ (ap (λ l. take n l) is ∙ (less_taken c.args.jobs.items n ∙ ap (λ m. take m c.args.jobs.items) c.len.ensures))),
      length-set c.loop-job.shards n c.in-Some-job.field-0.shard ∙ c.loop-job.invariant.1,
      λ k job s le at. given_more c.args.jobs.items c.loop-job.jobs.items c.loop-job.shards n c.in-Some-job.field-0 c.in-Some.job is (omega arith) (c.loop-job.invariant.1 ∙ c.requires.long)
          (last_read c.loop-job.jobs.items n _ c.in-Some.job c.pop.result c.in-Some.is less (c.pop.ensures.value c.in-Some.job (omega arith))) c.in-Some-job.is
          (λ i x t more there. c.loop-job.invariant.2 i x t (omega arith) there) k job s (omega (arith, c.len.ensures)) at,
    )
