use Rattle.std.proofs.Common.{◌≡◌, ◌∙◌, arith, sym, ap, Some, None}
use mathlib.Core.Option.{some-injective}
use Rattle.bson_doc.proofs.BindLemmas.{on_ok}
use Rattle.batch_applier.proofs.ClaimSteps.{inside}
use Rattle.batch_applier.proofs.shard_job.take_back.Goals as goal

pub unreachable-requires : goal.unreachable-requires
unreachable-requires c = let job = c.requires.jobs c.loop-place.place (omega (arith, c.requires.full.2)) in
    let clash : None ≡ Some job.0 = some-injective None (Some job.0) (sym (ap (λ o. mathlib.Core.Option.some o) c.in_default.is) ∙ (sym c.take.ensures.value ∙ (ap (λ l. lib.ListN.get_elem? l c.loop-place.place) c.loop-place.invariant.0 ∙ job.1))) in absurd (cc)

pub returns-clause-back : goal.returns-clause-back
returns-clause-back c = (
  c.loop-place.invariant.2 ∙ sym c.requires.full.2,
  λ k job s at. c.loop-place.invariant.5 k job s (let short = inside _ k _ at in omega (arith, c.requires.full.2)) at,
)

pub returns-clause-ok : goal.returns-clause-ok
returns-clause-ok c = on_ok c.loop-place.all (λ all. λ k job at. all k job (let short = inside _ k _ at in omega (arith, c.requires.full.2)) at) c.loop-place.invariant.6
