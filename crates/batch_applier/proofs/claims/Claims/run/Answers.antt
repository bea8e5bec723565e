use Rattle.std.proofs.Common.{rules, sym, ap, ◌∙◌, Some, ◌∷◌, subst}
use Rattle.atomic_table.specs.Table.{rest}
use Rattle.batch_applier.proofs.ClaimSteps.{same_held}
use Rattle.batch_applier.proofs.claims.Claims.run.Goals as goal

pub exchange-requires : goal.exchange-requires
exchange-requires g c = let x = c.requires.job.0 in (search rules, (Some x, c.requires.job.2 ∙ ap (λ l. (c.args.place, Some x) ∷ rest l) (sym c.requires.job.2)))

pub run-requires : goal.run-requires
run-requires g c = subst g.T.Job.ready (same_held c.args.place c.requires.job.0 c.in-Some.job _ _ _ c.requires.job.2 c.exchange.ensures.2 c.in-Some.is) c.requires.job.3

pub returns-clause-done : goal.returns-clause-done
returns-clause-done g c = let x = c.requires.job.0 in let r = c.run.result in let first = c.exchange.ensures.3 in let second = c.exchange-vacant.ensures.3 in (
  c.args.place,
  x,
  r,
  ap (λ m. m.0.taken) second ∙ (ap (λ m. m.0.taken) first ∙ c.requires.job.1),
  ap (λ m. m.1) second ∙ (ap (λ m. (c.args.place, Some r) ∷ rest m.1) first ∙ ap (λ l. (c.args.place, Some r) ∷ rest l) c.requires.job.2),
  subst (λ t. g.T.Job.done t r) (sym (same_held c.args.place x c.in-Some.job _ _ _ c.requires.job.2 c.exchange.ensures.2 c.in-Some.is)) c.run.ensures,
)
