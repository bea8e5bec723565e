use Rattle.std.proofs.Common.{◌∙◌, ap, subst, sym}
use Rattle.oplog_entry.specs.Step.{place_of}
use Rattle.checker_tables.specs.Touching.{EndAll, Ends}
use Rattle.checker_tables.proofs.TouchLemmas.{noted_after, noted_placed, passed_after, passed_placed}
use Rattle.checker_tables.proofs.touches.with.Goals as goal

pub returns-in_default-place-clause-after : goal.returns-in_default-place-clause-after
returns-in_default-place-clause-after c = λ log are.
    passed_after c.in-Some.ends c.args.entry.now log (sym (c.in-Ok.ensures ∙ ap place_of c.or.ensures) ∙ c.in_default-place.is)
    (subst (λ (e : Ends). EndAll log e) c.in-Some.is are)

pub returns-in_default-place-clause-placed : goal.returns-in_default-place-clause-placed
returns-in_default-place-clause-placed c = λ log are.
    passed_placed c.in-Some.ends c.args.entry.now log (sym (c.in-Ok.ensures ∙ ap place_of c.or.ensures) ∙ c.in_default-place.is)
    (subst (λ (e : Ends). EndAll log e) c.in-Some.is are)

pub returns-clause-after : goal.returns-clause-after
returns-clause-after c = λ log are.
    noted_after c.in-Some.ends c.in-Ok-with_end.ends c.in-Some-place.place c.args.entry.now log
    (sym (c.in-Ok.ensures ∙ ap place_of c.or.ensures) ∙ c.in-Some-place.is) c.in-Ok-with_end.ensures
    (subst (λ (e : Ends). EndAll log e) c.in-Some.is are)

pub returns-clause-placed : goal.returns-clause-placed
returns-clause-placed c = λ log are.
    noted_placed c.in-Some.ends c.in-Ok-with_end.ends c.in-Some-place.place c.args.entry.now log
    (sym (c.in-Ok.ensures ∙ ap place_of c.or.ensures) ∙ c.in-Some-place.is) c.in-Ok-with_end.ensures
    (subst (λ (e : Ends). EndAll log e) c.in-Some.is are)
