use Rattle.std.proofs.Common.{◌∙◌, ap}
use Rattle.shared_set.specs.Attempts.{done_in, undone_calls}
use Rattle.shared_set.specs.Passes.{heard}
use Rattle.shared_set.proofs.HeardLemmas.{calls_done}
use Rattle.shared_set.proofs.shared.SharedSet.split.Goals as goal

pub returns-clause-pass : goal.returns-clause-pass
returns-clause-pass g c = (c.split.ensures.pass.0, c.split.ensures.pass.1, ap (λ v. heard v) c.split.ensures.pass.2)

pub returns-clause-undone : goal.returns-clause-undone
returns-clause-undone g c = (ap (λ v. undone_calls v.calls) c.split.ensures.pass.2, ap (λ v. undone_calls v.calls) c.split.ensures.given.2.1)

pub returns-clause-given : goal.returns-clause-given
returns-clause-given g c = (
  c.split.ensures.given.0,
  c.split.ensures.given.1,
  (c.split.ensures.given.2.0, ap (λ v. heard v) c.split.ensures.given.2.1, calls_done c.split.ensures.given.2.0 c.args.pass.now.view.turns ∙ ap done_in c.split.ensures.given.2.2),
)
