use Rattle.question_laws.proofs.Fitting.{followers_runs}
use Rattle.question_laws.proofs.laws.followers_are_runs.Goals as goal

pub returns : goal.returns
returns c = followers_runs
