use Rattle.safety_laws.proofs.QuietSteps.{ignored_law, question_law, quiet_law, retry_law, vote_law}
use Rattle.safety_laws.proofs.laws.nothing_changes.Goals as goal

pub returns-clause-quiet : goal.returns-clause-quiet
returns-clause-quiet c = quiet_law

pub returns-clause-questions : goal.returns-clause-questions
returns-clause-questions c = question_law

pub returns-clause-retries : goal.returns-clause-retries
returns-clause-retries c = retry_law

pub returns-clause-ignored : goal.returns-clause-ignored
returns-clause-ignored c = ignored_law

pub returns-clause-votes : goal.returns-clause-votes
returns-clause-votes c = vote_law
