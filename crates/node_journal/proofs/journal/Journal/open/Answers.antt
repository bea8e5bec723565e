use Rattle.node_journal.proofs.RenewLemmas.{fails_as_well, opens_as_well}
use Rattle.node_journal.proofs.journal.Journal.open.Goals as goal

pub returns-in-Ok-clause-calls : goal.returns-in-Ok-clause-calls
returns-in-Ok-clause-calls g c = opens_as_well _ _ _ _ (rw c.unopened.ensures at c.in-Ok.ensures.calls)

pub returns-in-Ok-clause-at_rest : goal.returns-in-Ok-clause-at_rest
returns-in-Ok-clause-at_rest g c = rw c.unopened.ensures at c.in-Ok.ensures.at_rest

pub returns-in-Err-clause-calls : goal.returns-in-Err-clause-calls
returns-in-Err-clause-calls g c = rw c.close.ensures.disk (fails_as_well _ _ _ _ _ (rw c.unopened.ensures at c.in-Err.ensures.calls))
