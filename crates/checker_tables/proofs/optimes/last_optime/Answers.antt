use Rattle.oplog_store.proofs.LogLemmas.{last_is}
use Rattle.checker_tables.proofs.optimes.last_optime.Goals as goal

pub returns-in-Some : goal.returns-in-Some
returns-in-Some c = last_is c.args.entries.now c.in-Some.entry.now c.in-Some.ensures.value
