use Rattle.oplog_store.proofs.LogLemmas.{last_is}
use Rattle.node_commands.proofs.disk.last_optime.Goals as goal

pub returns-in-Some : goal.returns-in-Some
returns-in-Some c = rw (← c.as_slice.ensures.entries) (last_is c.as_slice.result.now c.in-Some.entry.now c.in-Some.ensures.value)
