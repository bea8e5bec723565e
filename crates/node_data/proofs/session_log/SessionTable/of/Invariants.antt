use Rattle.std.proofs.Common.{take}
use Rattle.node_data.specs.SessionLog.{HasLastWrites}
use Rattle.node_data.proofs.session_log.SessionTable.of.Given as goal

abbrev pub invariant-loop-entry : goal.invariant-loop-entry
invariant-loop-entry l = HasLastWrites l.table (take l.entry-index l.entries)
