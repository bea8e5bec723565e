use Rattle.std.proofs.Common.{◌++◌, List, take}
use Rattle.oplog_entry.specs.declared.entry.Entry.{Entry}
use Rattle.checker_tables.specs.Touching.{EndAll}
use Rattle.checker_tables.proofs.touches.with_all.Given as goal

abbrev pub invariant-loop-entry : goal.invariant-loop-entry
invariant-loop-entry l = (log : List Entry) → EndAll log l.fn.ends → EndAll (log ++ take l.entry-index l.entries) l.ends
