use Rattle.std.proofs.Common.{◌≡◌}
use Rattle.oplog_entry.specs.Walk.{join}
use Rattle.doc_update.specs.Entries.{fields_in}
use Rattle.doc_update.proofs.ordered.Ordered.document.Given as goal

abbrev pub invariant-loop-name : goal.invariant-loop-name
invariant-loop-name l = join l.document (fields_in l.name-iterator) ≡ l.fn.self
