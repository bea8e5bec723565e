use Rattle.std.proofs.Common.{◌≡◌}
use Rattle.bson_doc.specs.Tree.{trees_from}
use Rattle.oplog_entry.specs.Walk.{join}
use Rattle.entry_bytes.specs.Layout.{marks}
use Rattle.entry_bytes.proofs.writing.marks.Given as goal

abbrev pub invariant-loop-place : goal.invariant-loop-place
invariant-loop-place l = join l.marks (marks (trees_from l.place l.unsets)) ≡ marks l.unsets
