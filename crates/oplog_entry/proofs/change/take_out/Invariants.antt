use Rattle.std.proofs.Common.{◌≡◌, fold}
use Rattle.bson_doc.specs.Tree.{trees_from, without}
use Rattle.oplog_entry.specs.Step.{strings_of}
use Rattle.oplog_entry.proofs.change.take_out.Given as goal

abbrev pub invariant-loop-place : goal.invariant-loop-place
invariant-loop-place l =
    fold without l.out (strings_of (trees_from l.place l.names)) ≡ fold without l.initial.out (strings_of l.names)
