use Rattle.std.proofs.Common.{◌≡◌}
use Rattle.bson_doc.specs.Tree.{fields_from}
use Rattle.doc_update.specs.Check.{all_known}
use Rattle.doc_update.proofs.checks.all_known.Given as goal

abbrev pub invariant-loop-place : goal.invariant-loop-place
invariant-loop-place l = all_known (fields_from l.place l.operators) ≡ all_known l.operators
