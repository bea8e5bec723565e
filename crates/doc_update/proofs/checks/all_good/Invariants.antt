use Rattle.std.proofs.Common.{◌≡◌}
use Rattle.bson_doc.specs.Tree.{fields_from}
use Rattle.doc_update.specs.Check.{all_good, all_names}
use Rattle.doc_update.proofs.checks.all_good.Given as goal

abbrev pub invariant-loop-place : goal.invariant-loop-place
invariant-loop-place l = all_good (all_names (fields_from l.place l.operators)) ≡ all_good (all_names l.operators)
