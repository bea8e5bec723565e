use Rattle.std.proofs.Common.{◌≡◌}
use Rattle.bson_doc.specs.Tree.{fields_from}
use Rattle.doc_update.specs.Check.{all_good, names_of}
use Rattle.doc_update.proofs.checks.good_names.Given as goal

abbrev pub invariant-loop-place : goal.invariant-loop-place
invariant-loop-place l = all_good (names_of (fields_from l.place l.fields)) ≡ all_good (names_of l.fields)
