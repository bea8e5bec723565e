use Rattle.std.proofs.Common.{◌≡◌}
use Rattle.bson_doc.specs.Tree.{fields_from}
use Rattle.doc_update.specs.Check.{all_documents}
use Rattle.doc_update.proofs.checks.all_documents.Given as goal

abbrev pub invariant-loop-place : goal.invariant-loop-place
invariant-loop-place l = all_documents (fields_from l.place l.operators) ≡ all_documents l.operators
