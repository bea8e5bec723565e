use Rattle.std.proofs.Common.{◌≡◌}
use Rattle.bson_doc.specs.Tree.{fields_from}
use Rattle.oplog_entry.specs.Lawful.{is_among}
use Rattle.doc_update.specs.Check.{all_names}
use Rattle.doc_update.proofs.checks.names_field.Given as goal

abbrev pub invariant-loop-place : goal.invariant-loop-place
invariant-loop-place l =
    is_among l.wanted (all_names (fields_from l.place l.operators)) ≡ is_among l.wanted (all_names l.operators)
