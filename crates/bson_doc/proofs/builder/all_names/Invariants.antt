use Rattle.bson_doc.specs.Tree.{fields_from}
use Rattle.bson_doc.specs.Names.{AreAllNames}
use Rattle.bson_doc.proofs.builder.all_names.Given as goal

-- the names from a place on
abbrev pub invariant-loop-place : goal.invariant-loop-place
invariant-loop-place l = AreAllNames (fields_from l.place l.doc) l.names
