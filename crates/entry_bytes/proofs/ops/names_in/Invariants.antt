use Rattle.std.proofs.Common.{◌≡◌}
use Rattle.bson_doc.specs.Tree.{fields_from}
use Rattle.bson_doc.proofs.ItemLemmas.{both_items}
use Rattle.entry_bytes.specs.Parts.{names_in}
use Rattle.entry_bytes.proofs.ops.names_in.Given as goal

abbrev pub invariant-loop-place : goal.invariant-loop-place
invariant-loop-place l = both_items l.names (names_in (fields_from l.place l.unsets)) ≡ names_in l.unsets
