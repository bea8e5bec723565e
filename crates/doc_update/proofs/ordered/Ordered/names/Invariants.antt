use Rattle.std.proofs.Common.{◌≡◌}
use Rattle.bson_doc.proofs.ItemLemmas.{both_items}
use Rattle.doc_update.specs.Check.{names_of}
use Rattle.doc_update.specs.Ordered.{as_strings}
use Rattle.doc_update.proofs.ordered.Ordered.names.Given as goal

abbrev pub invariant-loop-name : goal.invariant-loop-name
invariant-loop-name l = both_items l.names (as_strings l.name-iterator) ≡ as_strings (names_of l.fn.self)
