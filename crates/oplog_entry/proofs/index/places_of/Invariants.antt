use Rattle.std.proofs.Common.{◌≡◌, ℕ, List, option_and_then}
use Rattle.std.specs.Ordering.{nat_cmp}
use Rattle.std.specs.BTreeMap.{get}
use Rattle.std.specs.Cmp.Lexicographic.{slice_cmp}
use Rattle.bson_doc.specs.Tree.{found, fields_from}
use Rattle.oplog_entry.specs.Index.{value_at}
use Rattle.oplog_entry.proofs.index.places_of.Given as goal

abbrev pub invariant-loop-place : goal.invariant-loop-place
invariant-loop-place l =
    (name : List ℕ) → option_and_then (value_at l.document) (get (slice_cmp nat_cmp) l.places name) ≡ found name (fields_from l.place l.document)
