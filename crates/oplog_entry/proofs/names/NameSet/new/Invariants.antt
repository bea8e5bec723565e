use Rattle.std.proofs.Common.{◌≡◌, ℕ, List}
use Rattle.std.specs.Ordering.{nat_cmp}
use Rattle.std.specs.BTreeSet.{contains}
use Rattle.std.specs.Cmp.Lexicographic.{slice_cmp}
use Rattle.bson_doc.specs.Tree.{trees_from}
use Rattle.oplog_entry.specs.Lawful.{is_among}
use Rattle.oplog_entry.specs.Step.{strings_of}
use Rattle.oplog_entry.proofs.names.NameSet.new.Given as goal

abbrev pub invariant-loop-place : goal.invariant-loop-place
invariant-loop-place l =
    (name : List ℕ) → contains (slice_cmp nat_cmp) l.names name ≡ is_among name (strings_of (trees_from l.place l.values))
