use Rattle.std.proofs.Common.{◌≡◌, ◌+◌, ◌++◌, ℕ, List, false}
use Rattle.std.specs.Ordering.{nat_cmp}
use Rattle.std.specs.BTreeSet.{contains}
use Rattle.std.specs.Cmp.Lexicographic.{slice_cmp}
use Rattle.bson_doc.specs.Tree.{fields_from}
use Rattle.oplog_entry.specs.Lawful.{is_among}
use Rattle.doc_update.specs.Check.{all_names, names_of, has_twice}
use Rattle.doc_update.proofs.checks.has_twice.Given as goal

-- the names so far, from the last on: none stands twice, and they are those that were seen
abbrev pub invariant-operators : goal.invariant-operators
invariant-operators l =
    let names = all_names (fields_from l.operator l.operators) in
    record {
      once : has_twice names ≡ false;
      known : (name : List ℕ) → contains (slice_cmp nat_cmp) l.seen name ≡ is_among name names;
    }

abbrev pub invariant-names : goal.invariant-names
invariant-names l =
    let names = names_of (fields_from l.place l.fields) ++ all_names (fields_from (l.operator + 1) l.operators) in
    record {
      once : has_twice names ≡ false;
      known : (name : List ℕ) → contains (slice_cmp nat_cmp) l.seen name ≡ is_among name names;
    }
