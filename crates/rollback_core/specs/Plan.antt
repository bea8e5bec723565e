-- To which point a node rolls back (MongoDB's replication architecture guide, rollback).
use Rattle.std.specs.Prelude.{ℕ, not, List, Result, Ok, Err, if◌then◌else◌}
use Rattle.rs_optime.specs.declared.optime.OpTime.{OpTime}
use Rattle.oplog_entry.specs.declared.entry.Entry.{Entry}
use Rattle.repl_msg.specs.Rollback.{is_common, is_of_later_branch, common_point}
use Rattle.rollback_core.specs.declared.point.RollbackRefusal.{RollbackRefusal}
use Rattle.rollback_core.specs.declared.point.RollbackRefusal.TheVariants.{NotOlder, SameBranch}

-- why a node doesn't roll back, or to which point it does
abbrev pub plan : ℕ → List Entry
    → (own_last source_last after : OpTime) → List OpTime → Result OpTime RollbackRefusal
plan term log own_last source_last after optimes =
    if not (is_of_later_branch term own_last source_last) then Err NotOlder
    else if is_common after optimes own_last then Err SameBranch
    else Ok (common_point log after optimes)
