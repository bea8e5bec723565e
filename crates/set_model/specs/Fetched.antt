-- What fetched entries, and the log that they continue, have to meet.
use Rattle.std.specs.Prelude.{◌≡◌, ◌<◌, ◌≤◌, false, List, All}
use Rattle.std.specs.FinMap as maps
use Rattle.rs_optime.specs.declared.optime.OpTime.{OpTime}
use Rattle.oplog_entry.specs.Docs.{docs}
use Rattle.oplog_entry.specs.declared.entry.Entry.{Entry}
use Rattle.doc_update.specs.Effect.{is_too_large}

-- a later timestamp, and no earlier term
pub record Follows (base : OpTime) (entry : Entry) : Type 0 where
  pub later : base.ts < entry.optime.ts
  pub term : base.term ≤ entry.optime.term

-- no document that the log leaves is too large
abbrev pub AreWithinDocument : List Entry → Type 0
AreWithinDocument log = All (λ e. is_too_large e.1 ≡ false) (maps.entries (docs log))
