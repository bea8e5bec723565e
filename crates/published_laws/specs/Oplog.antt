-- What both papers say of two logs. From memory of the public papers. A log's entry is its term there, and
-- its place; here it is a whole entry.
use Rattle.std.specs.Prelude.{◌≡◌, ◌≢◌, ◌<◌, ℕ, List, [], ◌∷◌, ◌++◌, length}
use Rattle.oplog_entry.specs.Visible.{last_of}
use Rattle.oplog_entry.specs.declared.entry.Entry.{Entry}

-- of the last entry, or 0
abbrev pub LastTerm : List Entry → ℕ
LastTerm log = (last_of log).term

-- the other log has this entry right after as many entries as this log has, the last of them of the same term
pub record CanSyncFrom (log other : List Entry) (entry : Entry) : Type 0 where
  pub front : List Entry
  pub rest : List Entry
  pub other_is : other ≡ front ++ entry ∷ rest
  pub level : length front ≡ length log
  pub last : LastTerm front ≡ LastTerm log

-- this log ends with an entry that the other doesn't have at that place, and the other's last term is higher
pub record CanRollback (log other front : List Entry) : Type 0 where
  pub last : Entry
  pub log_is : log ≡ front ++ last ∷ []
  pub older : LastTerm log < LastTerm other
  pub apart : (same rest : List Entry) (found : Entry) → other ≡ same ++ found ∷ rest
      → length same ≡ length front → found.optime.term ≢ last.optime.term
