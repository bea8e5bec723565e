-- A table of the last write of each session in a prefix of a log.
use Rattle.std.specs.Prelude.{◌≡◌, ◌≤◌, ℕ, List, length, take, refl}
use Rattle.std.specs.Ordering.{nat_cmp}
use Rattle.std.specs.Coded.{Coded, code_by, coded×, coded_ℕ}
use Rattle.std.specs.FinMap as maps
use Rattle.oplog_entry.specs.declared.entry.Entry.{Entry}
use Rattle.set_model.specs.declared.session.LastWrite.{LastWrite}
use Rattle.set_model.specs.Sessions.{last_write}
use Rattle.set_model.specs.contracts.session.LastWrite.{the_row}

abbrev pub Writes : Type 0
Writes = maps.FinMap nat_cmp LastWrite

abbrev pub writes_code : Coded Writes
writes_code = maps.code coded_ℕ the_row.coded

pub record Table : Type 0 where
  pub writes : Writes
  pub count : ℕ

abbrev pub table_code : Coded Table
table_code =
    code_by (Writes × ℕ) (coded× writes_code coded_ℕ) (λ t. (t.writes, t.count))
    (λ p. record { writes = p.0; count = p.1 }) (λ _. refl)

abbrev pub nothing_counted : Table
nothing_counted = record { writes = maps.empty; count = 0 }

-- it is the table of these entries
pub record Counts (entries : List Entry) (table : Table) : Type 0 where
  pub count_is : table.count ≡ length entries
  pub writes_are : (id : ℕ) → maps.get table.writes id ≡ last_write id entries

-- it is the table of a prefix of this log
pub record IsTableOf (log : List Entry) (table : Table) : Type 0 where
  pub within : table.count ≤ length log
  pub counts : Counts (take table.count log) table
