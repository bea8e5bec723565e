-- A table of the last write of each session.
use Rattle.std.specs.Prelude.{◌≡◌, ℕ, List}
use Rattle.std.specs.Coded.{Coded, coded_ℕ}
use Rattle.std.specs.Ordering.{nat_cmp}
use Rattle.std.specs.FinMap as maps
use Rattle.oplog_entry.specs.declared.entry.Entry.{Entry}
use Rattle.set_model.specs.contracts.session.LastWrite.{the_row}
use Rattle.set_model.specs.declared.session.LastWrite.{LastWrite}
use Rattle.set_model.specs.Sessions.{last_write}

abbrev pub Table : Type 0
Table = maps.FinMap nat_cmp LastWrite

abbrev pub table_code : Coded Table
table_code = maps.code coded_ℕ the_row.coded

-- it has what a scan of the log gives
abbrev pub HasLastWrites : Table → List Entry → Type 0
HasLastWrites table log = (id : ℕ) → maps.get table id ≡ last_write id log
