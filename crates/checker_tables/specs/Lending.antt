-- A log after its documents are no longer lent.
use Rattle.std.specs.Prelude.{◌≡◌, List}
use Rattle.std.specs.Borrow.{Fml, MutBor}
use Rattle.std.specs.Io.BufRead.{Rests}
use Rattle.oplog_entry.specs.declared.entry.Entry.{Entry}
use Rattle.checker_tables.specs.contracts.doc_log.DocLog.{the_row}

-- it is as it was
abbrev pub RestsSame : MutBor (List Entry) → Fml
RestsSame log = Rests the_row log (λ last. last ≡ log.now)
