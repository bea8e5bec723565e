use Rattle.doc_shelf.proofs.ShelfLemmas.{none_of_front}
use Rattle.checker_tables.proofs.SessionLemmas.{table_none}
use Rattle.checker_tables.proofs.doc_log.DocLog.new.Goals as goal

pub invariant_of-result : goal.invariant_of-result
invariant_of-result c =
    let log = c.new.result.entries in (
      c.new-6.ensures log,
      none_of_front log c.new-2.result c.new-2.ensures,
      none_of_front log c.new-3.result c.new-3.ensures,
      table_none log c.new-4.result c.new-4.ensures,
      c.new-5.ensures log,
    )
