use Rattle.std.proofs.Common.{List, subst, sym, take}
use Rattle.oplog_entry.specs.declared.entry.Entry.{Entry}
use Rattle.oplog_store.specs.Log.{IsOplog}
use Rattle.repl_msg.specs.Kept.{with_entries}
use Rattle.checker_tables.proofs.merging.merge.Goals as goal

pub put_all-requires-clause-stays : goal.put_all-requires-clause-stays
put_all-requires-clause-stays c =
    λ count. subst (λ (log : List Entry). IsOplog (with_entries log (take count c.args.entries.items))) (sym c.reserve.ensures.entries) (c.requires count)
