use Rattle.std.proofs.Common.{not, subst, sym}
use Rattle.oplog_entry.specs.Visible.{is_before}
use Rattle.oplog_entry.specs.declared.entry.Entry.{Entry}
use Rattle.oplog_store.specs.Log.{IsOplog}
use Rattle.oplog_store.proofs.LogLemmas.{oplog_filter}
use Rattle.checker_tables.proofs.doc_log.DocLog.optimes_between.Goals as goal

pub log_after-entries-requires : goal.log_after-entries-requires
log_after-entries-requires c =
    subst IsOplog (sym c.up_to.ensures.entries) (oplog_filter (λ (e : Entry). not (is_before c.args.to e.optime)) c.self.inside.log.entries c.up_to.ensures.oplog)
