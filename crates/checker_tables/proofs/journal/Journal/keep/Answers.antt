use Rattle.std.proofs.Common.{◌≡◌, ◌∙◌, List, ap, subst}
use Rattle.oplog_store.specs.Log.{IsOplog}
use Rattle.repl_msg.specs.Kept.{kept}
use Rattle.repl_msg.specs.declared.record.Record.{Record}
use Rattle.repl_msg.specs.declared.record.Record.TheVariants as records
use Rattle.set_model.specs.Stores.{records_after}
use Rattle.set_model.specs.declared.store.Store.{Store}
use Rattle.set_model.specs.declared.store.Store.TheVariants as stores
use Rattle.checker_tables.proofs.JournalLemmas.{record_stays}
use Rattle.checker_tables.proofs.journal.Journal.keep.Goals as goal

pub merge-requires : goal.merge-requires
merge-requires c =
    let item : c.args.item ≡ stores.Record (records.Entries c.in-Record-Entries.list c.in-Record-Entries.point) = cc (c.in-Record-Entries.is, c.in-Record-Entries.field-0-is) in
    record_stays c.args.self.now c.in-Record-Entries.list c.in-Record-Entries.point c.self.inside.entries.entries c.into_entries.result.items
    (c.self.invariant.entries_are ∙ ap (λ (items : List Record). (kept items).entries) c.self.view_is) c.into_entries.ensures.entries
    (subst (λ (store : Store). IsOplog (kept (records_after c.args.self.now store)).entries) item c.requires.stays)
