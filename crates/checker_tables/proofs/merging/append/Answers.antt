use Rattle.std.proofs.Common.{◌≡◌, ◌∙◌, ap, sym, subst, take, List}
use Rattle.oplog_entry.specs.declared.entry.Entry.{Entry}
use Rattle.oplog_store.specs.Log.{IsOplog}
use Rattle.repl_msg.specs.Kept.{with_entries}
use Rattle.checker_tables.proofs.MergeLemmas.{after_all, after_stays, on_ok}
use Rattle.checker_tables.proofs.merging.append.Goals as goal

pub merge-requires : goal.merge-requires
merge-requires c count =
    subst (λ (es : List Entry). IsOplog (with_entries c.args.log.now.entries (take count es))) (sym c.in_ok-entries.ensures)
    (after_stays c.args.log.now.entries c.args.entries.now c.requires count)

pub returns-clause-ok : goal.returns-clause-ok
returns-clause-ok c =
    let Merged : Type 0 = c.merge.new.log.entries ≡ with_entries c.args.log.now.entries c.in_ok-entries.entries.items in
    on_ok c.merge.result Merged _
    (λ (is : Merged). is ∙ ap (with_entries c.args.log.now.entries) c.in_ok-entries.ensures ∙ after_all c.args.log.now.entries c.args.entries.now c.requires) c.merge.ensures.ok
