use Rattle.std.proofs.Common.{◌∙◌, List, ap, subst, sym}
use Rattle.oplog_entry.specs.Visible.{log_up_to}
use Rattle.oplog_entry.specs.declared.entry.Entry.{Entry}
use Rattle.oplog_store.specs.Log.{IsOplog}
use Rattle.checker_tables.specs.Journal.{AreJournaled}
use Rattle.checker_node.proofs.WriteLemmas.{cut_journaled}
use Rattle.checker_node.proofs.node.Node.cut_back.Goals as goal

pub invariant_of-self : goal.invariant_of-self
invariant_of-self c =
    let s = c.self.inside in (
      subst (λ (l : List Entry). AreJournaled c.min-self-inside.result l s.journal) (sym c.cut.ensures)
          (cut_journaled c.min-self-inside.result s.journaled c.args.point s.log c.up_to.result.now s.journal c.min-self-inside.ensures
          (c.up_to.ensures.entries ∙ ap (log_up_to c.args.point) c.log.ensures) (subst IsOplog c.log.ensures c.up_to.ensures.oplog) c.self.invariant.0),
      c.self.invariant.1,
    )
