use Rattle.std.proofs.Common.{◌≡◌, ◌∙◌, List, ap, arith, length, subst, sym}
use Rattle.std.specs.List.{AllPairs}
use Rattle.oplog_entry.specs.Visible.{log_up_to}
use Rattle.oplog_entry.specs.declared.entry.Entry.{Entry}
use Rattle.oplog_store.specs.Log.{StandsBefore}
use Rattle.set_model.specs.Node.{Node}
use Rattle.set_model.specs.Stores.{records_after}
use Rattle.checker_tables.specs.Journal.{AreJournaled}
use Rattle.checker_tables.proofs.JournalLemmas.{journaled_past, journaled_uncut}
use Rattle.checker_node.proofs.node.Node.still_journaled.Goals as goal

pub returns-in-Some : goal.returns-in-Some
returns-in-Some c =
    let s = c.self.inside in
    let long : length c.up_to.result.now ≡ length (log_up_to c.in-Some.at s.log) = ap length (c.up_to.ensures.entries ∙ ap (log_up_to c.in-Some.at) c.log.ensures) in
    subst (λ (n : Node). AreJournaled c.min.result n.log (records_after n.records c.args.item.now)) c.self.view_is
    (journaled_past s.journaled c.min.result c.in-Some.at s.log s.journal c.args.item.now (sym c.in-Some.ensures) (omega (arith, c.min.ensures)) (omega (arith, c.min.ensures, long))
    (subst (λ (l : List Entry). AllPairs StandsBefore l) c.log.ensures c.up_to.ensures.oplog.order) c.self.invariant.0)

pub returns-in-None : goal.returns-in-None
returns-in-None c =
    let s = c.self.inside in
    subst (λ (n : Node). AreJournaled s.journaled n.log (records_after n.records c.args.item.now)) c.self.view_is
    (journaled_uncut s.journaled s.log s.journal c.args.item.now (sym c.in-None.ensures) c.self.invariant.0)
