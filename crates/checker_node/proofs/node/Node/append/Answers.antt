use Rattle.std.proofs.Common.{List, subst, sym}
use Rattle.oplog_entry.specs.declared.entry.Entry.{Entry}
use Rattle.checker_tables.specs.Journal.{AreJournaled, MayStand}
use Rattle.checker_tables.proofs.JournalLemmas.{journaled_after}
use Rattle.checker_node.proofs.node.Node.append.Goals as goal

pub invariant_of-self : goal.invariant_of-self
invariant_of-self c =
    let s = c.self.inside in
    subst (λ (log : List Entry). AreJournaled s.journaled log s.journal × MayStand s.journal s.doubt) (sym c.in_err-append.ensures.err) c.self.invariant

pub invariant_of-self-2 : goal.invariant_of-self-2
invariant_of-self-2 c =
    let s = c.self.inside in
    subst (λ (log : List Entry). AreJournaled s.journaled log s.journal × MayStand s.journal s.doubt) (sym c.in_ok-append.ensures.ok)
    (journaled_after s.journaled s.log c.args.entries.now s.journal c.self.invariant.0, c.self.invariant.1)
