use Rattle.std.proofs.Common.{List, sym, subst}
use Rattle.oplog_entry.specs.declared.entry.Entry.{Entry}
use Rattle.node_data.specs.Told.{IsTold}
use Rattle.checker_tables.proofs.FrontLemmas.{StandBeside, beside_after}
use Rattle.checker_tables.proofs.doc_log.DocLog.append.Goals as goal

pub invariant_of-self : goal.invariant_of-self
invariant_of-self c =
    let s = c.self.inside in
    let same = sym c.in_err-append.ensures.err in
    let beside = subst (λ (log : List Entry). StandBeside log s.local s.majority s.sessions s.touches.ends) same
    (c.self.invariant.1, c.self.invariant.2, c.self.invariant.3, c.self.invariant.4) in
    (subst (λ (log : List Entry). IsTold log s.told) same c.self.invariant.0, beside.0, beside.1, beside.2, beside.3)

pub invariant_of-self-2 : goal.invariant_of-self-2
invariant_of-self-2 c =
    let s = c.self.inside in
    let beside = subst (λ (log : List Entry). StandBeside log s.local s.majority s.sessions c.note_all.new.self.ends) (sym c.in_ok-append.ensures.ok)
    (beside_after s.log.entries c.args.entries.now s.local s.majority s.sessions s.touches.ends c.note_all.new.self.ends
    (c.note_all.ensures s.log.entries c.self.invariant.4) (c.self.invariant.1, c.self.invariant.2, c.self.invariant.3, c.self.invariant.4)) in
    (c.clear.ensures c.append.new.log.entries, beside.0, beside.1, beside.2, beside.3)
