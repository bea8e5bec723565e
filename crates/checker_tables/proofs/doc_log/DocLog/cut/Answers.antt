use Rattle.std.proofs.Common.{◌≡◌, List, ap, arith, length, subst, sym, take, ℕ}
use Rattle.doc_shelf.specs.Shelf.{IsOfFront}
use Rattle.oplog_entry.specs.Visible.{log_up_to}
use Rattle.oplog_entry.specs.declared.entry.Entry.{Entry}
use Rattle.checker_tables.proofs.FrontLemmas.{StandBeside, beside_cut, cut_alike}
use Rattle.checker_tables.proofs.doc_log.DocLog.cut.Goals as goal

pub invariant_of-self : goal.invariant_of-self
invariant_of-self c =
    let log = c.self.inside.log.entries in
    let front = log_up_to c.args.to log in
    let order = c.up_to-count.ensures.oplog.order in
    let long : length c.up_to-count.result.now ≡ length front = ap length c.up_to-count.ensures.entries in
    let beside =
    subst (λ (l : List Entry). StandBeside l c.back_to.new.self c.back_to-2.new.self c.back_to-3.new.self c.self.inside.touches.ends) (sym c.cut.ensures.entries)
    (beside_cut c.args.to log c.back_to.new.self c.back_to-2.new.self c.back_to-3.new.self c.self.inside.touches.ends order
    (omega (arith, long, c.back_to.ensures.count)) (omega (arith, long, c.back_to-2.ensures.count))
    (subst (λ (l : List Entry). IsOfFront l c.back_to.new.self) c.as_slice.ensures.entries c.back_to.ensures.front)
    (subst (λ (l : List Entry). IsOfFront l c.back_to-2.new.self) c.as_slice-2.ensures.entries c.back_to-2.ensures.front)
    (c.back_to-3.ensures log front (subst (λ (n : ℕ). take n front ≡ take n log) (sym long) (cut_alike c.args.to log order)) c.self.invariant.3) c.self.invariant.4) in
    (c.clear.ensures c.cut.new.self.entries, beside.0, beside.1, beside.2, beside.3)
