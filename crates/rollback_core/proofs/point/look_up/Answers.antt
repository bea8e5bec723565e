use Rattle.std.proofs.Common.{◌≡◌, ◌≤◌, ◌-◌, ◌∙◌, sym, subst, arith, List}
use Rattle.oplog_entry.specs.declared.entry.Entry.{Entry}
use Rattle.rollback_core.proofs.CountLemmas.{has_last, has_none}
use Rattle.rollback_core.proofs.Steps.{IsCountUpTo}
use Rattle.rollback_core.proofs.point.look_up.Goals as goal

pub returns-in-Some-clause-has : goal.returns-in-Some-clause-has
returns-in-Some-clause-has c =
    let place_is : (1 ≤ c.count_up_to-count.result) × (c.in-Some.place ≡ c.count_up_to-count.result - 1) = c.in-Some.ensures in
    let same = c.as_slice-entries.ensures.entries in
    let up_to : IsCountUpTo c.as_slice-entries.result.now c.args.at c.count_up_to-count.result =
    record { within = c.count_up_to-count.ensures.within; last = c.count_up_to-count.ensures.last; next = c.count_up_to-count.ensures.next } in
    (rw same at c.stands_at.ensures)
    ∙ sym (has_last c.args.log.now.entries c.args.at c.count_up_to-count.result c.in-Some.place c.as_slice-entries.ensures.oplog (subst (λ (es : List Entry). IsCountUpTo es c.args.at c.count_up_to-count.result) same up_to) (omega arith))

pub returns-in-None-clause-has : goal.returns-in-None-clause-has
returns-in-None-clause-has c =
    let none : 1 ≤ c.count_up_to-count.result → ⊥ = c.in-None.ensures in
    let same = c.as_slice-entries.ensures.entries in
    let up_to : IsCountUpTo c.as_slice-entries.result.now c.args.at c.count_up_to-count.result =
    record { within = c.count_up_to-count.ensures.within; last = c.count_up_to-count.ensures.last; next = c.count_up_to-count.ensures.next } in
    sym (has_none c.args.log.now.entries c.args.at c.count_up_to-count.result c.as_slice-entries.ensures.oplog (subst (λ (es : List Entry). IsCountUpTo es c.args.at c.count_up_to-count.result) same up_to) (omega (arith, none)))
