use Rattle.std.proofs.Common.{◌≡◌, ◌∙◌, ◌++◌, ◌+◌, List, [], ◌∷◌, ap, append_assoc, arith, subst, sym, take}
use Rattle.std.proofs.lemmas.List.{get_or_read, take_all, take_more}
use Rattle.oplog_entry.specs.declared.entry.Entry.{Entry}
use Rattle.checker_tables.specs.Touching.{EndAll}
use Rattle.checker_tables.proofs.touches.with_all.Goals as goal

pub loop-entry-preserved : goal.loop-entry-preserved
loop-entry-preserved c = λ log are.
    let entries = c.args.entries.now in
    let i = c.loop-entry.entry-index in
    let item = c.entry-item.result in
    let same : (log ++ take i entries) ++ item ∷ [] ≡ log ++ take (i + 1) entries =
    append_assoc log (take i entries) (item ∷ []) ∙ ap (λ (l : List Entry). log ++ l)
    (ap (λ (e : Entry). take i entries ++ e ∷ []) (get_or_read entries i item c.loop-entry-test.true c.entry-item.is item) ∙ sym (take_more entries i item c.loop-entry-test.true)) in
    subst (λ (l : List Entry). EndAll l c.with-ends.result) same (c.with-ends.ensures.after (log ++ take i entries) (c.loop-entry.invariant log are))

pub returns : goal.returns
returns c = λ log are.
    subst (λ (l : List Entry). EndAll (log ++ l) c.loop-entry.ends) (take_all c.loop-entry.entry-index c.args.entries.now (omega (arith, c.loop-entry-test.false)))
    (c.loop-entry.invariant log are)
