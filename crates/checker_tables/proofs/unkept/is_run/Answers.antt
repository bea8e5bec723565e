use Rattle.std.proofs.Common.{◌≡◌, ◌∙◌, ◌<◌, ◌+◌, ◌-◌, ap, arith, length, rules, sym}
use Rattle.std.proofs.lemmas.List.{get_or_read}
use Rattle.oplog_entry.specs.declared.entry.Entry.{Entry}
use Rattle.checker_tables.proofs.RunLemmas.{run_there}
use Rattle.checker_tables.proofs.unkept.is_run.Goals as goal

pub returns : goal.returns
returns c = λ yes.
    let log = c.args.entries.now in
    let kept = c.args.kept.now in
    let steps = c.args.count - 1 in
    let row = c.are_in_a_row.ensures yes in
    let first_same : c.index-entries-place.result.optime ≡ c.index-kept-at.result.optime = search rules in
    let last_same : c.index-entries-place-2.result.optime ≡ c.index-kept-at-2.result.optime = search rules in
    let early : c.args.place < length log = omega (arith, c.requires.some, c.requires.within) in
    let late : c.args.place + steps < length log = omega (arith, c.requires.some, c.requires.within) in
    let kept_early : c.args.at < length kept = omega (arith, c.requires.some, c.requires.within_kept) in
    let kept_late : c.args.at + steps < length kept = omega (arith, c.requires.some, c.requires.within_kept) in
    let term = ap (λ (e : Entry). e.optime.term) c.index-entries-place.is ∙ row.0 ∙ sym (ap (λ (e : Entry). e.optime.term) c.index-entries-place-2.is) in
    let ts = ap (λ (e : Entry). e.optime.ts) c.index-entries-place-2.is ∙ row.1 ∙ sym (ap (λ (e : Entry). e.optime.ts + steps) c.index-entries-place.is) in
    run_there log kept c.args.place c.args.at c.args.count c.index-entries-place.result.optime c.index-entries-place-2.result.optime c.requires.order c.requires.kept
    c.requires.some c.requires.within c.requires.within_kept
    (λ d. ap (λ (e : Entry). e.optime) (sym (get_or_read log c.args.place c.index-entries-place.result early c.index-entries-place.is d)))
    (λ d. ap (λ (e : Entry). e.optime) (sym (get_or_read log (c.args.place + steps) c.index-entries-place-2.result late c.index-entries-place-2.is d)))
    (λ d. ap (λ (e : Entry). e.optime) (sym (get_or_read kept c.args.at c.index-kept-at.result kept_early c.index-kept-at.is d)) ∙ sym first_same)
    (λ d. ap (λ (e : Entry). e.optime) (sym (get_or_read kept (c.args.at + steps) c.index-kept-at-2.result kept_late c.index-kept-at-2.is d)) ∙ sym last_same)
    term ts
