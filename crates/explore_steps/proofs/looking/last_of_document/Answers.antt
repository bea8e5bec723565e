use Rattle.std.proofs.Common.{◌≡◌, ◌∙◌, ◌-◌, ap, arith, sym, drop, filter, suc, List, ℕ}
use Rattle.std.specs.Option.{option_map}
use Rattle.oplog_entry.specs.Step.{is_at, place_of}
use Rattle.oplog_entry.specs.declared.entry.Entry.{Entry}
use Rattle.oplog_entry.specs.declared.entry.Op.{Op}
use Rattle.question_laws.specs.Meeting.{last_entry}
use Rattle.explore_steps.proofs.LastLemmas.{last_below}
use Rattle.explore_steps.proofs.looking.last_of_document.Goals as goal

pub returns-then-branch : goal.returns-then-branch
returns-then-branch c =
    let above : c.loop-place.place ≡ suc (c.loop-place.place - 1) = omega (arith, c.loop-place-test.true) in
    sym
    (ap (option_map (λ (entry : Entry). entry.optime))
    (last_below (λ (entry : Entry). is_at (place_of entry.op) (c.args.collection.now, c.args.key.now)) c.args.entries.now (c.loop-place.place - 1) c.loop-place.place c.index-entries-place.result above
    (omega (arith, c.loop-place-test.true, c.loop-place.auto.place)) c.index-entries-place.is
    (ap (λ (op : Op). is_at (place_of op) (c.args.collection.now, c.args.key.now)) (sym c.or.ensures) ∙ sym c.in_ok-wrote.ensures ∙ c.if-branch.true)
    c.loop-place.invariant))

pub returns : goal.returns
returns c =
    let zero : 0 ≡ c.loop-place.place = omega (arith, c.loop-place-test.false) in
    sym
    (ap (λ (entries : List Entry). option_map (λ (entry : Entry). entry.optime) (last_entry entries))
    (ap (λ (n : ℕ). filter (λ (entry : Entry). is_at (place_of entry.op) (c.args.collection.now, c.args.key.now)) (drop n c.args.entries.now)) zero ∙ c.loop-place.invariant))
