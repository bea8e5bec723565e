use Rattle.std.proofs.Common.{◌≡◌, rules, arith, ◌∙◌, ap, length, ◌++◌, ◌∷◌, [], string_bytes, List, ℕ}
use Rattle.std.proofs.lemmas.List.{length-append}
use Rattle.std.proofs.lemmas.Slice.Zip.{zip_turn, zip_end}
use Rattle.std.specs.Iterator.Adapters.{zip_first, zip_second}
use Rattle.std.specs.Slice.Iter.{iter_rest}
use Rattle.run_checker.proofs.TraceLemmas.{entries_more, entries_all}
use Rattle.run_checker.proofs.writing.write_entries.Goals as goal

pub loop-event-preserved : goal.loop-event-preserved
loop-event-preserved c =
    let first : iter_rest (zip_first c.into_iter-event-iterator.result) ≡ c.args.events.now = search rules in
    let second : iter_rest (zip_second c.into_iter-event-iterator.result) ≡ c.args.replies.now = search rules in
    let turn = zip_turn c.args.events.now c.args.replies.now c.loop-event.yielded c.into_iter-event-iterator.result c.loop-event.event-iterator c.next.new.self c.next.result first second c.loop-event.yielded_by (c.in-Some.event, c.in-Some.reply) c.in-Some.is c.next.ensures.steps in
    entries_more c.in-Some.event.now c.in-Some.reply.now c.args.events.now c.args.replies.now (length c.loop-event.yielded) (length (c.loop-event.yielded ++ (c.in-Some.event, c.in-Some.reply) ∷ []))
    (string_bytes c.args.out.now) (string_bytes c.loop-event.out) (string_bytes c.write_entry.new.out) (omega (arith, length-append c.loop-event.yielded ((c.in-Some.event, c.in-Some.reply) ∷ []))) turn.0 turn.1 (turn.2 c.in-Some.event.now) (turn.3 c.in-Some.reply.now)
    c.loop-event.invariant c.in_ok-write_entry.ensures

pub returns : goal.returns
returns c =
    let first : iter_rest (zip_first c.into_iter-event-iterator.result) ≡ c.args.events.now = search rules in
    let second : iter_rest (zip_second c.into_iter-event-iterator.result) ≡ c.args.replies.now = search rules in
    let end = zip_end c.args.events.now c.args.replies.now c.loop-event.yielded c.into_iter-event-iterator.result c.loop-event.event-iterator c.next.new.self c.next.result first second c.loop-event.yielded_by c.in-None.is c.next.ensures.steps in
    c.loop-event.invariant ∙ ap (λ (xs : List ℕ). string_bytes c.args.out.now ++ xs) (entries_all c.args.events.now c.args.replies.now (length c.loop-event.yielded) c.requires end)
