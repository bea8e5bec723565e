use Rattle.std.proofs.Common.{◌≡◌, ◌+◌, rules, arith, length, ◌++◌, ◌∷◌, []}
use Rattle.std.proofs.lemmas.List.{length-append}
use Rattle.std.proofs.lemmas.Result.{err_from_is_err_and}
use Rattle.std.proofs.lemmas.Slice.Zip.{zip_turn, zip_end}
use Rattle.std.specs.Iterator.Adapters.{zip_first, zip_second}
use Rattle.std.specs.Slice.Iter.{iter_rest}
use Rattle.set_program.proofs.PrintedLemmas.{all_plain, plain_more}
use Rattle.set_program.proofs.TracedLemmas.{all_put, entry_put, entry_stops}
use Rattle.set_program.proofs.traced.put_entries.Goals as goal

pub loop-event-preserved : goal.loop-event-preserved
loop-event-preserved g c =
    let first : iter_rest (zip_first c.into_iter-event-iterator.result) ≡ c.args.events.now = search rules in
    let second : iter_rest (zip_second c.into_iter-event-iterator.result) ≡ c.args.replies.now = search rules in
    let turn = zip_turn c.args.events.now c.args.replies.now c.loop-event.yielded c.into_iter-event-iterator.result c.loop-event.event-iterator c.next.new.self c.next.result first second c.loop-event.yielded_by (c.in-Some.event, c.in-Some.told) c.in-Some.is c.next.ensures.steps in
    let more : length (c.loop-event.yielded ++ (c.in-Some.event, c.in-Some.told) ∷ []) ≡ length c.loop-event.yielded + 1 = omega (arith, length-append c.loop-event.yielded ((c.in-Some.event, c.in-Some.told) ∷ [])) in
    record {
      put = entry_put c.args.events.now c.args.replies.now (length c.loop-event.yielded) c.in-Some.event.now c.in-Some.told.now turn.0 turn.1 (turn.2 c.in-Some.event.now) (turn.3 c.in-Some.told.now)
          (g.K.Sink.held c.args.sink.now) (g.K.Sink.held c.loop-event.sink) (g.K.Sink.held c.put_entry.new.sink) c.loop-event.invariant.put
          (length (c.loop-event.yielded ++ (c.in-Some.event, c.in-Some.told) ∷ [])) more c.in_ok-put_entry.ensures.puts;
      plain = plain_more c.in-Some.event.now c.in_ok-put_entry.ensures.plain c.args.events.now (length c.loop-event.yielded) (length (c.loop-event.yielded ++ (c.in-Some.event, c.in-Some.told) ∷ [])) more
          turn.0 (turn.2 c.in-Some.event.now) c.loop-event.invariant.plain;
      later = omega (arith, c.loop-event.invariant.later, c.put_entry.ensures.cause.later);
      steady_still = λ steady. (c.put_entry.ensures.steady (c.loop-event.invariant.steady_still steady)).0;
    }

pub returns-in_err-put_entry-clause-puts : goal.returns-in_err-put_entry-clause-puts
returns-in_err-put_entry-clause-puts g c =
    let first : iter_rest (zip_first c.into_iter-event-iterator.result) ≡ c.args.events.now = search rules in
    let second : iter_rest (zip_second c.into_iter-event-iterator.result) ≡ c.args.replies.now = search rules in
    let turn = zip_turn c.args.events.now c.args.replies.now c.loop-event.yielded c.into_iter-event-iterator.result c.loop-event.event-iterator c.next.new.self c.next.result first second c.loop-event.yielded_by (c.in-Some.event, c.in-Some.told) c.in-Some.is c.next.ensures.steps in
    let p = err_from_is_err_and c.from_residual.result c.from_residual.ensures.1 in
    rw (p.1, p.2) (entry_stops c.args.events.now c.args.replies.now (length c.loop-event.yielded) c.in-Some.event.now c.in-Some.told.now turn.0 turn.1 (turn.2 c.in-Some.event.now) (turn.3 c.in-Some.told.now)
    (g.K.Sink.held c.args.sink.now) (g.K.Sink.held c.loop-event.sink) (g.K.Sink.held c.put_entry.new.sink) c.loop-event.invariant.put c.in_err-put_entry.field-0.0 c.in_err-put_entry.ensures.puts)

pub returns-clause-puts : goal.returns-clause-puts
returns-clause-puts g c =
    let first : iter_rest (zip_first c.into_iter-event-iterator.result) ≡ c.args.events.now = search rules in
    let second : iter_rest (zip_second c.into_iter-event-iterator.result) ≡ c.args.replies.now = search rules in
    let end = zip_end c.args.events.now c.args.replies.now c.loop-event.yielded c.into_iter-event-iterator.result c.loop-event.event-iterator c.next.new.self c.next.result first second c.loop-event.yielded_by c.in-None.is c.next.ensures.steps in
    all_put c.args.events.now c.args.replies.now (length c.loop-event.yielded) (g.K.Sink.held c.args.sink.now) (g.K.Sink.held c.loop-event.sink) c.requires end c.loop-event.invariant.put

pub returns-clause-plain : goal.returns-clause-plain
returns-clause-plain g c =
    let first : iter_rest (zip_first c.into_iter-event-iterator.result) ≡ c.args.events.now = search rules in
    let second : iter_rest (zip_second c.into_iter-event-iterator.result) ≡ c.args.replies.now = search rules in
    let end = zip_end c.args.events.now c.args.replies.now c.loop-event.yielded c.into_iter-event-iterator.result c.loop-event.event-iterator c.next.new.self c.next.result first second c.loop-event.yielded_by c.in-None.is c.next.ensures.steps in
    all_plain c.args.events.now c.args.replies.now (length c.loop-event.yielded) c.requires end c.loop-event.invariant.plain
