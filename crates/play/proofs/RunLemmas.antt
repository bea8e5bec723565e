-- How a set that is played goes on.
use Rattle.std.proofs.Common.{◌≡◌, ◌≤◌, ◌+◌, ◌∙◌, ℕ, zero, suc, true, List, [], ◌∷◌, ◌++◌, length, map, take, fold, Option, None, Some, refl, sym, ap, subst, arith, append_assoc}
use Rattle.std.specs.Prelude.{IfSome, slice_get}
use Rattle.std.specs.List.{flat_map, zip}
use Rattle.std.proofs.lemmas.List.{append-nil, length-append, length-map, map-append, take_all, take_more}
use Rattle.std.proofs.lemmas.List.Concat.{flat_map-append}
use Rattle.std.proofs.lemmas.Option.{get_or_from_slice_get, same_Some, slice_get_within}
use Rattle.checker_machine.specs.Reached.{IsReached}
use Rattle.safety_laws.specs.Bounds.{NumbersStaySmall}
use Rattle.safety_laws.specs.Laws.{InEveryRun}
use Rattle.set_model.proofs.RunLemmas.{run-append}
use Rattle.set_model.specs.declared.command.Command.{Command}
use Rattle.set_model.specs.declared.command.Event.{Event}
use Rattle.set_model.specs.declared.reply.Reply.{Reply}
use Rattle.set_model.specs.Limits.{AllFit, Fits, IsRun, IsSoundWrite, is_for, plan_reaches, write_of}
use Rattle.set_model.specs.Run.{Run, Sizes, after, opening, run}
use Rattle.set_model.specs.Stores.{Plan}
use Rattle.set_model.specs.World.{World, event_plan, step}
use Rattle.transcript.specs.Replies.{line_text, text}
use Rattle.run_checker.specs.Checking.{set_of}
use Rattle.run_checker.specs.Trace.{entry_text, header_text, trace_text}
use Rattle.play.specs.Machine.{CanBeDone}
use Rattle.play.specs.Play.{IsPlayed, Played, event_at, reply_to, run_of, with_event, with_line}

-- ---- runs

fits-split : (r : Run) (front rest : List Event) → AllFit r.world (front ++ rest) → AllFit r.world front × AllFit (fold after r front).world rest
fits-split r [] rest fit = (tt, fit)
fits-split r (event ∷ front) rest fit = let both = fits-split (after r event) front rest fit.1 in ((fit.0, both.0), both.1)

fits-more : (r : Run) (front : List Event) (event : Event) → AllFit r.world front × Fits (fold after r front).world event → AllFit r.world (front ++ event ∷ [])
fits-more r [] event fit = (fit.1, tt)
fits-more r (first ∷ front) event fit = (fit.0.0, fits-more (after r first) front event (fit.0.1, fit.1))

-- a list is what stands before a place, the event there, and what stands after it
parted : (events : List Event) (place : ℕ) (event : Event) → slice_get events place ≡ Some event → (rest : List Event) × (events ≡ take place events ++ event ∷ rest)
parted [] place event there = absurd (cc there)
parted (one ∷ events) zero event there = (events, ap (λ (e : Event). e ∷ events) (same_Some one event there))
parted (one ∷ events) (suc place) event there =
    let rest = parted events place event there in
    (rest.0, ap (λ (es : List Event). one ∷ es) rest.1)

-- one event more
taken : (events : List Event) (place : ℕ) (event : Event) → slice_get events place ≡ Some event → take (place + 1) events ≡ take place events ++ event ∷ []
taken events place event there =
    take_more events place event (slice_get_within events place event there)
    ∙ ap (λ (e : Event). take place events ++ e ∷ []) (get_or_from_slice_get events place event event there)

fewer : (events : List Event) (place : ℕ) → length (take place events) ≤ length events
fewer [] zero = omega arith
fewer [] (suc place) = omega arith
fewer (one ∷ events) zero = omega arith
fewer (one ∷ events) (suc place) = let less = fewer events place in omega (arith, less)

module _ (sizes : Sizes) (events : List Event) (can : CanBeDone sizes events) where
  -- the world after some first events is reached
  module _ (place : ℕ) (event : Event) (there : slice_get events place ≡ Some event) where
    pub world_reached : IsReached (run sizes (take place events)).world
    world_reached =
        let part = parted events place event there in
        let both = fits-split (opening sizes) (take place events) (event ∷ part.0) (subst (IsRun sizes) part.1 can.is_run) in
        let less = fewer events place in
        record { sizes = sizes; events = take place events; are_sizes = can.are_sizes; is_run = both.0; few = omega (arith, less, can.few); is = refl }

    -- and the next event fits it
    pub event_fits : Fits (run sizes (take place events)).world event
    event_fits =
        let part = parted events place event there in
        (fits-split (opening sizes) (take place events) (event ∷ part.0) (subst (IsRun sizes) part.1 can.is_run)).1.0

    -- and leads on
    pub world_after : (run sizes (take (place + 1) events)).world ≡ (step (run sizes (take place events)).world event).world
    world_after =
        ap (λ (es : List Event). (run sizes es).world) (taken events place event there) ∙ ap (λ (r : Run). r.world) (run-append sizes (take place events) event)

  pub whole_world : (run sizes (take (length events) events)).world ≡ (run sizes events).world
  whole_world = ap (λ (es : List Event). (run sizes es).world) (take_all (length events) events (omega arith))

-- each event has a reply
count : (r : Run) (events : List Event) → length (fold after r events).replies ≡ length r.replies + length events
count r [] = omega arith
count r (event ∷ events) =
    let rest = count (after r event) events in
    let one = length-append r.replies ((event.line, (step r.world event).reply) ∷ []) in
    omega (arith, rest, one)

zip-more : (events : List Event) (replies : List Reply) (event : Event) (reply : Reply) → length events ≡ length replies
    → zip (events ++ event ∷ []) (replies ++ reply ∷ []) ≡ zip events replies ++ (event, reply) ∷ []
zip-more [] [] event reply same = refl
zip-more [] (r ∷ replies) event reply same = absurd (omega (arith, same))
zip-more (e ∷ events) [] event reply same = absurd (omega (arith, same))
zip-more (e ∷ events) (r ∷ replies) event reply same = ap (λ (pairs : List (Event × Reply)). (e, r) ∷ pairs) (zip-more events replies event reply (omega (arith, same)))

abbrev replies_in : Run → List Reply
replies_in r = map (λ reply. reply.1) r.replies

-- the trace so far, and one entry more
pub trace_more : (sizes : ℕ × ℕ × ℕ) (events : List Event) (can : CanBeDone (set_of sizes) events) (place : ℕ) (event : Event) → slice_get events place ≡ Some event
    → (before : List ℕ) (world : World) (old new : List ℕ) → world ≡ (run (set_of sizes) (take place events)).world
    → old ≡ before ++ trace_text sizes (take place events) (map (λ reply. reply.1) (run (set_of sizes) (take place events)).replies)
    → new ≡ old ++ entry_text (event, (step world event).reply)
    → new ≡ before ++ trace_text sizes (take (place + 1) events) (map (λ reply. reply.1) (run (set_of sizes) (take (place + 1) events)).replies)
trace_more sizes events can place event there before world old new at_world so_far one =
    let more_taken = taken events place event there in
    let front = take place events in
    let until = run (set_of sizes) front in
    let reply = (step until.world event).reply in
    let runs : run (set_of sizes) (take (place + 1) events) ≡ after until event = ap (run (set_of sizes)) more_taken ∙ run-append (set_of sizes) front event in
    let replies : replies_in (run (set_of sizes) (take (place + 1) events)) ≡ replies_in until ++ reply ∷ [] =
    ap replies_in runs ∙ map-append (λ (r : ℕ × Reply). r.1) until.replies ((event.line, reply) ∷ []) in
    let as_many : length front ≡ length (replies_in until) =
    (let counted = count (opening (set_of sizes)) front in let mapped = length-map until.replies (λ (r : ℕ × Reply). r.1) in omega (arith, counted, mapped)) in
    let pairs : zip (take (place + 1) events) (replies_in (run (set_of sizes) (take (place + 1) events))) ≡ zip front (replies_in until) ++ (event, reply) ∷ [] =
    ap (λ (es : List Event). zip es (replies_in (run (set_of sizes) (take (place + 1) events)))) more_taken
    ∙ ap (λ (rs : List Reply). zip (front ++ event ∷ []) rs) replies ∙ zip-more front (replies_in until) event reply as_many in
    let entries = flat_map entry_text (zip front (replies_in until)) in
    let entry = entry_text (event, reply) in
    let more : flat_map entry_text (zip (take (place + 1) events) (replies_in (run (set_of sizes) (take (place + 1) events)))) ≡ entries ++ entry =
    ap (flat_map entry_text) pairs ∙ flat_map-append entry_text (zip front (replies_in until)) ((event, reply) ∷ []) ∙ ap (λ (xs : List ℕ). entries ++ xs) (append-nil entry) in
    one ∙ ap (λ (w : World). old ++ entry_text (event, (step w event).reply)) at_world ∙ ap (λ (xs : List ℕ). xs ++ entry) so_far
    ∙ append_assoc before (header_text sizes ++ entries) entry
    ∙ ap (λ (xs : List ℕ). before ++ xs) (append_assoc (header_text sizes) entries entry ∙ ap (λ (xs : List ℕ). header_text sizes ++ xs) (sym more))

-- ---- what is played

module _ (played : Played) (is : IsPlayed played) where
  pub can_be_done : CanBeDone played.sizes played.events
  can_be_done = record { are_sizes = is.sizes; is_run = is.is_run; few = omega (arith, is.fewer, is.within) }

  pub is_reached : IsReached (run_of played).world
  is_reached = record { sizes = played.sizes; events = played.events; are_sizes = is.sizes; is_run = is.is_run; few = omega (arith, is.fewer, is.within); is = refl }

  pub as_many : InEveryRun NumbersStaySmall → length (run_of played).world.nodes ≡ played.sizes.nodes
  as_many small =
      ap (λ (es : List Event). length (run played.sizes es).world.nodes) (sym (take_all (length played.events) played.events (omega arith)))
      ∙ (small played.sizes played.events is.sizes is.is_run).count (length played.events)

  pub fits_now : InEveryRun NumbersStaySmall → (command : Command) → is_for played.sizes.nodes command ≡ true → IfSome (write_of command) IsSoundWrite
      → Fits (run_of played).world (event_at played.line command)
  fits_now small command ours sound = record {
    command = ap (λ (nodes : ℕ). is_for nodes command) (as_many small) ∙ ours;
    documents = sound;
    failed = none_reached (event_plan (run_of played).world (event_at played.line command));
    there = refl;
  }
    where
      none_reached : (plan : Option Plan) → plan_reaches plan None ≡ true
      none_reached None = refl
      none_reached (Some plan) = refl

  module _ (room : played.line ≤ 200000) where
    -- a line was passed over
    pub is_passed : (line : List ℕ) → IsPlayed (with_line played line None)
    is_passed line = record { sizes = is.sizes; is_run = is.is_run; fewer = omega (arith, is.fewer); within = omega (arith, room) }

    -- a command was played
    pub is_played : (line : List ℕ) (command : Command) → Fits (run_of played).world (event_at played.line command) → IsPlayed (with_event played line command)
    is_played line command fit = record {
      sizes = is.sizes;
      is_run = fits-more (opening played.sizes) played.events (event_at played.line command) (is.is_run, fit);
      fewer = let one = length-append played.events (event_at played.line command ∷ []) in omega (arith, one, is.fewer);
      within = omega (arith, room);
    }

-- the transcript goes on by the text of the reply
pub text_more : (played : Played) (line : List ℕ) (command : Command) → text (run_of (with_event played line command)) ≡ text (run_of played) ++ reply_to played command
text_more played line command =
    let world = (run_of played).world in
    let event = event_at played.line command in
    ap text (run-append played.sizes played.events event)
    ∙ flat_map-append line_text (run_of played).replies ((played.line, (step world event).reply) ∷ [])
    ∙ ap (λ (xs : List ℕ). text (run_of played) ++ xs) (append-nil (reply_to played command))

-- a command was played: what is known of the set then
pub played_more : (before : Played) (is : IsPlayed before) (room : before.line ≤ 200000) (command : Command) (event : Event) → event ≡ event_at before.line command
    → Fits (run_of before).world event → (line : List ℕ) (lines : List (List ℕ)) → lines ≡ before.lines ++ line ∷ [] → (new : List Event) → new ≡ before.events ++ event ∷ [] → (machine next : World) → machine ≡ (run_of before).world
    → next ≡ (step machine event).world
    → IsPlayed (record { sizes = before.sizes; first = before.first; line = before.line + 1; lines = lines; events = new }) × (next ≡ (run before.sizes new).world)
played_more before is room command event event_is fit line lines lines_are new new_is machine next machine_is next_is =
    let new_at : new ≡ before.events ++ event_at before.line command ∷ [] = new_is ∙ ap (λ (e : Event). before.events ++ e ∷ []) event_is in (
      subst (λ (ls : List (List ℕ)). IsPlayed (record { sizes = before.sizes; first = before.first; line = before.line + 1; lines = ls; events = new })) (sym lines_are)
          (subst (λ (es : List Event). IsPlayed (record { sizes = before.sizes; first = before.first; line = before.line + 1; lines = before.lines ++ line ∷ []; events = es })) (sym new_at)
          (is_played before is room line command (subst (Fits (run_of before).world) event_is fit))),
      next_is ∙ ap (λ (w : World). (step w event).world) machine_is
          ∙ sym (ap (λ (es : List Event). (run before.sizes es).world) new_is ∙ ap (λ (r : Run). r.world) (run-append before.sizes before.events event)),
    )
