-- How far a trace was read: some events, whose run is defined, and what follows them.
use Rattle.std.proofs.Common.{◌≡◌, ℕ, zero, suc, ◌+◌, ◌<◌, ◌≤◌, Bool, true, false, cond, List, [], ◌∷◌, ◌++◌, length, take, None, Some, Result, Ok, Err, refl, sym, ap, subst, arith, append_assoc, ◌∙◌}
use Rattle.std.specs.Prelude.{IfErr, IfOk, IfSome, not, ◌||◌, ◌≢◌}
use Rattle.std.proofs.lemmas.Bool.{and_parts}
use Rattle.std.proofs.Math.Seq.{take-length}
use Rattle.std.proofs.lemmas.List.{append-nil, length-append}
use Rattle.bson_doc.specs.Bind.{◌>>=◌}
use Rattle.checker_machine.specs.Reached.{IsReached}
use Rattle.safety_laws.specs.Bounds.{NumbersStaySmall}
use Rattle.safety_laws.specs.Laws.{InEveryRun}
use Rattle.set_model.specs.declared.command.Event.{Event}
use Rattle.set_model.specs.Limits.{AllFit, Fits, IsRun, IsSoundWrite, is_for, plan_reaches, settles_doubt, write_of}
use Rattle.set_model.specs.Run.{AreSizes, run}
use Rattle.set_model.specs.World.{World, event_plan, step}
use Rattle.set_model.proofs.RunLemmas.{world_of-append}
use Rattle.run_checker.specs.declared.checking.CheckError.{CheckError}
use Rattle.run_checker.specs.declared.checking.CheckError.TheVariants.{BadEvent, BadHeader, Memory, NoFit, OtherReply}
use Rattle.run_checker.specs.Reading.{after_line, event_in, line_at}
use Rattle.run_checker.specs.Checking.{Done, DoneLine, Goes, Reads, Stops, Tells, TellsSome, after_text, event_or, event_told, fits, if_fits, opening_of, reply_text, set_of, told, told_from, told_one}
use Rattle.run_checker.proofs.CheckedLemmas.{Told, event_read, event_so, one_told, with_event}

-- ---- one event

-- an error ends what goes on after it
stops_all : {A B : Type 0} (why : CheckError) (r : Result A CheckError) (f : A → Result B CheckError) → Stops why r → Stops why (r >>= f)
stops_all Memory r f stops = tt
stops_all (BadHeader number) r f stops = rw stops refl
stops_all (BadEvent number) r f stops = rw stops refl
stops_all (NoFit number) r f stops = rw stops refl
stops_all (OtherReply number) r f stops = rw stops refl

stop_of : {A : Type 0} (why : CheckError) (r : Result A CheckError) → r ≡ Err why → Stops why r
stop_of Memory r is = tt
stop_of (BadHeader number) r is = is
stop_of (BadEvent number) r is = is
stop_of (NoFit number) r is = is
stop_of (OtherReply number) r is = is

module _ (nodes : ℕ) (world : World) (number : ℕ) (own : List ℕ) where
  -- the line is no event
  pub no_event : (why : CheckError) → Stops why (event_or number (event_in nodes own)) → Stops why (event_told nodes world number own)
  unfolding event_told
  no_event why stops = stops_all why (event_or number (event_in nodes own)) (if_fits number world) stops

  module _ (event : Event) (is : event_or number (event_in nodes own) ≡ Ok event) where
    read : event_in nodes own ≡ Ok event
    read = event_read number (event_in nodes own) event is

    -- it is one, which was done
    pub line_done : (new : World) (text : List ℕ) → Done world event new text → DoneLine nodes world own new text
    line_done new text done = record { event = event; read = read; done = done }

    -- or doesn't fit
    pub no_fit : {X : Type 0} (result : Result X CheckError) → IfErr result (λ why. Stops why (if_fits number world event)) → IfErr result (λ why. Stops why (event_told nodes world number own))
    unfolding event_told
    no_fit (Ok x) stops = tt
    no_fit (Err why) stops = rw read stops

module _ (nodes : ℕ) (world : World) (number : ℕ) (bytes own : List ℕ) (first : own ≡ line_at bytes) where
  -- the first line isn't told
  pub no_line : (why : CheckError) → Stops why (event_told nodes world number own) → Stops why (told_one nodes world number bytes)
  unfolding told_one
  no_line why stops = stops_all why (event_told nodes world number (line_at bytes)) (with_event nodes world number bytes) (subst (λ (line : List ℕ). Stops why (event_told nodes world number line)) first stops)

  module _ (new : World) (text : List ℕ) (line : DoneLine nodes world own new text) where
    is_told : event_told nodes world number (line_at bytes) ≡ Ok line.event
    is_told = event_so nodes world number (line_at bytes) line.event (ap (λ (l : List ℕ). event_in nodes l) (sym first) ∙ line.read) line.done.fit

    -- nothing comes after it
    pub no_reply : after_line bytes ≡ None → told_one nodes world number bytes ≡ Err (OtherReply (number + 1))
    unfolding told_one
    no_reply none = rw (is_told, none) refl

    module _ (after : List ℕ) (stands : after_line bytes ≡ Some after) where
      passed_is : (left : Result (List ℕ × ℕ) CheckError) → after_text (number + 1) text after ≡ left → after_text (number + 1) (reply_text world line.event) after ≡ left
      passed_is left is = ap (λ (xs : List ℕ). after_text (number + 1) xs after) (sym line.done.text_is) ∙ is

      one_is : (left : List ℕ × ℕ) → after_text (number + 1) text after ≡ Ok left → told_one nodes world number bytes ≡ Ok (line.event, left.0, left.1)
      unfolding told_one
      one_is left is = let passed = passed_is (Ok left) is in rw (is_told, stands, passed) refl

      none_is : (why : CheckError) → after_text (number + 1) text after ≡ Err why → told_one nodes world number bytes ≡ Err why
      unfolding told_one
      none_is why is = let passed = passed_is (Err why) is in rw (is_told, stands, passed) refl

      -- its reply does, or another text
      pub goes : {X : Type 0} (rest_of : X → List ℕ) (next_of : X → ℕ) (result : Result X CheckError) → Reads (λ x. (rest_of x, next_of x)) result (after_text (number + 1) text after)
          → IfOk result (λ x. Goes nodes world number bytes new (rest_of x) (next_of x))
      goes rest_of next_of (Ok x) is = record { event = line.event; told = one_is (rest_of x, next_of x) is; fit = line.done.fit; world = line.done.world }
      goes rest_of next_of (Err why) is = tt

      pub other_reply : {X : Type 0} (rest_of : X → List ℕ) (next_of : X → ℕ) (result : Result X CheckError) → Reads (λ x. (rest_of x, next_of x)) result (after_text (number + 1) text after)
          → IfErr result (λ why. Stops why (told_one nodes world number bytes))
      other_reply rest_of next_of (Ok x) is = tt
      other_reply rest_of next_of (Err why) is = stop_of why (told_one nodes world number bytes) (none_is why is)

-- what fits in nothing else fits
pub unfit : (number : ℕ) (world : World) (event : Event) → is_for (length world.nodes) event.command ≡ true → IfSome (write_of event.command) IsSoundWrite → (Fits world event → ⊥)
    → if_fits number world event ≡ Err (NoFit number)
unfit number world event command documents none = by_test (fits world event) refl
  where
    by_test : (b : Bool) → fits world event ≡ b → cond b (Ok event) (Err (NoFit number)) ≡ Err (NoFit number)
    by_test true is =
        let parts = and_parts (plan_reaches (event_plan world event) event.failed) (not event.kept || settles_doubt world event) is in
        absurd (none (record { command = command; documents = documents; failed = parts.0; there = parts.1 }))
    by_test false is = refl

-- ---- some events

-- From this world on the rest is told after so many events, as the whole is from the beginning.
pub record SoFar (sizes : ℕ × ℕ × ℕ) (whole : List ℕ) (world : World) (rest : List ℕ) (number count : ℕ) : Type 0 where
  pub events : List Event
  pub is : world ≡ (run (set_of sizes) events).world
  pub counted : count ≡ length events
  pub fit : (others : List Event) → AllFit world others → IsRun (set_of sizes) (events ++ others)
  pub tells : (others : List Event) → Tells sizes.0 world others rest → Tells sizes.0 (opening_of sizes) (events ++ others) whole
  pub most : ℕ
  pub fewer : length rest < most
  pub left : told_from most sizes.0 world number count rest ≡ told sizes whole
  pub numbers : number + length rest ≤ length whole + 2
  pub few : count ≤ 4294967294

module _ (sizes : ℕ × ℕ × ℕ) (whole : List ℕ) where
  pub begun : SoFar sizes whole (opening_of sizes) whole 2 0
  begun = record {
    events = [];
    is = refl;
    counted = refl;
    fit = λ others fit. fit;
    tells = λ others tells. tells;
    most = suc (length whole);
    fewer = omega arith;
    left = refl;
    numbers = omega arith;
    few = omega arith;
  }

  module _ (world : World) (rest : List ℕ) (number count : ℕ) (so_far : SoFar sizes whole world rest number count) where
    defined : IsRun (set_of sizes) so_far.events
    defined = subst (IsRun (set_of sizes)) (append-nil so_far.events) (so_far.fit [] tt)

    -- it is a world of a run, with as many nodes as the header says
    pub reached : AreSizes (set_of sizes) → IsReached world
    reached sizes_are = record {
      sizes = set_of sizes;
      events = so_far.events;
      are_sizes = sizes_are;
      is_run = defined;
      few = omega (arith, so_far.few, so_far.counted);
      is = so_far.is;
    }

    pub as_many : AreSizes (set_of sizes) → InEveryRun NumbersStaySmall → sizes.0 ≡ length world.nodes
    as_many sizes_are law =
        let small : NumbersStaySmall (set_of sizes) so_far.events = law (set_of sizes) so_far.events sizes_are defined in
        let count : length (run (set_of sizes) (take (length so_far.events) so_far.events)).world.nodes ≡ sizes.0 = small.count (length so_far.events) in
        sym count ∙ ap (λ (l : List Event). length (run (set_of sizes) l).world.nodes) (take-length so_far.events) ∙ sym (ap (λ (w : World). length w.nodes) so_far.is)

    -- nothing is left
    pub tells_all : length rest ≡ 0 → TellsSome sizes count whole
    tells_all none =
        let told = so_far.tells [] (empty rest none) in
        record { events = so_far.events; tells = subst (λ (es : List Event). Tells sizes.0 (opening_of sizes) es whole) (append-nil so_far.events) told; counted = so_far.counted }
      where
        empty : (xs : List ℕ) → length xs ≡ 0 → xs ≡ []
        empty [] is = refl
        empty (x ∷ xs) is = absurd (omega (arith, is))

    pub says_all : length rest ≡ 0 → told sizes whole ≡ Ok count
    says_all none = sym so_far.left ∙ at_end so_far.most rest none
      where
        at_end : (most : ℕ) (xs : List ℕ) → length xs ≡ 0 → told_from most sizes.0 world number count xs ≡ Ok count
        at_end zero xs is = refl
        at_end (suc most) [] is = refl
        at_end (suc most) (x ∷ xs) is = absurd (omega (arith, is))

    -- an event isn't told, and so the whole isn't
    pub stops : (why : CheckError) → 0 < length rest → Stops why (told_one sizes.0 world number rest) → Stops why (told sizes whole)
    stops why some none = subst (Stops why) so_far.left (at_event so_far.most rest so_far.fewer some none)
      where
        at_event : (most : ℕ) (xs : List ℕ) → length xs < most → 0 < length xs → Stops why (told_one sizes.0 world number xs) → Stops why (told_from most sizes.0 world number count xs)
        at_event zero xs few some none = absurd (omega (arith, few))
        at_event (suc most) [] few some none = absurd (omega (arith, some))
        at_event (suc most) (x ∷ xs) few some none = stops_all why (told_one sizes.0 world number (x ∷ xs)) (λ one. told_from most sizes.0 (step world one.0).world one.2 (count + 1) one.1) none

    -- one event more
    module _ (new : World) (after : List ℕ) (next : ℕ) (goes : Goes sizes.0 world number rest new after next) where
      one : Told sizes.0 world number rest (goes.event, after, next)
      one = one_told sizes.0 world number rest (goes.event, after, next) goes.told

      left_after : (most : ℕ) (xs : List ℕ) → length xs < most → 0 < length xs → length after < length xs → told_one sizes.0 world number xs ≡ Ok (goes.event, after, next)
          → (fewer : ℕ) × (length after < fewer) × (told_from fewer sizes.0 new next (count + 1) after ≡ told_from most sizes.0 world number count xs)
      left_after zero xs few some short is = absurd (omega (arith, few))
      left_after (suc most) [] few some short is = absurd (omega (arith, some))
      left_after (suc most) (x ∷ xs) few some short is =
          let here : told_from (suc most) sizes.0 world number count (x ∷ xs) ≡ told_from most sizes.0 (step world goes.event).world next (count + 1) after = rw is refl in
          (most, omega (arith, few, short), ap (λ (w : World). told_from most sizes.0 w next (count + 1) after) goes.world ∙ sym here)

      pub more : count ≢ 4294967294 → 0 < length rest → SoFar sizes whole new after next (count + 1)
      more apart some =
          let later = left_after so_far.most rest so_far.fewer some one.fewer goes.told in
          let run_is : new ≡ (run (set_of sizes) (so_far.events ++ goes.event ∷ [])).world =
          goes.world ∙ ap (λ (w : World). (step w goes.event).world) so_far.is ∙ sym (world_of-append (set_of sizes) so_far.events goes.event) in
          record {
            events = so_far.events ++ goes.event ∷ [];
            is = run_is;
            counted = omega (arith, so_far.counted, length-append so_far.events (goes.event ∷ []));
            fit = λ others fit. subst (IsRun (set_of sizes)) (sym (append_assoc so_far.events (goes.event ∷ []) others))
                (so_far.fit (goes.event ∷ others) (goes.fit, subst (λ (w : World). AllFit w others) goes.world fit));
            tells = λ others tells. subst (λ (es : List Event). Tells sizes.0 (opening_of sizes) es whole) (sym (append_assoc so_far.events (goes.event ∷ []) others))
                (so_far.tells (goes.event ∷ others) (after, one.read, goes.fit, one.stands, subst (λ (w : World). Tells sizes.0 w others after) goes.world tells));
            most = later.0;
            fewer = later.1;
            left = later.2 ∙ so_far.left;
            numbers = omega (arith, one.numbers, so_far.numbers);
            few = omega (arith, so_far.few, apart);
          }
