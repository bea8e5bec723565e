-- What a turn on the board means for the set on it.
use Rattle.std.proofs.Common.{◌≡◌, inl, inr, ◌∙◌, ◌≤◌, ◌+◌, ap, sym, subst, arith, length-append, append-nil, ℕ, length, drop, List, [], ◌∷◌, ◌++◌}
use Rattle.std.specs.Prelude.{Result, Ok, Err, IfOk, IsErrOf, OnErr, OnOk, slice_index_or}
use Rattle.std.specs.List.{AllByRecursion}
use Rattle.rs_disk.specs.State.{State}
use Rattle.set_model.specs.declared.command.Command.{Command}
use Rattle.set_model.specs.declared.command.Event.{Event}
use Rattle.set_model.specs.declared.reply.Reply.{Reply}
use Rattle.set_model.specs.Run.{Sizes, run}
use Rattle.set_model.specs.World.{step, touched_node}
use Rattle.set_world.specs.declared.error.StepError.{StepError}
use Rattle.set_world.specs.declared.error.StepError.TheVariants.{HistoryFull, Memory}
use Rattle.set_world.specs.Disks.{IsStep}
use Rattle.set_model.specs.Limits.{IsRun}
use Rattle.set_model.specs.Pointed.{pointed}
use Rattle.set_world.specs.World.{Set}
use Rattle.set_world.proofs.PointedLemmas.{pointed_other, pointed_rises}
use Rattle.turn_board.specs.declared.view.View.{View}
use Rattle.turn_board.specs.declared.view.Stage.TheVariants.{Free}
use Rattle.turn_board.specs.History.{AtMost, events, times}
use Rattle.turn_board.specs.Turns.{Closes as EndsWith, Enters, IsGrown, Leaves, Peeks, Raises}
use Rattle.turn_board.specs.Views.{at_stage, called, in_turn, seen}
use Rattle.shared_set.specs.Calls.{Closes, Looks, Meets, Steps, Waits, Went}
use Rattle.shared_set.specs.declared.attempt.Attempt.{Attempt}
use Rattle.shared_set.specs.declared.attempt.Attempt.TheVariants.{Done, Undone}
use Rattle.shared_set.specs.Attempts.{IsInSome, WentBy, came_to, done_calls, done_in, done_turns, one_more, undone_calls, undone_in}
use Rattle.shared_set.specs.Passes.{heard}
use Rattle.shared_set.specs.Sets.{IsRunOf, SetOnBoard, attempts_kept, first_of, history_in, point_in, sizes_in}
use Rattle.shared_set.proofs.AttemptLemmas.{drop_first}
use Rattle.shared_set.proofs.HeardLemmas.{all_tried, called_done, called_undone, calls_done, events_done, names_done, stand_done, turns_append, turns_begin, undone_append}

last_same : {A : Type 0} (xs : List A) (x y : A) → xs ++ x ∷ [] ≡ xs ++ y ∷ [] → x ≡ y
last_same [] x y same = ap (λ l. slice_index_or l 0 x) same
last_same (z ∷ xs) x y same = last_same xs x y (ap (λ l. drop 1 l) same)

not_longer : {A : Type 0} (xs : List A) (x : A) → xs ++ x ∷ [] ≡ xs → ⊥
not_longer xs x same =
    let long : length (xs ++ x ∷ []) ≡ length xs + 1 = length-append xs (x ∷ []) in
    let also : length (xs ++ x ∷ []) ≡ length xs = ap (λ l. length l) same in
    omega (arith, long, also)

-- a turn added what it came to, as a call of the pass
pub record AddedOne {F : Type 0} (v mid new : View Attempt F) (one : Attempt) : Type 0 where
  pub pass : ℕ
  pub past : List Attempt
  pub others : List (ℕ × List Attempt)
  pub calls : v.calls ≡ (pass, past) ∷ others
  pub ends : new ≡ at_stage (called mid pass one past others) Free

-- what was added comes after these
module _ {D : Type 0} (state : D → State) (sizes : Sizes) (v mid : View Attempt (Set D)) (old : SetOnBoard D) (enters : Enters attempts_kept first_of point_in v old mid) (fixed : sizes_in v.fixed ≡ sizes)
    (fresh : v.begun ≡ []) (went : WentBy state old.begun old.set old.tried) where
  abbrev turns : List (ℕ × Attempt)
  turns = enters.1

  mid_is : mid ≡ in_turn v enters.0 turns
  mid_is = enters.2

  tried_is : old.tried ≡ events turns
  tried_is = enters.4 ∙ ap (λ l. l ++ events turns) fresh

  seen_mid : seen mid ≡ old.tried
  seen_mid = ap (λ m. seen m) mid_is ∙ sym enters.4

  begun_is : history_in v.fixed ≡ old.begun.history
  begun_is = ap (λ l. history_in l) (sym enters.5)

  kept : old.set.history ≡ (heard v).begun ++ events (done_turns turns)
  kept = went.history ∙ ap (λ es. es ++ done_in old.tried) (sym begun_is)
      ∙ ap (λ es. history_in v.fixed ++ es) (ap done_in tried_is ∙ sym (events_done turns))

  pub sizes_here : old.set.sizes ≡ sizes
  sizes_here = went.sizes ∙ ap (λ l. sizes_in l) enters.5 ∙ fixed

  -- the history of a value with the same first part
  history_of : (tried : List Attempt) (history : List Event) → history ≡ old.begun.history ++ done_in tried → history_in v.fixed ++ done_in tried ≡ history
  history_of tried history is = ap (λ es. es ++ done_in tried) begun_is ∙ sym is

  meets : Meets sizes (heard v) (done_turns turns)
  meets = record {
    begins = turns_begin v.turns turns enters.3;
    calls = stand_done turns v.calls enters.6;
    answers = subst (λ es. AtMost (pointed sizes es) v.answers) (history_of old.tried old.set.history went.history ∙ kept)
        (subst (λ s. AtMost (pointed s (history_in v.fixed ++ done_in old.tried)) v.answers) fixed enters.7);
  }

  mid_fixed : mid.fixed ≡ v.fixed
  mid_fixed = ap (λ m. m.fixed) mid_is

  -- ---- what the end of the turn owes

  module _ (value : SetOnBoard D) (line : ℕ) (command : Command) (same : first_of value ≡ first_of old) (now : WentBy state value.begun value.set value.tried)
      (grown : value.tried ≡ old.tried ++ came_to (drop (length old.set.history) value.set.history) line command ∷ []) where
    abbrev one : Attempt
    one = came_to (drop (length old.set.history) value.set.history) line command

    pub owes_value : (first_of value ≡ mid.fixed) × IsGrown attempts_kept mid value
    owes_value = (same ∙ (enters.5 ∙ sym mid_fixed), inr (one, grown ∙ ap (λ l. l ++ one ∷ []) (sym seen_mid)))

    raised_none : (later : List Event) (node : ℕ) → later ≡ old.set.history → Raises (pointed old.set.sizes old.set.history) (pointed old.set.sizes later) node
    raised_none later node is = (
      (λ k other. ap (λ es. pointed old.set.sizes es k) is),
      subst (λ es. pointed old.set.sizes old.set.history node ≤ pointed old.set.sizes es node) (sym is) (omega arith),
    )

    raised : (answer : Result (ℕ × Reply) StepError) (node : ℕ) → node ≡ touched_node (run old.set.sizes old.set.history).world command
        → Went state old.set value.set line command answer → Raises (pointed old.set.sizes old.set.history) (pointed old.set.sizes value.set.history) node
    raised (Ok (place, reply)) node touched is = (
      (λ k other. ap (λ es. pointed old.set.sizes es k) is.1.history
          ∙ pointed_other old.set.sizes old.set.history is.1.event k (λ same. other (same ∙ ap (λ c. touched_node (run old.set.sizes old.set.history).world c) is.1.command_is ∙ sym touched))),
      subst (λ es. pointed old.set.sizes old.set.history node ≤ pointed old.set.sizes es node) (sym is.1.history) (pointed_rises old.set.sizes old.set.history is.1.event node),
    )
    raised (Err Memory) node touched is = raised_none value.set.history node is
    raised (Err HistoryFull) node touched is = raised_none value.set.history node is.0

    still_begun : value.begun ≡ old.begun
    still_begun = ap (λ l. slice_index_or l 0 old.begun) same

    history_value : history_in v.fixed ++ done_in value.tried ≡ value.set.history
    history_value = history_of value.tried value.set.history (now.history ∙ ap (λ (s : Set D). s.history ++ done_in value.tried) still_begun)

    history_now : history_in mid.fixed ++ done_in value.tried ≡ value.set.history
    history_now = ap (λ l. history_in l ++ done_in value.tried) mid_fixed ∙ history_value

    history_then : history_in mid.fixed ++ done_in (seen mid) ≡ old.set.history
    history_then = ap (λ l. history_in l ++ done_in (seen mid)) mid_fixed ∙ ap (λ l. history_in v.fixed ++ done_in l) seen_mid
        ∙ history_of old.tried old.set.history went.history

    pub owes_numbers : (answer : Result (ℕ × Reply) StepError) (node : ℕ) → node ≡ touched_node (run old.set.sizes old.set.history).world command
        → Went state old.set value.set line command answer → Raises (point_in mid.fixed (seen mid)) (point_in mid.fixed (attempts_kept value)) node
    owes_numbers answer node touched is =
        subst (λ es. Raises (pointed (sizes_in mid.fixed) es) (pointed (sizes_in mid.fixed) (history_in mid.fixed ++ done_in value.tried)) node) (sym history_then)
        (subst (λ es. Raises (pointed (sizes_in mid.fixed) old.set.history) (pointed (sizes_in mid.fixed) es) node) (sym history_now)
        (subst (λ s. Raises (pointed s old.set.history) (pointed s value.set.history) node) (sizes_here ∙ sym (ap (λ l. sizes_in l) mid_fixed ∙ fixed)) (raised answer node touched is)))

    -- ---- what the pass has seen then

    module _ (new : View Attempt (Set D)) (leaves : Leaves attempts_kept mid value new) where
      pub added : AddedOne v mid new one
      added = elim leaves.1 [
        | inl none ↦ absurd (not_longer old.tried one (sym grown ∙ none.0 ∙ seen_mid))
        | inr more ↦
            let same_one : more.1 ≡ one = last_same old.tried more.1 one (ap (λ l. l ++ more.1 ∷ []) (sym seen_mid) ∙ sym more.5 ∙ grown) in
            record {
              pass = more.0;
              past = more.2;
              others = more.3;
              calls = sym (ap (λ m. m.calls) mid_is) ∙ more.4;
              ends = leaves.2 ∙ ap (λ u. at_stage u Free) (more.6 ∙ ap (λ a. called mid more.0 a more.2 more.3) same_one);
            }
      ]

      new_calls : new.calls ≡ (added.pass, added.past ++ one ∷ []) ∷ added.others
      new_calls = ap (λ u. u.calls) added.ends

      pub seen_new : heard new ≡ at_stage (heard (called (in_turn v enters.0 turns) added.pass one added.past added.others)) Free
      seen_new = ap (λ u. heard u) added.ends ∙ ap (λ m. at_stage (heard (called m added.pass one added.past added.others)) Free) mid_is

      one_done : (event : Event) → value.set.history ≡ old.set.history ++ event ∷ [] → one ≡ Done event
      one_done event is = ap (λ es. came_to es line command) (ap (λ es. drop (length old.set.history) es) is ∙ drop_first old.set.history (event ∷ []))

      one_undone : value.set.history ≡ old.set.history → one ≡ Undone line command
      one_undone is = ap (λ es. came_to es line command) (ap (λ es. drop (length old.set.history) es) (is ∙ sym (append-nil old.set.history)) ∙ drop_first old.set.history [])

      pub steps : (place : ℕ) (reply : Reply) → place ≡ length old.set.history → IsStep state old.set value.set line command reply → Steps sizes (heard v) (heard new) line command place reply
      steps place reply at is = record {
        turns = done_turns turns;
        meets = meets;
        event = is.event;
        line_is = is.line_is;
        command_is = is.command_is;
        place_is = at ∙ ap (λ es. length es) kept;
        reply_is = is.reply_is ∙ ap (λ s. (step (run s old.set.history).world is.event).reply) sizes_here ∙ ap (λ es. (step (run sizes es).world is.event).reply) kept;
        pass = added.pass;
        past = done_in added.past;
        others = done_calls added.others;
        calls = ap done_calls added.calls;
        now = seen_new ∙ ap (λ a. at_stage (heard (called (in_turn v enters.0 turns) added.pass a added.past added.others)) Free) (one_done is.event is.history)
            ∙ ap (λ u. at_stage u Free) (called_done (in_turn v enters.0 turns) added.pass is.event added.past added.others);
      }

      pub waits : value.set.history ≡ old.set.history → Waits sizes (heard v) (heard new)
      waits is = record {
        turns = done_turns turns;
        meets = meets;
        now = seen_new ∙ ap (λ a. at_stage (heard (called (in_turn v enters.0 turns) added.pass a added.past added.others)) Free) (one_undone is)
            ∙ ap (λ u. at_stage u Free) (called_undone (in_turn v enters.0 turns) added.pass line command added.past added.others added.calls);
      }

      pub undone_so : (attempt : Attempt) → one ≡ attempt → undone_calls new.calls ≡ undone_calls ((added.pass, added.past ++ attempt ∷ []) ∷ added.others)
      undone_so attempt is = ap undone_calls (new_calls ∙ ap (λ a. (added.pass, added.past ++ a ∷ []) ∷ added.others) is)

      pub tried_none : (place : ℕ) (reply : Reply) → IsStep state old.set value.set line command reply → undone_calls new.calls ≡ undone_calls v.calls
      tried_none place reply is = undone_so (Done is.event) (one_done is.event is.history)
          ∙ ap (λ l. l ∷ undone_calls added.others) (undone_append added.past (Done is.event ∷ []) ∙ append-nil (undone_in added.past)) ∙ ap undone_calls (sym added.calls)

      pub tried_one : value.set.history ≡ old.set.history → undone_calls new.calls ≡ one_more (line, command) (undone_calls v.calls)
      tried_one is = undone_so (Undone line command) (one_undone is)
          ∙ ap (λ l. l ∷ undone_calls added.others) (undone_append added.past (Undone line command ∷ [])) ∙ ap (λ cs. one_more (line, command) (undone_calls cs)) (sym added.calls)

      pub all_seen : new.fixed ≡ v.fixed → new.begun ≡ [] → seen new ≡ value.tried → seen (heard new) ≡ value.set.history
      all_seen still none all = ap (λ es. history_in new.fixed ++ es) (events_done new.turns ∙ ap done_in (ap (λ l. l ++ events new.turns) (sym none) ∙ all))
          ∙ ap (λ l. history_in l ++ done_in value.tried) still ∙ history_value

      pub answers : seen (heard new) ≡ value.set.history → (answer : Result (ℕ × Reply) StepError) → Went state old.set value.set line command answer
          → IfOk answer (λ done. Steps sizes (heard v) (heard new) line command done.0 done.1) × OnErr answer (Waits sizes (heard v) (heard new))
          × (IsErrOf answer HistoryFull → length (seen (heard new)) ≡ 4294967295)
          × OnOk answer (undone_calls new.calls ≡ undone_calls v.calls) × OnErr answer (undone_calls new.calls ≡ one_more (line, command) (undone_calls v.calls))
      answers all (Ok (place, reply)) is = (steps place reply is.0 is.1, tt, (λ full. absurd (cc full)), tried_none place reply is.1, tt)
      answers all (Err Memory) is = (tt, waits is, (λ full. absurd (cc full)), tt, tried_one is)
      answers all (Err HistoryFull) is = (tt, waits is.0, (λ full. ap (λ es. length es) all ∙ ap (λ es. length es) is.0 ∙ is.1), tt, tried_one is.0)

-- ---- looks, and the end

-- what a look tells of begins with what was heard
pub looks : {D : Type 0} (sizes : Sizes) (v : View Attempt (Set D)) (node number : ℕ) → sizes_in v.fixed ≡ sizes → v.begun ≡ [] → Peeks point_in IsRunOf v node number → Looks sizes (heard v) node number
looks {D} sizes v node number fixed fresh peeks = record {
  later = done_turns peeks.0;
  defined = subst (λ es. IsRun sizes es) told (subst (λ s. IsRun s (history_in v.fixed ++ done_in (v.begun ++ events (v.turns ++ peeks.0)))) fixed peeks.3);
  number_is = peeks.1 ∙ ap (λ s. pointed s (history_in v.fixed ++ done_in (v.begun ++ events (v.turns ++ peeks.0))) node) fixed ∙ ap (λ es. pointed sizes es node) told;
  least = peeks.2;
}
  where
    told : history_in v.fixed ++ done_in (v.begun ++ events (v.turns ++ peeks.0)) ≡ history_in v.fixed ++ events (done_turns v.turns ++ done_turns peeks.0)
    told = ap (λ es. history_in v.fixed ++ es)
        (ap (λ l. done_in (l ++ events (v.turns ++ peeks.0))) fresh ∙ sym (events_done (v.turns ++ peeks.0)) ∙ ap (λ ts. events ts) (turns_append v.turns peeks.0))

module _ {D : Type 0} (state : D → State) (sizes : Sizes) (v : View Attempt (Set D)) (value : SetOnBoard D) (fixed : sizes_in v.fixed ≡ sizes) (fresh : v.begun ≡ []) (went : WentBy state value.begun value.set value.tried)
    (ends : EndsWith attempts_kept first_of point_in v value) where
  tried_all : value.tried ≡ events ends.0
  tried_all = ends.1 ∙ ap (λ l. l ++ events ends.0) fresh

  history_all : history_in v.fixed ++ done_in value.tried ≡ value.set.history
  history_all = ap (λ l. history_in l ++ done_in value.tried) (sym ends.2) ∙ sym went.history

  history_heard : value.set.history ≡ history_in v.fixed ++ events (done_turns ends.0)
  history_heard = sym history_all ∙ ap (λ es. history_in v.fixed ++ es) (ap done_in tried_all ∙ sym (events_done ends.0))

  pub closes : Closes sizes (heard v) value.set.history
  closes = record {
    turns = done_turns ends.0;
    history_is = history_heard;
    meets = record {
      begins = turns_begin v.turns ends.0 ends.3;
      calls = stand_done ends.0 v.calls ends.4;
      answers = subst (λ es. AtMost (pointed sizes es) v.answers) (history_all ∙ history_heard)
          (subst (λ s. AtMost (pointed s (history_in v.fixed ++ done_in value.tried)) v.answers) fixed ends.7);
    };
    once = λ pass. subst (λ l. times pass l ≤ 1) (sym (names_done v.calls)) (ends.5 pass);
    no_others = λ pass none. calls_done pass ends.0 ∙ ap done_in (ends.6 pass (ap (λ l. times pass l) (sym (names_done v.calls)) ∙ none));
  }

  pub tries : AllByRecursion (IsInSome (undone_calls v.calls)) (undone_in value.tried)
  tries = subst (λ l. AllByRecursion (IsInSome (undone_calls v.calls)) (undone_in l)) (sym tried_all) (all_tried ends.0 v.calls ends.4 ends.6)

-- it is the set that was shared
pub begun_same : {D : Type 0} (v : View Attempt (Set D)) (value : SetOnBoard D) (begun : Set D) → v.fixed ≡ begun ∷ [] → EndsWith attempts_kept first_of point_in v value → value.begun ≡ begun
begun_same v value begun fixed ends = ap (λ l. slice_index_or l 0 begun) (ends.2 ∙ fixed)
