-- An act goes on line by line.
use Rattle.std.proofs.Common.{◌≡◌, ◌∙◌, ◌<◌, ◌≤◌, ◌+◌, ◌-◌, ◌++◌, ap, sym, subst, refl, arith, get_or, ℕ, zero, suc, Bool, true, false, ◌||◌, Option, None, Some, List, [], ◌∷◌, append-nil, append_assoc, drop, filter, length, slice_get, if◌then◌else◌}
use Rattle.std.proofs.lemmas.List.{length-drop, drop_all}
use Rattle.std.proofs.lemmas.List.Sums.{fold-append}
use Rattle.std.proofs.lemmas.Option.{same_Some, slice_get_read, slice_get_within}
use Rattle.std.specs.List.{list_any}
use Rattle.std.specs.Prelude.{MatchOption}
use Rattle.repl_msg.specs.declared.message.Message.{Message}
use Rattle.safety_laws.proofs.Places.{get_in}
use Rattle.set_model.specs.declared.command.Command.{Command}
use Rattle.set_model.specs.declared.command.Command.TheVariants as commands
use Rattle.set_model.specs.declared.command.Event.{Event}
use Rattle.set_model.specs.Limits.{is_for}
use Rattle.set_model.specs.World.{World, actor, acts, is_between, is_delivery, last_message, latest_between, step, takes, taking, task}
use Rattle.explore_laws.specs.Laws.{DeadMessagesChangeNothing}
use Rattle.explore_words.specs.declared.question.Act.{Act}
use Rattle.explore_words.specs.declared.question.Question.{Question}
use Rattle.explore_words.specs.declared.question.Want.{Want}
use Rattle.question_laws.specs.Doing.{act_done, event_of, is_done, lines_done, world_after}
use Rattle.question_laws.specs.Lawful.{is_numbered}
use Rattle.question_laws.specs.Meeting.{Leaves}
use Rattle.explore_steps.specs.declared.course.Course.{Course}
use Rattle.explore_steps.specs.declared.doing.First.{First}
use Rattle.explore_steps.specs.declared.doing.First.TheVariants.{Nothing, Live, Dead}
use Rattle.explore_steps.specs.Causes.{own, taken}
use Rattle.explore_steps.specs.Courses.{BeginsWith, Goes, GoesAlong, GoesBy, GoesFirst, GoesOver, Happened, HasLed, IsGone, MayHappen, StandsAt, first_events, left_after}
use Rattle.explore_steps.specs.Keeping.{IsLine}
use Rattle.explore_steps.specs.Reaching.{IsOfSet, IsPut}
use Rattle.explore_steps.specs.Tables.{Grow, Tables}
use Rattle.explore_steps.proofs.DeliverLemmas.{dead_happens}
use Rattle.explore_steps.proofs.Growth.{stands_at_grows}
use Rattle.explore_steps.proofs.Reach.{reached_count, reached_less}
use Rattle.explore_steps.proofs.Taking.{drop_next}

pub stands_less : (more spare : ℕ) (tables : Tables) (question : Question) (course : Course) (world : World) (before : ℕ) → spare ≤ more
    → StandsAt more tables question course world before → StandsAt spare tables question course world before
stands_less more spare tables question course world before less stands = record {
  under_way = stands.under_way;
  begun = stands.begun;
  reached = reached_less question more spare world less stands.reached;
  met = stands.met;
  seen = stands.seen;
}

-- ---- one line

pub line_of_set : (question : Question) (act line : ℕ) (command : Command) → IsPut question → IsLine question act line command → IsOfSet question command
line_of_set question act line command put is = record {
  is_for = (put.commands.acts is.0 (get_in question.acts act is.0 is.1) command (get_in is.0.commands line command is.2)).0;
  documents = (put.commands.acts is.0 (get_in question.acts act is.0 is.1) command (get_in is.0.commands line command is.2)).1;
}

pub line_unnumbered : (question : Question) (act line : ℕ) (command : Command) → IsPut question → IsLine question act line command → is_numbered command ≡ false
line_unnumbered question act line command put is = put.lawful.acts is.0 (get_in question.acts act is.0 is.1) command (get_in is.0.commands line command is.2)

-- the act and the line that are read by their places
act_read : (known_acts all : List Act) (place : ℕ) (known found : Act) → all ≡ known_acts → found ≡ get_or all place found → slice_get known_acts place ≡ Some known → known ≡ found
act_read known_acts all place known found all_is found_is there =
    let known_there : slice_get all place ≡ Some known = ap (λ (l : List Act). slice_get l place) all_is ∙ there in
    same_Some known found (sym known_there ∙ slice_get_read all (length all) place found refl (slice_get_within all place known known_there) found_is)

pub lines_read : (known_acts all : List Act) (place : ℕ) (known found : Act) (lines : List Command) → all ≡ known_acts → found ≡ get_or all place found → lines ≡ (get_or all place found).commands
    → slice_get known_acts place ≡ Some known → lines ≡ known.commands
lines_read known_acts all place known found lines all_is found_is lines_are there =
    lines_are ∙ ap (λ (a : Act). a.commands) (sym found_is ∙ sym (act_read known_acts all place known found all_is found_is there))

pub line_read : (question : Question) (act line : ℕ) (all : List Act) (of : Act) (lines : List Command) (found command : Command) → all ≡ question.acts → of ≡ get_or all act of → lines ≡ (get_or all act of).commands
    → found ≡ get_or lines line found → IsLine question act line command → command ≡ found
line_read question act line all of lines found command all_is of_is lines_are found_is is =
    let there : slice_get lines line ≡ Some command = ap (λ (l : List Command). slice_get l line) (lines_read question.acts all act is.0 of lines all_is of_is lines_are is.1) ∙ is.2 in
    same_Some command found (sym there ∙ slice_get_read lines (length lines) line found refl (slice_get_within lines line command there) found_is)

-- what is neither is a node's own command
pub own_line : (command : Command) → is_numbered command ≡ false → ((from to : ℕ) → command ≡ commands.DeliverLatest from to → ⊥) → is_delivery command ≡ false
own_line (commands.Deliver message) unnumbered other = absurd (cc unnumbered)
own_line (commands.DeliverLatest from to) unnumbered other = absurd (other from to refl)
own_line command unnumbered other = refl

pub own_done : (before : ℕ) (world : World) (command : Command) → is_delivery command ≡ false → is_done before world command ≡ true
own_done before world (commands.DeliverLatest from to) own_one = absurd (cc own_one)
own_done before world command own_one = refl

-- ---- the newest message of an act

last_there : (message : Message) (messages : List Message) → last_message (message ∷ messages) ≡ None → ⊥
last_there message [] is = cc is
last_there message (next ∷ messages) is = last_there next messages is

last_on : (message found : Message) (messages : List Message) → last_message messages ≡ Some found → last_message (message ∷ messages) ≡ Some found
last_on message found [] is = absurd (cc is)
last_on message found (next ∷ messages) is = is

pub none_sent : (test : Message → Bool) (messages : List Message) → last_message (filter test messages) ≡ None → list_any test messages ≡ false
none_sent test [] is = refl
none_sent test (message ∷ messages) is = by (test message) is (none_sent test messages)
  where
    by : (b : Bool) → last_message (if b then message ∷ filter test messages else filter test messages) ≡ None → (last_message (filter test messages) ≡ None → list_any test messages ≡ false)
        → (b || list_any test messages) ≡ false
    by true none rest = absurd (last_there message (filter test messages) none)
    by false none rest = rest none

pub one_sent : (test : Message → Bool) (messages : List Message) (found : Message) → last_message (filter test messages) ≡ Some found → list_any test messages ≡ true
one_sent test [] found is = absurd (cc is)
one_sent test (message ∷ messages) found is = by (test message) is (one_sent test messages found)
  where
    by : (b : Bool) → last_message (if b then message ∷ filter test messages else filter test messages) ≡ Some found → (last_message (filter test messages) ≡ Some found → list_any test messages ≡ true)
        → (b || list_any test messages) ≡ true
    by true some rest = refl
    by false some rest = rest some

-- the newest since then is the newest of all
pub latest_since : (before : ℕ) (messages : List Message) (from to : ℕ) (found : Message) → latest_between (drop before messages) from to ≡ Some found → latest_between messages from to ≡ Some found
latest_since zero messages from to found is = is
latest_since (suc before) [] from to found is = is
latest_since (suc before) (message ∷ messages) from to found is = by (is_between from to message) (latest_since before messages from to found is)
  where
    by : (b : Bool) → latest_between messages from to ≡ Some found
        → last_message (if b then message ∷ filter (is_between from to) messages else filter (is_between from to) messages) ≡ Some found
    by true rest = last_on message found (filter (is_between from to) messages) rest
    by false rest = rest

-- its delivery may happen
pub may_latest : (tables : Tables) (question : Question) (course : Course) (from to spare before : ℕ) (world : World) (sent : Message) → IsOfSet question (commands.DeliverLatest from to)
    → StandsAt (suc spare) tables question course world before → latest_between (drop before world.messages) from to ≡ Some sent
    → MayHappen spare tables question course (taken sent) sent.to world before (commands.DeliverLatest from to)
may_latest tables question course from to spare before world sent of_set stands is =
    let takes_it : task world (commands.DeliverLatest from to) ≡ takes sent = ap taking (latest_since before world.messages from to sent is) in
    record { stands = stands; cause_is = takes_it; number_is = ap actor takes_it; of_set = of_set }

-- there was one
pub went_latest : (old_tables new_tables : Tables) (question : Question) (old new : Course) (from to spare before : ℕ) (world : World) (sent : Message) → latest_between (drop before world.messages) from to ≡ Some sent
    → Happened spare new_tables question old new world before (commands.DeliverLatest from to) → IsGone spare old_tables new_tables question old new true world before (commands.DeliverLatest from to)
went_latest old_tables new_tables question old new from to spare before world sent is happened = record {
  done_is = sym (one_sent (is_between from to) (drop before world.messages) sent is);
  went = λ done. happened;
  stayed = λ undone. absurd (cc undone);
}

-- there was none
pub stayed_there : (tables : Tables) (question : Question) (course : Course) (from to spare before : ℕ) (world : World) → latest_between (drop before world.messages) from to ≡ None
    → StandsAt (suc spare) tables question course world before → IsGone spare tables tables question course course false world before (commands.DeliverLatest from to)
stayed_there tables question course from to spare before world is stands = record {
  done_is = sym (none_sent (is_between from to) (drop before world.messages) is);
  went = λ done. absurd (cc done);
  stayed = λ undone. (stands, refl);
}

pub went_own : (old_tables new_tables : Tables) (question : Question) (old new : Course) (spare before : ℕ) (world : World) (command : Command) → is_delivery command ≡ false
    → Happened spare new_tables question old new world before command → IsGone spare old_tables new_tables question old new true world before command
went_own old_tables new_tables question old new spare before world command own_one happened = record {
  done_is = sym (own_done before world command own_one);
  went = λ done. happened;
  stayed = λ undone. absurd (cc undone);
}

-- the node of an own command has a cell
pub at_cell : (question : Question) (act line : ℕ) (command : Command) → IsPut question → IsLine question act line command → (tables : Tables) (course : Course) (world : World) (before spare : ℕ)
    → StandsAt (suc spare) tables question course world before → (number : ℕ) → ((size : ℕ) → is_for size command ≡ true → number < size) → number < length course.cells.items
at_cell question act line command put is tables course world before spare stands number known =
    let within : number < question.sizes.nodes = known question.sizes.nodes (line_of_set question act line command put is).is_for in
    let count : length course.cells.items ≡ length world.nodes = stands.under_way.noted.cells_are.count in
    let all : length world.nodes ≡ question.sizes.nodes = reached_count question (suc spare) world stands.reached in
    omega (arith, within, count, all)

-- it may happen there
pub may_own : (old new : Tables) → Grow old new → (question : Question) (course : Course) (number spare before : ℕ) (world : World) (command : Command) → is_delivery command ≡ false → task world command ≡ acts number
    → IsOfSet question command → StandsAt (suc spare) old question course world before → MayHappen spare new question course (own command) number world before command
may_own old new grow question course number spare before world command own_one is of_set stands = record {
  stands = stands_at_grows old new grow (suc spare) question course world before stands;
  cause_is = (refl, own_one);
  number_is = ap actor is;
  of_set = of_set;
}

-- ---- of answers

pub not_some : (result : Option ℕ) → ((number : ℕ) → result ≡ Some number → ⊥) → result ≡ None
not_some None other = refl
not_some (Some number) other = absurd (other number refl)

pub at_none : (A : Type 0) (B : ℕ → Type 0) (result : Option ℕ) → ((number : ℕ) → result ≡ Some number → ⊥) → MatchOption result A B → A
at_none A B None other is = is
at_none A B (Some number) other is = absurd (other number refl)

-- ---- events together

pub leaves_together : (world : World) (front rest : List Event) (wants middle left : List Want) → Leaves world front wants middle → Leaves (world_after world front) rest middle left → Leaves world (front ++ rest) wants left
leaves_together world [] rest wants middle left first second = subst (λ next. Leaves world rest next left) first second
leaves_together world (event ∷ front) rest wants middle left first second =
    (first.0, first.1, leaves_together (step world event).world front rest first.0 middle left first.2 second)

after_both : (world : World) (front rest : List Event) → world_after world (front ++ rest) ≡ world_after (world_after world front) rest
after_both world front rest = fold-append (λ (w : World) (event : Event). (step w event).world) world front rest

pub led_on : (spare most : ℕ) (middle_tables tables : Tables) (question : Question) (old middle new : Course) (world : World) (before : ℕ) (front rest : List Event)
    → HasLed most middle_tables question old middle world before front → HasLed spare tables question middle new (world_after world front) before rest → HasLed spare tables question old new world before (front ++ rest)
led_on spare most middle_tables tables question old middle new world before front rest first second = record {
  stands = subst (λ (w : World). StandsAt spare tables question new w before) (sym (after_both world front rest)) second.stands;
  leaves = leaves_together world front rest (left_after question old.met) (left_after question middle.met) (left_after question new.met) first.leaves second.leaves;
}

led_by : (spare : ℕ) (tables : Tables) (question : Question) (old new : Course) (world : World) (before : ℕ) (command : Command)
    → Happened spare tables question old new world before command → HasLed spare tables question old new world before (event_of command ∷ [])
led_by spare tables question old new world before command happened = record {
  stands = happened.stands;
  leaves = (left_after question new.met, happened.leaves, refl);
}

-- ---- the message that an act begins with

may_first : (tables : Tables) (question : Question) (course : Course) (spare : ℕ) (world : World) (place : ℕ) (sent : Message) → StandsAt (suc spare) tables question course world (length world.messages)
    → slice_get world.messages place ≡ Some sent → MayHappen spare tables question course (taken sent) sent.to world (length world.messages) (commands.Deliver place)
may_first tables question course spare world place sent stands is = record {
  stands = stands;
  cause_is = ap taking is;
  number_is = ap (λ (found : Option Message). actor (taking found)) is;
  of_set = record { is_for = refl; documents = tt };
}

-- it was delivered
pub first_live : (old_tables new_tables : Tables) (question : Question) (old new : Course) (number : ℕ)
    → ((sent : Message) → slice_get old_tables.messages number ≡ Some sent → GoesBy old_tables new_tables question old new (taken sent) sent.to)
    → GoesFirst old_tables new_tables question old new (Live number)
first_live old_tables new_tables question old new number goes spare world message stands begins =
    subst (λ (m : Option ℕ). HasLed spare new_tables question old new world (length world.messages) (first_events m)) (sym begins.2)
    (led_by spare new_tables question old new world (length world.messages) (commands.Deliver begins.0)
    (goes begins.1 begins.4 spare (length world.messages) world (commands.Deliver begins.0) (may_first old_tables question old spare world begins.0 begins.1 stands begins.3)))

-- that it may be
pub deliver_first : (tables : Tables) (question : Question) (course : Course) (first : First) (number : ℕ) (world : World) (message : Option ℕ) → first ≡ Live number
    → StandsAt 1 tables question course world (length world.messages) → BeginsWith tables first world message
    → (sent : Message) × (w : World) × (before : ℕ) × (command : Command) × (slice_get tables.messages number ≡ Some sent) × MayHappen 0 tables question course (taken sent) sent.to w before command
deliver_first tables question course first number world message is stands begins =
    let so : BeginsWith tables (Live number) world message = subst (λ (f : First). BeginsWith tables f world message) is begins in
    (so.1, world, length world.messages, commands.Deliver so.0, so.4, may_first tables question course 0 world so.0 so.1 stands so.3)

-- nothing was, or one that is dead
pub first_idle : DeadMessagesChangeNothing → (tables : Tables) (question : Question) (put : IsPut question) (course : Course) (first : First) → ((number : ℕ) → first ≡ Live number → ⊥)
    → GoesFirst tables tables question course course first
first_idle nothing_changes tables question put course Nothing other spare world message stands begins =
    subst (λ (m : Option ℕ). HasLed spare tables question course course world (length world.messages) (first_events m)) (sym begins)
    (record { stands = stands_less (suc spare) spare tables question course world (length world.messages) (omega arith) stands; leaves = refl })
first_idle nothing_changes tables question put course (Live number) other spare world message stands begins = absurd (other number refl)
first_idle nothing_changes tables question put course Dead other spare world message stands begins =
    subst (λ (m : Option ℕ). HasLed spare tables question course course world (length world.messages) (first_events m)) (sym begins.2)
    (led_by spare tables question course course world (length world.messages) (commands.Deliver begins.0)
    (dead_happens nothing_changes question put tables course begins.1 begins.1.to spare (length world.messages) world (commands.Deliver begins.0) (may_first tables question course spare world begins.0 begins.1 stands begins.3) begins.4))

-- ---- the first lines were done

-- the lines up to a place
abbrev pub GoesTo : (place : ℕ) → (old_tables new_tables : Tables) → Question → (old new : Course) → List Command → Type 0
GoesTo place old_tables new_tables question old new lines =
    (spare before : ℕ) (world : World) → StandsAt (length lines + spare) old_tables question old world before
    → (events : List Event) × HasLed (length (drop place lines) + spare) new_tables question old new world before events
    × (lines_done before world lines ≡ events ++ lines_done before (world_after world events) (drop place lines))

pub none_yet : (tables : Tables) (question : Question) (course : Course) (lines : List Command) → GoesTo 0 tables tables question course course lines
none_yet tables question course lines spare before world stands = ([], record { stands = stands; leaves = refl }, refl)

module _ (place : ℕ) (old_tables middle_tables new_tables : Tables) (question : Question) (old middle new : Course) (lines : List Command) (so_far : GoesTo place old_tables middle_tables question old middle lines)
    (command : Command) (there : slice_get lines place ≡ Some command) where
  rest_is : drop place lines ≡ command ∷ drop (place + 1) lines
  rest_is = drop_next lines place command there

  room : (spare : ℕ) → length (drop place lines) + spare ≡ suc (length (drop (place + 1) lines) + spare)
  room spare = let count : length (drop place lines) ≡ suc (length (drop (place + 1) lines)) = ap (λ (l : List Command). length l) rest_is in omega (arith, count)

  module _ (spare before : ℕ) (world : World) (stands : StandsAt (length lines + spare) old_tables question old world before) where
    abbrev events : List Event
    events = (so_far spare before world stands).0

    led : HasLed (length (drop place lines) + spare) middle_tables question old middle world before events
    led = (so_far spare before world stands).1

    abbrev now : World
    now = world_after world events

    stands_now : StandsAt (suc (length (drop (place + 1) lines) + spare)) middle_tables question middle now before
    stands_now = subst (λ k. StandsAt k middle_tables question middle now before) (room spare) led.stands

    done_so : lines_done before world lines
        ≡ events ++ (if is_done before now command then event_of command ∷ lines_done before (step now (event_of command)).world (drop (place + 1) lines) else [])
    done_so = (so_far spare before world stands).2 ∙ ap (λ (l : List Command). events ++ lines_done before now l) rest_is

  -- one more
  pub one_more : GoesOver middle_tables new_tables question middle new true command → GoesTo (place + 1) old_tables new_tables question old new lines
  one_more over spare before world stands =
      let is : IsGone (length (drop (place + 1) lines) + spare) middle_tables new_tables question middle new true (now spare before world stands) before command =
      over (length (drop (place + 1) lines) + spare) before (now spare before world stands) (stands_now spare before world stands) in (
        events spare before world stands ++ event_of command ∷ [],
        led_on (length (drop (place + 1) lines) + spare) (length (drop place lines) + spare) middle_tables new_tables question old middle new world before (events spare before world stands) (event_of command ∷ [])
            (led spare before world stands) (led_by (length (drop (place + 1) lines) + spare) new_tables question middle new (now spare before world stands) before command (is.went refl)),
        done_so spare before world stands
            ∙ ap (λ b. events spare before world stands ++ (if b then event_of command ∷ lines_done before (step (now spare before world stands) (event_of command)).world (drop (place + 1) lines) else [])) (sym is.done_is)
            ∙ sym (append_assoc (events spare before world stands) (event_of command ∷ []) (lines_done before (step (now spare before world stands) (event_of command)).world (drop (place + 1) lines)))
            ∙ ap (λ (w : World). (events spare before world stands ++ event_of command ∷ []) ++ lines_done before w (drop (place + 1) lines)) (sym (after_both world (events spare before world stands) (event_of command ∷ []))),
      )

  -- or the last
  pub no_more : GoesOver middle_tables new_tables question middle new false command → GoesAlong old_tables new_tables question old new lines
  no_more over spare before world stands =
      let is : IsGone (length (drop (place + 1) lines) + spare) middle_tables new_tables question middle new false (now spare before world stands) before command =
      over (length (drop (place + 1) lines) + spare) before (now spare before world stands) (stands_now spare before world stands) in
      let stayed : StandsAt (suc (length (drop (place + 1) lines) + spare)) new_tables question new (now spare before world stands) before × (new.met ≡ middle.met) = is.stayed refl in
      let all : lines_done before world lines ≡ events spare before world stands =
      done_so spare before world stands
      ∙ ap (λ b. events spare before world stands ++ (if b then event_of command ∷ lines_done before (step (now spare before world stands) (event_of command)).world (drop (place + 1) lines) else [])) (sym is.done_is)
      ∙ append-nil (events spare before world stands) in
      subst (λ (es : List Event). HasLed spare new_tables question old new world before es) (sym all) (record {
        stands = stands_less (suc (length (drop (place + 1) lines) + spare)) spare new_tables question new (now spare before world stands) before (omega arith) stayed.0;
        leaves = subst (λ k. Leaves world (events spare before world stands) (left_after question old.met) (left_after question k)) (sym stayed.1) (led spare before world stands).leaves;
      })

-- all of them
pub all_gone : (place : ℕ) (old_tables new_tables : Tables) (question : Question) (old new : Course) (lines : List Command) → length lines ≤ place
    → GoesTo place old_tables new_tables question old new lines → GoesAlong old_tables new_tables question old new lines
all_gone place old_tables new_tables question old new lines within so_far spare before world stands =
    let gone = so_far spare before world stands in
    let all : lines_done before world lines ≡ gone.0 = gone.2 ∙ ap (λ (l : List Command). gone.0 ++ lines_done before (world_after world gone.0) l) (drop_all place lines within) ∙ append-nil gone.0 in
    subst (λ (es : List Event). HasLed spare new_tables question old new world before es) (sym all) (record {
      stands = stands_less (length (drop place lines) + spare) spare new_tables question new (world_after world gone.0) before (omega arith) gone.1.stands;
      leaves = gone.1.leaves;
    })

-- some line is left to be done
pub may_go_on : (place : ℕ) (old_tables tables : Tables) (question : Question) (old course : Course) (lines : List Command) → GoesTo place old_tables tables question old course lines → place < length lines
    → (world : World) (before : ℕ) → StandsAt (length lines) old_tables question old world before → (w : World) × (b : ℕ) × StandsAt 1 tables question course w b
may_go_on place old_tables tables question old course lines so_far within world before stands =
    let gone = so_far 0 before world (stands_less (length lines) (length lines + 0) old_tables question old world before (omega arith) stands) in
    let left : length (drop place lines) ≡ length lines - place = length-drop place lines in
    (world_after world gone.0, before, stands_less (length (drop place lines) + 0) 1 tables question course (world_after world gone.0) before (omega (arith, left, within)) gone.1.stands)

-- ---- an act

act_parts : (world : World) (act : Act) (message : Option ℕ)
    → act_done world act message ≡ first_events message ++ lines_done (length world.messages) (world_after world (first_events message)) act.commands
act_parts world act None = refl
act_parts world act (Some message) = refl

pub act_gone : (old_tables middle_tables new_tables : Tables) (question : Question) (old middle new : Course) (first : First) (act : Act) → GoesFirst old_tables middle_tables question old middle first
    → GoesAlong middle_tables new_tables question middle new act.commands → Goes old_tables new_tables question old new first act
act_gone old_tables middle_tables new_tables question old middle new first act begins along spare world message may =
    let led : HasLed (length act.commands + spare) middle_tables question old middle world (length world.messages) (first_events message) =
    begins (length act.commands + spare) world message
    (stands_less (suc (length act.commands) + spare) (suc (length act.commands + spare)) old_tables question old world (length world.messages) (omega arith) may.stands) may.first_is in
    subst (λ (es : List Event). HasLed spare new_tables question old new world (length world.messages) es) (sym (act_parts world act message))
    (led_on spare (length act.commands + spare) middle_tables new_tables question old middle new world (length world.messages) (first_events message)
    (lines_done (length world.messages) (world_after world (first_events message)) act.commands) led
    (along spare (length world.messages) (world_after world (first_events message)) led.stands))
