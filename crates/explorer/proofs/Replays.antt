-- A run of a question that is done again, event by event.
use Rattle.std.proofs.Common.{◌≡◌, ◌∙◌, ◌<◌, ◌+◌, ◌*◌, ◌-◌, ◌^◌, ◌||◌, inl, inr, ap, sym, subst, refl, arith, ℕ, suc, Bool, true, false, List, [], ◌∷◌, ◌++◌, None, append-nil, append_assoc, drop, length, map, slice_get, take, Option, Some, if◌then◌else◌}
use Rattle.std.specs.Prelude.{IfSome, slice_index_or}
use Rattle.std.specs.List.{list_any}
use Rattle.std.proofs.lemmas.Bool.{cases_lt, false≢true}
use Rattle.std.proofs.lemmas.Option.{get_or_from_slice_get, same_Some, slice_get_read, slice_get_within}
use Rattle.std.proofs.lemmas.List.Folds.{list_any_at, list_any_more}
use Rattle.std.proofs.lemmas.List.{drop_more, map-append, take_more}
use Rattle.std.proofs.lemmas.List.Elements.{All-nil}
use Rattle.std.proofs.lemmas.List.Sums.{fold-append}
use Rattle.repl_msg.specs.declared.message.Message.{Message}
use Rattle.rs_optime.specs.Membership.{In}
use Rattle.safety_laws.proofs.Places.{get_in, in_at}
use Rattle.set_model.specs.declared.command.Command.{Command}
use Rattle.set_model.specs.declared.command.Command.TheVariants.{Deliver}
use Rattle.set_model.specs.declared.command.Event.{Event}
use Rattle.set_model.specs.Limits.{Fits}
use Rattle.set_model.specs.Run.{opening}
use Rattle.set_model.specs.World.{World, step}
use Rattle.checker_machine.specs.Reached.{IsReached}
use Rattle.explore_laws.specs.Dead.{has_dead, is_dead_in}
use Rattle.explore_words.specs.declared.question.Act.{Act}
use Rattle.explore_words.specs.declared.question.Question.{Question}
use Rattle.question_laws.specs.Doing.{act_done, event_of, is_done, lines_done, lines_of, world_after}
use Rattle.question_laws.specs.Following.{sizes_in}
use Rattle.question_laws.specs.Lawful.{AreFor}
use Rattle.question_laws.proofs.Fitting.{fits_one, of_command}
use Rattle.explore_steps.specs.declared.doing.First.TheVariants.{Live, Dead}
use Rattle.explore_steps.specs.Courses.{BeginsWith}
use Rattle.explore_steps.specs.Tables.{Tables}
use Rattle.explore_steps.specs.Reaching.{IsOfSet, IsPut, IsReachedBefore}
use Rattle.explore_steps.proofs.Reach.{reached_after, reached_count, reached_less, reached_step}
use Rattle.explorer.specs.declared.replay.Run.{Run}
use Rattle.explorer.specs.Exploring.{IsAsked, most_lines}
use Rattle.explorer.specs.Replaying.{Does, HasBegun, HasDone, IsRunBegun, first_done}

-- ---- one event may be done

module _ (question : Question) (spare : ℕ) (world : World) (command : Command) (event : Event) (is : event ≡ event_of command)
    (of_set : IsOfSet question command) (before : IsReachedBefore (suc spare) question world) where
  pub fits_there : Fits world event
  fits_there =
      subst (Fits world) (sym is)
      (fits_one question.sizes.nodes world command (reached_count question (suc spare) world before)
      (of_command question.sizes.nodes command of_set.is_for of_set.documents))

pub of_lines : (question : Question) (command : Command) (left : List Command) → AreFor question.sizes.nodes (command ∷ left) → IsOfSet question command
of_lines question command left are = record {
  is_for = (are command (inl refl)).0;
  documents = (are command (inl refl)).1;
}

pub of_delivery : (question : Question) (message : ℕ) → IsOfSet question (Deliver message)
of_delivery question message = record { is_for = refl; documents = tt }

-- ---- events are done

pub does_nothing : (run : Run) → Does run run []
does_nothing run = record { machine = refl; more = sym (append-nil run.events.items) }

pub does_more : (old middle new : Run) (first second : List Event) → Does old middle first → Does middle new second → Does old new (first ++ second)
does_more old middle new first second one two = record {
  machine =
      two.machine ∙ ap (λ (w : World). world_after w second) one.machine
      ∙ sym (fold-append (λ (w : World) (event : Event). (step w event).world) old.machine first second);
  more = two.more ∙ ap (λ (es : List Event). es ++ second) one.more ∙ append_assoc old.events.items first second;
}

-- ---- lists of commands, one by one

pub next_left : (lines : List Command) (place : ℕ) (command : Command) → place < length lines → command ≡ slice_index_or lines place command → drop place lines ≡ command ∷ drop (place + 1) lines
next_left lines place command within is = drop_more lines place command within ∙ ap (λ (c : Command). c ∷ drop (place + 1) lines) (sym is)

pub next_done : (lines : List Command) (place : ℕ) (command : Command) → place < length lines → command ≡ slice_index_or lines place command → take place lines ++ command ∷ [] ≡ take (place + 1) lines
next_done lines place command within is = ap (λ (c : Command). take place lines ++ c ∷ []) is ∙ sym (take_more lines place command within)

-- ---- the first one there is

pub none_more : {A : Type 0} (items : List A) (number : ℕ) (wanted found : A) → number < length items → found ≡ slice_index_or items number found → (found ≡ wanted → ⊥)
    → ((place : ℕ) → place < number → slice_get items place ≡ Some wanted → ⊥) → (place : ℕ) → place < number + 1 → slice_get items place ≡ Some wanted → ⊥
none_more items number wanted found within is other none place less there = elim (cases_lt place number) [
  | inl before ↦ none place before there
  | inr after ↦
      let same : number ≡ place = omega (arith, less, after) in
      other (is ∙ ap (λ (n : ℕ). slice_index_or items n found) same ∙ get_or_from_slice_get items place wanted found there)
]

-- what is read at a place is what stands there
pub taken : {A : Type 0} (read items : List A) (place : ℕ) (found item : A) → read ≡ items → found ≡ slice_index_or read place found → slice_get items place ≡ Some item → found ≡ item
taken read items place found item same is there =
    is ∙ ap (λ l. slice_index_or l place found) same ∙ get_or_from_slice_get items place item found there

pub found_there : {A : Type 0} (items : List A) (number : ℕ) (wanted found : A) → number < length items → found ≡ slice_index_or items number found → found ≡ wanted → slice_get items number ≡ Some wanted
found_there items number wanted found within is same = slice_get_read items (length items) number found refl within is ∙ ap (λ x. Some x) same

pub any_more : {A : Type 0} (test : A → Bool) (items : List A) (number : ℕ) (found : A) → number < length items → found ≡ slice_index_or items number found → test found ≡ false
    → list_any test (take number items) ≡ false → list_any test (take (number + 1) items) ≡ false
any_more test items number found within is not none =
    list_any_more test items number found within ∙ ap (λ (b : Bool). b || test (slice_index_or items number found)) none ∙ ap test (sym is) ∙ not

-- ---- the message that an act begins with

pub live_within : (tables : Tables) (number : ℕ) (world : World) (message : Option ℕ) → BeginsWith tables (Live number) world message → number < length tables.messages
live_within tables number world message is = slice_get_within tables.messages number is.1 is.4

pub first_live : (tables : Tables) (number : ℕ) (world : World) (wanted : Message) (message result : Option ℕ) → BeginsWith tables (Live number) world message → slice_get tables.messages number ≡ Some wanted
    → IfSome result (λ place. slice_get world.messages place ≡ Some wanted) → (result ≡ None → In wanted world.messages → ⊥) → BeginsWith tables (Live number) world result
first_live tables number world wanted message None is there some none =
    let same : is.1 ≡ wanted = same_Some is.1 wanted (sym is.4 ∙ there) in
    absurd (none refl (subst (λ (m : Message). In m world.messages) same (get_in world.messages is.0 is.1 is.3)))
first_live tables number world wanted message (Some place) is there some none = (place, wanted, refl, some, there)

pub first_dead : (tables : Tables) (world : World) (message result : Option ℕ) → BeginsWith tables Dead world message
    → IfSome result (λ place. (sent : Message) × (slice_get world.messages place ≡ Some sent) × (is_dead_in world sent ≡ true)) → (result ≡ None → has_dead world ≡ false)
    → BeginsWith tables Dead world result
first_dead tables world message None is some none =
    absurd (false≢true (sym (none refl)
    ∙ list_any_at (is_dead_in world) world.messages is.0 is.1 (slice_get_within world.messages is.0 is.1 is.3)
    (ap (is_dead_in world) (get_or_from_slice_get world.messages is.0 is.1 is.1 is.3) ∙ is.4)))
first_dead tables world message (Some place) is some none = (place, some.0, refl, some.1, some.2)

-- ---- lines of an act

pub lines_first : (before : ℕ) (run : Run) (lines : List Command) (question : Question) → IsPut question → AreFor question.sizes.nodes lines → IsReachedBefore (length lines) question run.machine
    → HasDone before run run lines lines
lines_first before run lines question put commands reached = record {
  done = [];
  does = does_nothing run;
  rest = refl;
  question = question;
  put = put;
  commands = commands;
  reached = reached;
}

pub lines_reached : (before : ℕ) (old now : Run) (lines left : List Command) → HasDone before old now lines left → IsReached now.machine
lines_reached before old now lines left has = reached_after has.question (length left) now.machine has.put.sizes has.reached

module _ (before : ℕ) (old now : Run) (lines : List Command) (command : Command) (left : List Command) (has : HasDone before old now lines (command ∷ left)) where
  abbrev goes_on : Bool → List Event
  goes_on done = if done then event_of command ∷ lines_done before (step now.machine (event_of command)).world left else []

  pub lines_fit : (event : Event) → event ≡ event_of command → Fits now.machine event
  lines_fit event is = fits_there has.question (length left) now.machine command event is (of_lines has.question command left has.commands) has.reached

  -- one is done
  pub lines_more : (new : Run) (event : Event) → event ≡ event_of command → is_done before now.machine command ≡ true → Does now new (event ∷ []) → HasDone before old new lines left
  lines_more new event is done does = record {
    done = has.done ++ event ∷ [];
    does = does_more old now new has.done (event ∷ []) has.does does;
    rest =
        has.rest ∙ ap (λ (b : Bool). has.done ++ goes_on b) done
        ∙ ap (λ (e : Event). has.done ++ e ∷ lines_done before (step now.machine e).world left) (sym is)
        ∙ ap (λ (w : World). has.done ++ event ∷ lines_done before w left) (sym does.machine)
        ∙ sym (append_assoc has.done (event ∷ []) (lines_done before new.machine left));
    question = has.question;
    put = has.put;
    commands = λ found there. has.commands found (inr there);
    reached =
        subst (IsReachedBefore (length left) has.question) (ap (λ (e : Event). (step now.machine e).world) (sym is) ∙ sym does.machine)
        (reached_step has.question (length left) now.machine command (of_lines has.question command left has.commands) has.reached);
  }

  -- one isn't
  pub lines_stop : is_done before now.machine command ≡ false → Does old now (lines_done before old.machine lines)
  lines_stop not_done =
      subst (Does old now) (sym (has.rest ∙ ap (λ (b : Bool). has.done ++ goes_on b) not_done ∙ append-nil has.done)) has.does

-- all are done
pub lines_end : (before : ℕ) (old now : Run) (lines : List Command) → HasDone before old now lines [] → Does old now (lines_done before old.machine lines)
lines_end before old now lines has = subst (Does old now) (sym (has.rest ∙ append-nil has.done)) has.does

-- ---- a whole act

-- after the delivery that it begins with
pub first_reached : (question : Question) (spare : ℕ) (message : Option ℕ) (old middle : Run) → IsReachedBefore (suc spare) question old.machine → Does old middle (first_done message)
    → IsReachedBefore spare question middle.machine
first_reached question spare None old middle reached does =
    subst (IsReachedBefore spare question) (sym does.machine) (reached_less question (suc spare) spare old.machine (omega arith) reached)
first_reached question spare (Some message) old middle reached does =
    subst (IsReachedBefore spare question) (sym does.machine) (reached_step question spare old.machine (Deliver message) (of_delivery question message) reached)

pub first_fits : (question : Question) (spare message : ℕ) (run : Run) (event : Event) → event ≡ event_of (Deliver message) → IsReachedBefore (suc spare) question run.machine → Fits run.machine event
first_fits question spare message run event is reached = fits_there question spare run.machine (Deliver message) event is (of_delivery question message) reached

act_parts : (before : ℕ) (world : World) (act : Act) (message : Option ℕ)
    → lines_done before world (lines_of act message) ≡ first_done message ++ lines_done before (world_after world (first_done message)) act.commands
act_parts before world act None = refl
act_parts before world act (Some message) = refl

pub act_whole : (old middle new : Run) (act : Act) (message : Option ℕ) → Does old middle (first_done message)
    → Does middle new (lines_done (length old.machine.messages) middle.machine act.commands) → Does old new (act_done old.machine act message)
act_whole old middle new act message first rest =
    subst (Does old new)
    (ap (λ (w : World). first_done message ++ lines_done before w act.commands) first.machine ∙ sym (act_parts before old.machine act message))
    (does_more old middle new (first_done message) (lines_done before middle.machine act.commands) first rest)
  where
    before : ℕ
    before = length old.machine.messages

-- ---- the beginning

some_room : (count more most : ℕ) → count + more < most → 0 + count < most
some_room count more most few = omega (arith, few)

pub begun_first : (question : Question) (depth : ℕ) (run : Run) → IsAsked question depth → run.machine ≡ (opening (sizes_in question)).world → run.events.items ≡ []
    → HasBegun question run [] question.beginning
begun_first question depth run asked machine_is events_are = record {
  machine = machine_is;
  events = events_are;
  reached = record {
    events = [];
    is_run = tt;
    whole = All-nil (λ event. event.failed ≡ None);
    few = some_room (length question.beginning) (depth * most_lines question.acts) (2 ^ 32 - 1) asked.short;
    is = machine_is;
  };
}

pub begun_reached : (question : Question) (run : Run) (done left : List Command) → IsPut question → HasBegun question run done left → IsReached run.machine
begun_reached question run done left put has = reached_after question (length left) run.machine put.sizes has.reached

pub of_beginning : (question : Question) (place : ℕ) (command : Command) → IsPut question → place < length question.beginning → command ≡ slice_index_or question.beginning place command → IsOfSet question command
of_beginning question place command put within is =
    let are = put.commands.beginning command (subst (λ (c : Command). In c question.beginning) (sym is) (in_at question.beginning place command within)) in
    record { is_for = are.0; documents = are.1 }

pub begun_more : (question : Question) (now new : Run) (command : Command) (done left : List Command) (event : Event) → HasBegun question now done (command ∷ left) → IsOfSet question command
    → event ≡ event_of command → Does now new (event ∷ []) → HasBegun question new (done ++ command ∷ []) left
begun_more question now new command done left event has of_set is does = record {
  machine =
      does.machine ∙ ap (λ (w : World). (step w event).world) has.machine
      ∙ ap (λ (e : Event). (step (world_after opened (map event_of done)) e).world) is
      ∙ sym (fold-append (λ (w : World) (e : Event). (step w e).world) opened (map event_of done) (event_of command ∷ []))
      ∙ ap (world_after opened) (sym (map-append event_of done (command ∷ [])));
  events =
      does.more ∙ ap (λ (es : List Event). es ++ event ∷ []) has.events ∙ ap (λ (e : Event). map event_of done ++ e ∷ []) is
      ∙ sym (map-append event_of done (command ∷ []));
  reached =
      subst (IsReachedBefore (length left) question) (ap (λ (e : Event). (step now.machine e).world) (sym is) ∙ sym does.machine)
      (reached_step question (length left) now.machine command of_set has.reached);
}
  where
    opened : World
    opened = (opening (sizes_in question)).world

pub begun_whole : (question : Question) (run : Run) → HasBegun question run question.beginning [] → IsRunBegun question run
begun_whole question run has = record { machine = has.machine; events = has.events }
