-- A course takes a step: where it stands then, and what it has met.
use Rattle.std.proofs.Common.{◌≡◌, ◌∙◌, ◌<◌, ◌≤◌, ◌+◌, inl, inr, ap, sym, subst, refl, arith, ℕ, suc, Bool, true, false, ◌&&◌, ◌||◌, Some, List, ◌++◌, drop, filter, not, length, length-append, map, slice_get, slice_set, if◌then◌else◌}
use Rattle.std.proofs.lemmas.Bool.{cases_eq}
use Rattle.std.proofs.lemmas.List.{drop-append-le, drop_at, map-append, take_all}
use Rattle.std.proofs.lemmas.Option.{same_Some}
use Rattle.commit_machine.proofs.Growth.{in_right}
use Rattle.repl_msg.specs.declared.message.Message.{Message}
use Rattle.rs_optime.specs.Membership.{In}
use Rattle.safety_laws.specs.Bounds.{NumbersStaySmall}
use Rattle.safety_laws.specs.Laws.{InEveryRun}
use Rattle.safety_laws.proofs.Places.{get_set_other, get_set_same}
use Rattle.set_model.specs.declared.command.Command.{Command}
use Rattle.set_model.specs.declared.command.Event.{Event}
use Rattle.set_model.specs.Node.{Node}
use Rattle.set_model.specs.Run.{AreSizes, run, world_at}
use Rattle.set_model.specs.World.{World, step}
use Rattle.explore_laws.specs.Alike.{AlikeNodes}
use Rattle.explore_laws.specs.Dead.{is_dead}
use Rattle.explore_laws.specs.Settled.{AreSettled}
use Rattle.explore_laws.proofs.AlikeWorlds.{nodes_on}
use Rattle.explore_words.specs.declared.question.Question.{Question}
use Rattle.question_laws.specs.Doing.{event_of}
use Rattle.question_laws.specs.Following.{sizes_in}
use Rattle.question_laws.specs.Meeting.{LeavesAfter, unseen}
use Rattle.question_laws.proofs.Wants.{unseen_again}
use Rattle.explore_steps.specs.declared.course.Course.{Course}
use Rattle.explore_steps.specs.declared.deed.Step.{Step}
use Rattle.explore_steps.specs.Causes.{Cause}
use Rattle.explore_steps.specs.Courses.{AreCells, Happened, IsNoted, MayHappen, left_after, with_all}
use Rattle.explore_steps.specs.Reaching.{IsPut, IsReachedBefore}
use Rattle.explore_steps.specs.Stepping.{IsStepOf}
use Rattle.explore_steps.specs.Tables.{AreNoted, AreNumbers, AreOf, AreUnderWay, Grow, HasCell, IsCell, StandsFor, Tables}
use Rattle.explore_steps.proofs.AlikeSound.{alike_back}
use Rattle.explore_steps.proofs.Cells.{one_node}
use Rattle.explore_steps.proofs.CourseLemmas.{fits_from}
use Rattle.explore_steps.proofs.Covering.{there_too}
use Rattle.explore_steps.proofs.Growth.{numbers_grow}
use Rattle.explore_steps.proofs.Numbers.{in_contains}
use Rattle.explore_steps.proofs.Reach.{reached_count, reached_settled, reached_step}
use Rattle.explore_steps.proofs.Sights.{unseen_still}
use Rattle.explore_steps.proofs.Taking.{IsTaken, leaves_step, takes_step}

-- each message is for a node of the set
pub to_node : InEveryRun NumbersStaySmall → (question : Question) (spare : ℕ) (world : World) → AreSizes (sizes_in question) → IsReachedBefore spare question world → (message : Message) → In message world.messages
    → message.to < question.sizes.nodes
to_node small question spare world sizes reached message sent =
    ((small (sizes_in question) reached.events sizes reached.is_run).messages (length reached.events) message
    (in_contains message (world_at (sizes_in question) reached.events (length reached.events)).messages
    (subst (λ (w : World). In message w.messages) (reached.is ∙ ap (λ (es : List Event). (run (sizes_in question) es).world) (sym (take_all (length reached.events) reached.events (omega arith)))) sent))).receiver

numbers_join : (tables : Tables) (one two : List ℕ) (first second : List Message) → AreNumbers tables one first → AreNumbers tables two second → AreNumbers tables (one ++ two) (first ++ second)
numbers_join tables one two first second is also =
    map-append (slice_get tables.messages) one two ∙ ap (λ l. l ++ map (slice_get tables.messages) two) is ∙ ap (λ l. map Some first ++ l) also ∙ sym (map-append Some first second)

module _ (small : InEveryRun NumbersStaySmall) (question : Question) (put : IsPut question) (tables : Tables) (old : Course) (cause : Cause) (number cell step_at : ℕ)
    (cell_there : slice_get old.cells.items number ≡ Some cell) (is : IsStepOf tables question cause cell step_at) (spare before : ℕ) (world : World) (command : Command)
    (may : MayHappen spare tables question old cause number world before command) where
  abbrev after : World
  after = (step world (event_of command)).world

  abbrev cells : List ℕ
  cells = slice_set old.cells.items number is.step.cell

  abbrev dead : Bool
  dead = old.dead || (old.notes_dead && is.step.kills)

  abbrev are : AreOf tables old.cells.items world
  are = may.stands.under_way.noted.cells_are

  count : length world.nodes ≡ question.sizes.nodes
  count = reached_count question (suc spare) world may.stands.reached

  settled : AreSettled world
  settled = reached_settled question (suc spare) world may.stands.reached

  pub after_reached : IsReachedBefore spare question after
  after_reached = reached_step question spare world command may.of_set may.stands.reached

  pub taken : IsTaken tables old.notes_dead cells dead is.deed.sent.items world after
  taken = takes_step question tables old.cells.items world command cause number cell step_at count settled are cell_there is may.cause_is may.number_is old.notes_dead old.dead may.stands.under_way.noted

  messages_are : after.messages ≡ world.messages ++ taken.sent
  messages_are = ap (λ (w : World). w.messages) taken.after_is ∙ ap (λ (l : List Message). l ++ taken.sent) taken.messages

  pub sent_within : (message : Message) → In message taken.sent → message.to < length cells
  sent_within message there =
      let within : message.to < question.sizes.nodes = to_node small question spare after put.sizes after_reached message
      (subst (λ (l : List Message). In message l) (sym messages_are) (in_right message world.messages taken.sent there)) in
      let many : length cells ≡ length taken.moved.nodes = taken.noted.cells_are.count in
      let same : length after.nodes ≡ length taken.moved.nodes = ap (λ (w : World). length w.nodes) taken.after_is in
      let all : length after.nodes ≡ question.sizes.nodes = reached_count question spare after after_reached in
      omega (arith, within, many, same, all)

  -- ---- once what was sent is in the cells

  module _ (new_tables : Tables) (grow : Grow tables new_tables) (new : Course) (notes_are : new.notes_dead ≡ old.notes_dead) (sent_are : new.sent.items ≡ old.sent.items ++ is.deed.sent.items)
      (noted : IsNoted new_tables new (with_all taken.moved taken.sent)) where
    pub after_noted : IsNoted new_tables new after
    after_noted = subst (IsNoted new_tables new) (sym taken.after_is) noted

    dropped : drop before after.messages ≡ drop before world.messages ++ taken.sent
    dropped = ap (drop before) messages_are ∙ drop-append-le before world.messages taken.sent may.stands.begun

    pub after_under_way : AreUnderWay new_tables new.notes_dead new.cells.items new.sent.items new.dead after before
    after_under_way = record {
      noted = after_noted;
      sent_are = ap (map (slice_get new_tables.messages)) sent_are
          ∙ numbers_join new_tables old.sent.items is.deed.sent.items (drop before world.messages) taken.sent
          (numbers_grow tables new_tables grow old.sent.items (drop before world.messages) may.stands.under_way.sent_are)
          (numbers_grow tables new_tables grow is.deed.sent.items taken.sent taken.sent_are)
          ∙ ap (map Some) (sym dropped);
    }

    after_begun : before ≤ length after.messages
    after_begun =
        let begun : before ≤ length world.messages = may.stands.begun in
        let many : length after.messages ≡ length world.messages + length taken.sent = ap (λ (l : List Message). length l) messages_are ∙ length-append world.messages taken.sent in
        omega (arith, begun, many)

    -- what was to be seen before was met
    module _ (meets : Bool) (in_it : meets ≡ true → In old.met is.deed.meets.items) (out_of_it : meets ≡ false → In old.met is.deed.meets.items → ⊥) where
      abbrev met : ℕ
      met = if meets then old.met + 1 else old.met

      leaves : LeavesAfter world (event_of command) (left_after question old.met) (unseen after (left_after question met))
      leaves = leaves_step question tables old.cells.items world command cause number cell step_at count settled are cell_there is may.cause_is may.number_is old.met meets put.lawful.wants in_it out_of_it

      -- after a look
      pub happens_seen : (last : Course) → last.notes_dead ≡ new.notes_dead → last.cells ≡ new.cells → last.sent ≡ new.sent → last.dead ≡ new.dead → last.met ≤ length question.wants
          → (last_tables : Tables) → AreUnderWay last_tables new.notes_dead new.cells.items new.sent.items new.dead after before
          → left_after question last.met ≡ unseen after (left_after question met) → Happened spare last_tables question old last world before command
      happens_seen last notes_same cells_same sent_same dead_same within last_tables under_way left = record {
        stands = record {
          under_way =
              subst (λ n. AreUnderWay last_tables n last.cells.items last.sent.items last.dead after before) (sym notes_same)
              (subst (λ c. AreUnderWay last_tables new.notes_dead c.items last.sent.items last.dead after before) (sym cells_same)
              (subst (λ s. AreUnderWay last_tables new.notes_dead new.cells.items s.items last.dead after before) (sym sent_same)
              (subst (λ d. AreUnderWay last_tables new.notes_dead new.cells.items new.sent.items d after before) (sym dead_same) under_way)));
          begun = after_begun;
          reached = after_reached;
          met = within;
          seen = ap (unseen after) left ∙ unseen_again after (left_after question met) ∙ sym left;
        };
        leaves = subst (LeavesAfter world (event_of command) (left_after question old.met)) (sym left) leaves;
      }

      -- no look is needed where no want was met and the node is the same
      module _ (unmet : meets ≡ false) (unmoved : is.step.moves ≡ false) where
        -- the node that is kept is the same at each place
        same_kept : (place one two : ℕ) → slice_get old.cells.items place ≡ Some one → slice_get cells place ≡ Some two → (first : StandsFor tables one world place) (second : StandsFor tables two taken.moved place)
            → first.node ≡ second.node
        same_kept place one two one_is two_is first second = elim (cases_eq number place) [
          | inl same ↦ at_node (same_Some cell one (sym cell_there ∙ ap (slice_get old.cells.items) same ∙ one_is))
              (same_Some is.step.cell two (sym (get_set_same old.cells.items number is.step.cell cell cell_there) ∙ ap (slice_get cells) same ∙ two_is))
          | inr apart ↦ elsewhere (same_Some one two (sym one_is ∙ sym (get_set_other old.cells.items number place is.step.cell apart) ∙ two_is))
        ]
          where
            at_node : cell ≡ one → is.step.cell ≡ two → first.node ≡ second.node
            at_node one_same two_same =
                one_node tables one first.node is.node first.messages is.messages first.is_cell (subst (λ c. IsCell tables c is.node is.messages) one_same is.goes.was)
                ∙ sym (is.goes.stays unmoved)
                ∙ one_node tables two is.does.after second.node (filter (λ message. not (is_dead is.does.after message)) is.messages) second.messages (subst (λ c. IsCell tables c is.does.after (filter (λ message. not (is_dead is.does.after message)) is.messages)) two_same is.goes.is) second.is_cell

            elsewhere : one ≡ two → first.node ≡ second.node
            elsewhere same = one_node tables two first.node second.node first.messages second.messages (subst (λ c. IsCell tables c first.node first.messages) same first.is_cell) second.is_cell

        kept_alike : (place : ℕ) (a b : Node) → slice_get world.nodes place ≡ Some a → slice_get after.nodes place ≡ Some b → AlikeNodes a b
        kept_alike place a b a_there b_there =
            let cell_of : (c : ℕ) × (slice_get old.cells.items place ≡ Some c) = there_too world.nodes old.cells.items place a are.count a_there in
            let first : StandsFor tables cell_of.0 world place = are.each place cell_of.0 cell_of.1 in
            let moved_there : slice_get taken.moved.nodes place ≡ Some b = ap (λ (w : World). slice_get w.nodes place) (sym taken.after_is) ∙ b_there in
            let new_cell : (c : ℕ) × (slice_get cells place ≡ Some c) = there_too taken.moved.nodes cells place b taken.noted.cells_are.count moved_there in
            let second : StandsFor tables new_cell.0 taken.moved place = taken.noted.cells_are.each place new_cell.0 new_cell.1 in
            subst (λ (n : Node). AlikeNodes n b) (same_Some first.own a (sym first.there ∙ a_there))
            (subst (λ (n : Node). AlikeNodes first.own n) (same_Some second.own b (sym second.there ∙ moved_there))
            (nodes_on first.own first.node second.own first.alike (alike_back second.own first.node (subst (AlikeNodes second.own) (sym (same_kept place cell_of.0 new_cell.0 cell_of.1 new_cell.1 first second)) second.alike))))

        pub still_left : left_after question old.met ≡ unseen after (left_after question met)
        still_left =
            sym may.stands.seen ∙ unseen_still question.sizes.nodes world after count (reached_count question spare after after_reached) settled (reached_settled question spare after after_reached) kept_alike
            (left_after question old.met) (fits_from question.sizes.nodes old.met question.wants put.wants)
            ∙ ap (λ b. unseen after (left_after question (if b then old.met + 1 else old.met))) (sym unmet)

-- ---- of answers

pub cells_of : (tables : Tables) (cells : List ℕ) (world : World) → AreOf tables cells world → AreCells tables cells
cells_of tables numbers world are place cell there = let stands : StandsFor tables cell world place = are.each place cell there in (stands.node, stands.messages, stands.is_cell)

pub met_fits : (meets : Bool) (met now most : ℕ) → (meets ≡ true → met < most) → met ≤ most → now ≡ (if meets then met + 1 else met) → now ≤ most
met_fits true met now most more within is = let less : met < most = more refl in omega (arith, less, is)
met_fits false met now most more within is = omega (arith, within, is)

module _ (tables : Tables) (question : Question) (cause : Cause) (cell step_at : ℕ) (is : IsStepOf tables question cause cell step_at) (result : Step) (result_is : slice_get tables.steps step_at ≡ Some result) where
  pub step_same : is.step ≡ result
  step_same = same_Some is.step result (sym is.step_is ∙ result_is)

  pub deed_there : slice_get tables.deeds result.deed ≡ Some is.deed
  deed_there = subst (λ (s : Step). slice_get tables.deeds s.deed ≡ Some is.deed) step_same is.deed_is

  pub step_cell : HasCell tables result.cell
  step_cell = subst (λ (s : Step). HasCell tables s.cell) step_same (is.does.after, filter (λ message. not (is_dead is.does.after message)) is.messages, is.goes.is)

-- numbers that come after others
pub last_numbers : (tables : Tables) (old more all found : List ℕ) (count : ℕ) (messages : List Message) → count ≡ length old → all ≡ old ++ found → found ≡ more → AreNumbers tables more messages → AreNumbers tables (drop count all) messages
last_numbers tables old more all found count messages count_is all_is found_is are =
    subst (λ (l : List ℕ). AreNumbers tables l messages) (sym (ap (drop count) all_is ∙ drop_at old found count (sym count_is) ∙ found_is)) are

-- what was sent is in the cells, whatever the world
pub added : (small : InEveryRun NumbersStaySmall) (question : Question) (put : IsPut question) (tables : Tables) (old : Course) (cause : Cause) (number cell step_at : ℕ)
    (cell_there : slice_get old.cells.items number ≡ Some cell) (is : IsStepOf tables question cause cell step_at) (spare before : ℕ) (world : World) (command : Command)
    (may : MayHappen spare tables question old cause number world before command) (result : Step) → slice_get tables.steps step_at ≡ Some result
    → (told : Bool) → told ≡ (old.dead || (old.notes_dead && result.kills)) → (all found : List ℕ) (count : ℕ) → count ≡ length old.sent.items → all ≡ old.sent.items ++ found → found ≡ is.deed.sent.items
    → (new_tables : Tables) (new : Course)
    → ((messages : List Message) (w : World) → AreNumbers tables (drop count all) messages → AreNoted tables old.notes_dead (slice_set old.cells.items number result.cell) told w → IsNoted new_tables new (with_all w messages))
    → IsNoted new_tables new
    (with_all (taken small question put tables old cause number cell step_at cell_there is spare before world command may).moved (taken small question put tables old cause number cell step_at cell_there is spare before world command may).sent)
added small question put tables old cause number cell step_at cell_there is spare before world command may result result_is told told_is all found count count_is all_is found_is new_tables new adds =
    let on = taken small question put tables old cause number cell step_at cell_there is spare before world command may in
    adds on.sent on.moved (last_numbers tables old.sent.items is.deed.sent.items all found count on.sent count_is all_is found_is on.sent_are)
    (subst (λ d. AreNoted tables old.notes_dead (slice_set old.cells.items number result.cell) d on.moved) (sym told_is)
    (subst (λ (s : Step). AreNoted tables old.notes_dead (slice_set old.cells.items number s.cell) (old.dead || (old.notes_dead && s.kills)) on.moved)
    (step_same tables question cause cell step_at is result result_is) on.noted))
