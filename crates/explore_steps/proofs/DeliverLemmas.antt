-- A message is delivered in an act: it was sent, and where it is dead nothing changes.
use Rattle.std.proofs.Common.{◌≡◌, ◌∙◌, ◌<◌, ap, sym, subst, arith, get_or, ℕ, suc, Bool, true, false, Some, List, length, slice_get}
use Rattle.std.proofs.lemmas.Option.{same_Some}
use Rattle.repl_msg.specs.declared.message.Message.{Message}
use Rattle.rs_optime.specs.Membership.{In}
use Rattle.safety_laws.specs.Bounds.{NumbersStaySmall}
use Rattle.safety_laws.specs.Laws.{InEveryRun}
use Rattle.safety_laws.proofs.Frame.{task_sent}
use Rattle.set_model.specs.declared.command.Command.{Command}
use Rattle.set_model.specs.Node.{Node}
use Rattle.set_model.specs.World.{World, step}
use Rattle.explore_laws.specs.Dead.{is_dead, is_dead_in}
use Rattle.explore_laws.specs.Laws.{DeadMessagesChangeNothing}
use Rattle.explore_laws.proofs.AlikeWorlds.{dead_alike}
use Rattle.explore_words.specs.declared.question.Question.{Question}
use Rattle.question_laws.specs.Doing.{event_of}
use Rattle.question_laws.proofs.DeadEvents.{dead_stays, leaves_all}
use Rattle.explore_steps.specs.declared.course.Course.{Course}
use Rattle.explore_steps.specs.Causes.{Cause, taken}
use Rattle.explore_steps.specs.Courses.{Happened, MayHappen, StandsAt, left_after}
use Rattle.explore_steps.specs.Reaching.{IsPut, IsReachedBefore}
use Rattle.explore_steps.specs.Standing.{IsHanded}
use Rattle.explore_steps.specs.Tables.{AreOf, Grow, IsCell, StandsFor, Tables}
use Rattle.explore_steps.proofs.AddLemmas.{cell_at}
use Rattle.explore_steps.proofs.Cells.{dead_in_cell}
use Rattle.explore_steps.proofs.CourseLemmas.{lawful_from}
use Rattle.explore_steps.proofs.Growth.{stands_at_grows}
use Rattle.explore_steps.proofs.Reach.{reached_count, reached_less, reached_step}
use Rattle.explore_steps.proofs.TakeLemmas.{to_node}

-- the cell of the receiver of a message, by its number
pub same_message : (messages : List Message) (at : ℕ) (message found : Message) → slice_get messages at ≡ Some message → slice_get messages at ≡ Some found → message ≡ found
same_message messages at message found is found_is = same_Some message found (sym is ∙ found_is)

pub cell_of : (messages : List Message) (at : ℕ) (message found : Message) (cells : List ℕ) (cell : ℕ) → slice_get messages at ≡ Some message → slice_get messages at ≡ Some found
    → message.to < length cells → cell ≡ get_or cells found.to cell → slice_get cells message.to ≡ Some cell
cell_of messages at message found cells cell is found_is within read =
    cell_at cells message.to cell within (read ∙ ap (λ (m : Message). get_or cells m.to cell) (sym (same_message messages at message found is found_is)))

-- it may happen where the tables have grown
pub may_grows : (old new : Tables) → Grow old new → (question : Question) (course : Course) (cause : Cause) (number other spare before : ℕ) (world : World) (command : Command) → number ≡ other
    → MayHappen spare old question course cause number world before command → MayHappen spare new question course cause other world before command
may_grows old new grow question course cause number other spare before world command same may = record {
  stands = stands_at_grows old new grow (suc spare) question course world before may.stands;
  cause_is = may.cause_is;
  number_is = may.number_is ∙ same;
  of_set = may.of_set;
}

-- ---- where it is known what is sent to whom

module _ (small : InEveryRun NumbersStaySmall) (question : Question) (put : IsPut question) (tables : Tables) (old : Course) (message : Message) (number spare before : ℕ) (world : World) (command : Command)
    (may : MayHappen spare tables question old (taken message) number world before command) where
  abbrev are : AreOf tables old.cells.items world
  are = may.stands.under_way.noted.cells_are

  pub was_sent : In message world.messages
  was_sent = task_sent world command message may.cause_is

  pub receiver_within : message.to < length old.cells.items
  receiver_within =
      let within : message.to < question.sizes.nodes = to_node small question (suc spare) world put.sizes may.stands.reached message was_sent in
      let count : length old.cells.items ≡ length world.nodes = are.count in
      let all : length world.nodes ≡ question.sizes.nodes = reached_count question (suc spare) world may.stands.reached in
      omega (arith, within, count, all)

  module _ (cell : ℕ) (there : slice_get old.cells.items message.to ≡ Some cell) where
    stands : StandsFor tables cell world message.to
    stands = are.each message.to cell there

    alive : In message stands.messages → is_dead stands.node message ≡ false
    alive listed = sym (dead_alike stands.own stands.node message stands.alike) ∙ (stands.sent message listed).2

    pub dead_told : (told : Bool)
        → ((node : Node) (messages : List Message) → IsCell tables cell node messages → (In message messages → is_dead node message ≡ false) → told ≡ is_dead node message)
        → is_dead_in world message ≡ told
    dead_told told tells =
        dead_in_cell tables old.cells.items world message cell stands.node stands.messages are there stands.is_cell
        ∙ sym (tells stands.node stands.messages stands.is_cell alive)

    pub handed : (at : ℕ) → slice_get tables.messages at ≡ Some message → IsHanded tables question at cell message
    handed at is = record {
      world = world;
      reached = reached_less question (suc spare) 0 world (omega arith) may.stands.reached;
      message_is = is;
      there = was_sent;
      stands = stands;
    }

-- ---- a dead one

module _ (nothing_changes : DeadMessagesChangeNothing) (question : Question) (put : IsPut question) (tables : Tables) (old : Course) (message : Message) (number spare before : ℕ) (world : World) (command : Command)
    (may : MayHappen spare tables question old (taken message) number world before command) (dead : is_dead_in world message ≡ true) where
  stays : (step world (event_of command)).world ≡ world
  stays = dead_stays nothing_changes world command message may.cause_is dead

  pub dead_happens : Happened spare tables question old old world before command
  dead_happens = record {
    stands = subst (λ (w : World). StandsAt spare tables question old w before) (sym stays) (record {
      under_way = may.stands.under_way;
      begun = may.stands.begun;
      reached = subst (λ (w : World). IsReachedBefore spare question w) stays (reached_step question spare world command may.of_set may.stands.reached);
      met = may.stands.met;
      seen = may.stands.seen;
    });
    leaves = leaves_all nothing_changes world command message may.cause_is dead (left_after question old.met) (lawful_from question old.met put.lawful) may.stands.seen;
  }
