-- What the nodes of cells are to which a search comes.
use Rattle.std.proofs.Common.{◌≡◌, ◌∙◌, ap, sym, subst, ℕ, Some, List, slice_get}
use Rattle.repl_msg.specs.declared.message.Message.{Message}
use Rattle.set_model.specs.Node.{Node}
use Rattle.set_model.specs.World.{World}
use Rattle.checker_machine.specs.Reached.{AreSound, CanBeTaken}
use Rattle.explore_words.specs.declared.question.Question.{Question}
use Rattle.explore_steps.specs.declared.deed.Step.{Step}
use Rattle.explore_steps.specs.Causes.{Cause}
use Rattle.explore_steps.specs.Keeping.{ComesTo, HasAfter, HasDeed}
use Rattle.explore_steps.specs.Reaching.{IsReachedBefore}
use Rattle.explore_steps.specs.Standing.{AreCome, CanTakeAt, IsCome, IsHanded, IsSoundAt}
use Rattle.explore_steps.specs.Stepping.{IsMove, IsStepOf}
use Rattle.explore_steps.specs.Tables.{Grow, HasCell, IsCell, Tables}
use Rattle.explore_steps.proofs.AlikeSound.{sound_alike, takes_alike}
use Rattle.explore_steps.proofs.Growth.{numbers_grow}
use Rattle.explore_steps.proofs.Numbers.{in_contains}
use Rattle.explore_steps.proofs.Reading.{node_at_pair}
use Rattle.std.proofs.lemmas.Option.{same_Some}

pub come_cell : (tables : Tables) (question : Question) (cell : ℕ) → IsCome tables question cell → HasCell tables cell
come_cell tables question cell come = (come.3.node, come.3.messages, come.3.is_cell)

pub handed_cell : (tables : Tables) (question : Question) (message cell : ℕ) (sent : Message) → IsHanded tables question message cell sent → HasCell tables cell
handed_cell tables question message cell sent is = (is.stands.node, is.stands.messages, is.stands.is_cell)

module _ (question : Question) (tables : Tables) (cell node_at list : ℕ) (there : slice_get tables.cells cell ≡ Some (node_at, list)) where
  pub come_sound : ((world : World) → IsReachedBefore 0 question world → AreSound world) → IsCome tables question cell → IsSoundAt tables node_at
  come_sound sound (world, number, reached, stands) = (
    stands.node,
    node_at_pair tables cell (node_at, list) there stands.node stands.messages stands.is_cell,
    sound_alike stands.own stands.node stands.alike (sound world reached number stands.own stands.there),
  )

  pub handed_takes : ((world : World) → IsReachedBefore 0 question world → CanBeTaken world) → (message : ℕ) (sent : Message) → IsHanded tables question message cell sent
      → CanTakeAt tables node_at message
  handed_takes taken message sent is = record {
    node = is.stands.node;
    sent = sent;
    node_is = node_at_pair tables cell (node_at, list) there is.stands.node is.stands.messages is.stands.is_cell;
    message_is = is.message_is;
    can = λ up. takes_alike is.stands.own is.stands.node sent is.stands.alike
        ((taken is.world is.reached sent (in_contains sent is.world.messages is.there)).1 is.stands.own is.stands.there (ap (λ (n : Node). n.up) is.stands.alike.others ∙ up));
  }

-- cells of a world, one by one
pub each_come : (tables : Tables) (question : Question) (cells : List ℕ) → AreCome tables question cells → (place cell : ℕ) → slice_get cells place ≡ Some cell → IsCome tables question cell
each_come tables question cells (world, reached, are) place cell there = (world, place, reached, are.each place cell there)

-- ---- a step that is computed

pub deed_after : (tables : Tables) (question : Question) (cause : Cause) (node number : ℕ) → HasDeed tables question cause node number → HasAfter tables number
deed_after tables question cause node number has = (has.deed, has.does.after, has.deed_is, has.does.is)

pub step_done : (old new : Tables) → Grow old new → (question : Question) (cause : Cause) (cell node_at list number step_at : ℕ) → slice_get old.cells cell ≡ Some (node_at, list)
    → HasCell old cell → HasDeed old question cause node_at number → ComesTo old new cell number step_at → IsStepOf new question cause cell step_at
step_done old new grow question cause cell node_at list number step_at there (node, messages, is) has comes =
    let node_is : has.at ≡ node = same_Some has.at node (sym has.node_is ∙ node_at_pair old cell (node_at, list) there node messages is) in
    let came : (step : Step) × (slice_get new.steps step_at ≡ Some step) × (step.deed ≡ number) × IsMove new cell has.at has.does.after messages step =
    comes has.deed has.at has.does.after messages has.deed_is has.does.is (subst (λ (n : Node). IsCell old cell n messages) (sym node_is) is) in
    record {
      step = came.0;
      deed = has.deed;
      node = has.at;
      messages = messages;
      step_is = came.1;
      deed_is = ap (slice_get new.deeds) came.2 ∙ grow.deeds number has.deed has.deed_is;
      does = record {
        after = has.does.after;
        is = grow.nodes has.deed.node has.does.after has.does.is;
        alike = has.does.alike;
        sent = numbers_grow old new grow has.deed.sent.items _ has.does.sent;
        meets = has.does.meets;
        within = has.does.within;
      };
      goes = came.3;
    }
