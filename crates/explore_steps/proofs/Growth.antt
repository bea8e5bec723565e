-- Tables grow: what numbers stood for they stand for.
use Rattle.std.proofs.Common.{◌≡◌, ◌∙◌, ap, ap₂, refl, ℕ, Bool, Option, None, Some, List, [], ◌∷◌, map, slice_get}
use Rattle.std.specs.Prelude.{option_and_then}
use Rattle.repl_msg.specs.declared.message.Message.{Message}
use Rattle.set_model.specs.Node.{Node}
use Rattle.set_model.specs.World.{World}
use Rattle.explore_words.specs.declared.question.Question.{Question}
use Rattle.explore_steps.specs.declared.course.Course.{Course}
use Rattle.explore_steps.specs.declared.deed.Deed.{Deed}
use Rattle.explore_steps.specs.declared.deed.Step.{Step}
use Rattle.explore_steps.specs.Causes.{Cause}
use Rattle.explore_steps.specs.Courses.{StandsAt}
use Rattle.explore_steps.specs.Keeping.{HasDeed}
use Rattle.explore_steps.specs.Seeing.{node_in}
use Rattle.explore_steps.specs.Stepping.{IsAddition, IsDeed, IsMove, IsStepOf}
use Rattle.explore_steps.specs.Tables.{AreNoted, AreNumbers, AreOf, AreUnderWay, Grow, HasCell, IsCell, StandsFor, Tables}

pub grow_itself : (tables : Tables) → Grow tables tables
grow_itself tables = record {
  nodes = λ number value is. is;
  messages = λ number value is. is;
  lists = λ number value is. is;
  cells = λ number value is. is;
  deeds = λ number value is. is;
  steps = λ number value is. is;
}

pub grow_on : (one two three : Tables) → Grow one two → Grow two three → Grow one three
grow_on one two three first second = record {
  nodes = λ number value is. second.nodes number value (first.nodes number value is);
  messages = λ number value is. second.messages number value (first.messages number value is);
  lists = λ number value is. second.lists number value (first.lists number value is);
  cells = λ number value is. second.cells number value (first.cells number value is);
  deeds = λ number value is. second.deeds number value (first.deeds number value is);
  steps = λ number value is. second.steps number value (first.steps number value is);
}

pub same_head : {A : Type 0} (x y : A) (xs ys : List A) → x ∷ xs ≡ y ∷ ys → x ≡ y
same_head x y xs ys same = cc

pub same_tail : {A : Type 0} (x y : A) (xs ys : List A) → x ∷ xs ≡ y ∷ ys → xs ≡ ys
same_tail x y xs ys same = cc

module _ (old new : Tables) (grow : Grow old new) where
  pub numbers_grow : (numbers : List ℕ) (messages : List Message) → AreNumbers old numbers messages → AreNumbers new numbers messages
  numbers_grow [] [] are = refl
  numbers_grow [] (message ∷ messages) are = absurd (cc are)
  numbers_grow (number ∷ numbers) [] are = absurd (cc are)
  numbers_grow (number ∷ numbers) (message ∷ messages) are =
      ap₂ (λ (x : Option Message) (xs : List (Option Message)). x ∷ xs)
      (grow.messages number message (same_head (slice_get old.messages number) (Some message) (map (slice_get old.messages) numbers) (map Some messages) are))
      (numbers_grow numbers messages (same_tail (slice_get old.messages number) (Some message) (map (slice_get old.messages) numbers) (map Some messages) are))

  pub cell_grows : (cell : ℕ) (node : Node) (messages : List Message) → IsCell old cell node messages → IsCell new cell node messages
  cell_grows cell node messages is = record {
    node_at = is.node_at;
    list_at = is.list_at;
    numbers = is.numbers;
    cell_is = grow.cells cell (is.node_at, is.list_at) is.cell_is;
    node_is = grow.nodes is.node_at node is.node_is;
    list_is = grow.lists is.list_at is.numbers is.list_is;
    messages_are = numbers_grow is.numbers messages is.messages_are;
  }

  pub has_cell_grows : (cell : ℕ) → HasCell old cell → HasCell new cell
  has_cell_grows cell has = (has.0, has.1, cell_grows cell has.0 has.1 has.2)

  pub stands_grows : (cell : ℕ) (world : World) (number : ℕ) → StandsFor old cell world number → StandsFor new cell world number
  stands_grows cell world number stands = record {
    own = stands.own;
    node = stands.node;
    messages = stands.messages;
    there = stands.there;
    is_cell = cell_grows cell stands.node stands.messages stands.is_cell;
    alike = stands.alike;
    live = stands.live;
    sent = stands.sent;
  }

  pub of_grows : (cells : List ℕ) (world : World) → AreOf old cells world → AreOf new cells world
  of_grows cells world are = record { count = are.count; each = λ number cell is. stands_grows cell world number (are.each number cell is) }

  pub noted_grows : (notes : Bool) (cells : List ℕ) (dead : Bool) (world : World) → AreNoted old notes cells dead world → AreNoted new notes cells dead world
  noted_grows notes cells dead world are = record { cells_are = of_grows cells world are.cells_are; noted = are.noted; unnoted = are.unnoted }

  pub under_way_grows : (notes : Bool) (cells sent : List ℕ) (dead : Bool) (world : World) (before : ℕ)
      → AreUnderWay old notes cells sent dead world before → AreUnderWay new notes cells sent dead world before
  under_way_grows notes cells sent dead world before are = record { noted = noted_grows notes cells dead world are.noted; sent_are = numbers_grow sent _ are.sent_are }

  pub stands_at_grows : (spare : ℕ) (question : Question) (course : Course) (world : World) (before : ℕ)
      → StandsAt spare old question course world before → StandsAt spare new question course world before
  stands_at_grows spare question course world before stands = record {
    under_way = under_way_grows course.notes_dead course.cells.items course.sent.items course.dead world before stands.under_way;
    begun = stands.begun;
    reached = stands.reached;
    met = stands.met;
    seen = stands.seen;
  }

  -- ---- what is kept

  pub deed_grows : (question : Question) (cause : Cause) (node : Node) (deed : Deed) → IsDeed old question cause node deed → IsDeed new question cause node deed
  deed_grows question cause node deed is = record {
    after = is.after;
    is = grow.nodes deed.node is.after is.is;
    alike = is.alike;
    sent = numbers_grow deed.sent.items _ is.sent;
    meets = is.meets;
    within = is.within;
  }

  pub move_grows : (cell : ℕ) (node after : Node) (messages : List Message) (step : Step) → IsMove old cell node after messages step → IsMove new cell node after messages step
  move_grows cell node after messages step is = record {
    was = cell_grows cell node messages is.was;
    is = cell_grows step.cell after _ is.is;
    stays = is.stays;
    kills = is.kills;
  }

  pub step_grows : (question : Question) (cause : Cause) (cell number : ℕ) → IsStepOf old question cause cell number → IsStepOf new question cause cell number
  unfolding deed_grows
  step_grows question cause cell number is = record {
    step = is.step;
    deed = is.deed;
    node = is.node;
    messages = is.messages;
    step_is = grow.steps number is.step is.step_is;
    deed_is = grow.deeds is.step.deed is.deed is.deed_is;
    does = deed_grows question cause is.node is.deed is.does;
    goes = move_grows cell is.node is.does.after is.messages is.step is.goes;
  }

  pub addition_grows : (cell : ℕ) (message : Message) (more : ℕ) → IsAddition old cell message more → IsAddition new cell message more
  addition_grows cell message more is = record {
    node = is.node;
    messages = is.messages;
    more = is.more;
    was = cell_grows cell is.node is.messages is.was;
    is = cell_grows more is.node is.more is.is;
    has = is.has;
  }

  pub has_deed_grows : (question : Question) (cause : Cause) (node number : ℕ) → HasDeed old question cause node number → HasDeed new question cause node number
  has_deed_grows question cause node number has = record {
    deed = has.deed;
    at = has.at;
    deed_is = grow.deeds number has.deed has.deed_is;
    node_is = grow.nodes node has.at has.node_is;
    does = deed_grows question cause has.at has.deed has.does;
  }

  -- a node that is there in a cell
  pub node_in_grows : (cells : List ℕ) (place : ℕ) (node : Node) → node_in old cells place ≡ Some node → node_in new cells place ≡ Some node
  node_in_grows cells place node there = by (slice_get cells place) refl
    where
      node_of : Tables → ℕ × ℕ → Option Node
      node_of tables pair = slice_get tables.nodes pair.0

      at : Tables → Option ℕ → Option Node
      at tables found = option_and_then (node_of tables) (option_and_then (slice_get tables.cells) found)

      by_pair : (cell : ℕ) (found : Option (ℕ × ℕ)) → slice_get old.cells cell ≡ found → option_and_then (node_of old) found ≡ Some node → at new (Some cell) ≡ Some node
      by_pair cell None none is = absurd (cc is)
      by_pair cell (Some pair) pair_is is = ap (option_and_then (node_of new)) (grow.cells cell pair pair_is) ∙ grow.nodes pair.0 node is

      by_cell : (found : Option ℕ) → at old found ≡ Some node → at new found ≡ Some node
      by_cell None is = absurd (cc is)
      by_cell (Some cell) is = by_pair cell (slice_get old.cells cell) refl is

      by : (found : Option ℕ) → slice_get cells place ≡ found → at new (slice_get cells place) ≡ Some node
      by found is = by_cell (slice_get cells place) there
