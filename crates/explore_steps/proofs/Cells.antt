-- Cells stand for the nodes of a world, before and after a node of it goes on.
use Rattle.std.proofs.Common.{◌≡◌, ◌∙◌, inl, inr, ap, sym, subst, refl, ℕ, Bool, true, false, not, ◌&&◌, ◌||◌, Option, Some, List, [], ◌∷◌, map, filter, length-set, slice_get, slice_set}
use Rattle.std.proofs.lemmas.Bool.{cases_eq, or_cases, or_left, or_right}
use Rattle.std.proofs.lemmas.Option.{same_Some}
use Rattle.std.specs.List.{list_any}
use Rattle.std.specs.Option.{option_map_or}
use Rattle.commit_machine.proofs.Growth.{any_from, any_is}
use Rattle.repl_msg.specs.declared.message.Message.{Message}
use Rattle.rs_optime.specs.Membership.{In}
use Rattle.rs_optime.proofs.MembershipLemmas.{in_filter}
use Rattle.safety_laws.proofs.Merges.{into_filter}
use Rattle.safety_laws.proofs.Places.{get_set_other, get_set_same}
use Rattle.set_model.specs.Node.{Node}
use Rattle.set_model.specs.Outcome.{Outcome}
use Rattle.set_model.specs.World.{World}
use Rattle.explore_laws.specs.Alike.{AlikeNodes}
use Rattle.explore_laws.specs.Dead.{has_dead, is_dead, is_dead_in}
use Rattle.explore_laws.specs.Steps.{Rises}
use Rattle.explore_laws.proofs.AlikeWorlds.{dead_after, dead_alike, dead_at, not_dead_before}
use Rattle.explore_steps.specs.declared.deed.Step.{Step}
use Rattle.explore_steps.specs.Stepping.{IsMove}
use Rattle.explore_steps.specs.Tables.{AreNoted, AreOf, IsCell, StandsFor, Tables}

-- ---- lists and tests

not_true : (b : Bool) → not b ≡ true → b ≡ false
not_true true is = absurd (cc is)
not_true false is = refl

some_head : {A : Type 0} (x y : A) (xs ys : List A) → Some x ∷ map Some xs ≡ Some y ∷ map Some ys → (x ≡ y) × (map Some xs ≡ map Some ys)
some_head x y xs ys same = (cc same, cc same)

same_somes : {A : Type 0} (xs ys : List A) → map Some xs ≡ map Some ys → xs ≡ ys
same_somes [] [] same = refl
same_somes [] (y ∷ ys) same = absurd (cc same)
same_somes (x ∷ xs) [] same = absurd (cc same)
same_somes (x ∷ xs) (y ∷ ys) same =
    let parts : (x ≡ y) × (map Some xs ≡ map Some ys) = some_head x y xs ys same in
    ap (λ a. a ∷ xs) parts.0 ∙ ap (λ l. y ∷ l) (same_somes xs ys parts.1)

-- ---- a cell is one node, with one list of messages

module _ (tables : Tables) (cell : ℕ) (one two : Node) (first second : List Message) (first_is : IsCell tables cell one first) (second_is : IsCell tables cell two second) where
  abbrev first_pair : ℕ × ℕ
  first_pair = (first_is.node_at, first_is.list_at)

  abbrev second_pair : ℕ × ℕ
  second_pair = (second_is.node_at, second_is.list_at)

  same_pair : first_pair ≡ second_pair
  same_pair = same_Some first_pair second_pair (sym first_is.cell_is ∙ second_is.cell_is)

  pub one_node : one ≡ two
  one_node = same_Some one two (sym first_is.node_is ∙ ap (λ (p : ℕ × ℕ). slice_get tables.nodes p.0) same_pair ∙ second_is.node_is)

  same_numbers : first_is.numbers ≡ second_is.numbers
  same_numbers = same_Some first_is.numbers second_is.numbers (sym first_is.list_is ∙ ap (λ (p : ℕ × ℕ). slice_get tables.lists p.1) same_pair ∙ second_is.list_is)

  pub one_list : first ≡ second
  one_list = same_somes first second (sym first_is.messages_are ∙ ap (map (slice_get tables.messages)) same_numbers ∙ second_is.messages_are)

-- what a cell stands for, by the node and the messages that it is known to be
pub stands_as : (tables : Tables) (cell : ℕ) (world : World) (number : ℕ) (node : Node) (messages : List Message) → IsCell tables cell node messages → StandsFor tables cell world number
    → (stands : StandsFor tables cell world number) × (stands.node ≡ node) × (stands.messages ≡ messages)
stands_as tables cell world number node messages is stands = (
  stands,
  one_node tables cell stands.node node stands.messages messages stands.is_cell is,
  one_list tables cell stands.node node stands.messages messages stands.is_cell is,
)

-- whether a message is dead can be told by the cell of its receiver
pub dead_in_cell : (tables : Tables) (cells : List ℕ) (world : World) (message : Message) (cell : ℕ) (node : Node) (messages : List Message)
    → AreOf tables cells world → slice_get cells message.to ≡ Some cell → IsCell tables cell node messages → is_dead_in world message ≡ is_dead node message
dead_in_cell tables cells world message cell node messages are there is =
    let stands : StandsFor tables cell world message.to = are.each message.to cell there in
    dead_at world message stands.own stands.there ∙ dead_alike stands.own stands.node message stands.alike
    ∙ ap (λ (n : Node). is_dead n message) (one_node tables cell stands.node node stands.messages messages stands.is_cell is)

-- ---- a node goes on

module _ (tables : Tables) (cells : List ℕ) (world : World) (are : AreOf tables cells world) (number cell : ℕ) (cell_there : slice_get cells number ≡ Some cell)
    (node after : Node) (messages : List Message) (step : Step) (move : IsMove tables cell node after messages step)
    (outcome : Outcome) (rises : (own : Node) → slice_get world.nodes number ≡ Some own → Rises own outcome.node) (alike : AlikeNodes outcome.node after) where
  stands : StandsFor tables cell world number
  stands = are.each number cell cell_there

  -- what is sent is put there afterwards
  abbrev later : World
  later = record world { nodes = slice_set world.nodes number outcome.node }

  same_messages : stands.messages ≡ messages
  same_messages = one_list tables cell stands.node node stands.messages messages stands.is_cell move.was

  own_there : slice_get later.nodes number ≡ Some outcome.node
  own_there = get_set_same world.nodes number outcome.node stands.own stands.there

  dead_still : (message : Message) → is_dead_in world message ≡ true → is_dead_in later message ≡ true
  dead_still message dead = dead_after world number stands.own outcome stands.there (rises stands.own stands.there) message dead

  -- a message to the node
  module _ (message : Message) (to_it : message.to ≡ number) where
    dead_was : is_dead_in world message ≡ is_dead stands.own message
    dead_was = dead_at world message stands.own (ap (slice_get world.nodes) to_it ∙ stands.there)

    dead_is : is_dead_in later message ≡ is_dead after message
    dead_is = dead_at later message outcome.node (ap (slice_get later.nodes) to_it ∙ own_there) ∙ dead_alike outcome.node after message alike

    was_alive : is_dead after message ≡ false → is_dead stands.own message ≡ false
    was_alive alive = sym dead_was ∙ not_dead_before (is_dead_in world message) (is_dead_in later message) (dead_still message) (dead_is ∙ alive)

  moved : StandsFor tables step.cell later number
  moved = record {
    own = outcome.node;
    node = after;
    messages = filter (λ message. not (is_dead after message)) messages;
    there = own_there;
    is_cell = move.is;
    alike = alike;
    live = λ message sent to_it alive.
        (let now : is_dead after message ≡ false = sym (dead_alike outcome.node after message alike) ∙ alive in
        into_filter (λ m. not (is_dead after m)) message messages
        (subst (λ (l : List Message). In message l) same_messages (stands.live message sent to_it (was_alive message to_it now)))
        (ap not now));
    sent = λ message there.
        (let passed : In message messages × (not (is_dead after message) ≡ true) = in_filter (λ m. not (is_dead after m)) messages message there in
        let before : In message world.messages × (message.to ≡ number) × (is_dead stands.own message ≡ false) = stands.sent message (subst (λ (l : List Message). In message l) (sym same_messages) passed.0) in
        (before.0, before.1, dead_alike outcome.node after message alike ∙ not_true (is_dead after message) passed.1));
  }

  unmoved : (m other : ℕ) → (number ≡ m → ⊥) → StandsFor tables other world m → StandsFor tables other later m
  unmoved m other apart of = record {
    own = of.own;
    node = of.node;
    messages = of.messages;
    there = get_set_other world.nodes number m outcome.node apart ∙ of.there;
    is_cell = of.is_cell;
    alike = of.alike;
    live = of.live;
    sent = of.sent;
  }

  pub of_moved : AreOf tables (slice_set cells number step.cell) later
  of_moved = record {
    count = length-set cells number step.cell ∙ are.count ∙ sym (length-set world.nodes number outcome.node);
    each = λ m other there. elim (cases_eq number m) [
      | inl same ↦
          subst (λ k. StandsFor tables other later k) same
          (subst (λ c. StandsFor tables c later number) (same_Some step.cell other (sym (get_set_same cells number step.cell cell cell_there) ∙ ap (slice_get (slice_set cells number step.cell)) same ∙ there)) moved)
      | inr apart ↦ unmoved m other apart (are.each m other (sym (get_set_other cells number m step.cell apart) ∙ there))
    ];
  }

  -- ---- whether a message is dead

  dead_more : (message : Message) → In message world.messages → is_dead_in later message ≡ true → (list_any (is_dead_in world) world.messages || list_any (is_dead after) messages) ≡ true
  dead_more message sent dead = by (is_dead_in world message) refl
    where
      -- it was alive, so it is one to the node
      killed : is_dead_in world message ≡ false → number ≡ message.to → list_any (is_dead after) messages ≡ true
      killed alive same = any_from (is_dead after) message messages
          (subst (λ (l : List Message). In message l) same_messages (stands.live message sent (sym same) (sym (dead_was message (sym same)) ∙ alive)))
          (sym (dead_is message (sym same)) ∙ dead)

      untouched : is_dead_in world message ≡ false → (number ≡ message.to → ⊥) → ⊥
      untouched alive apart = cc (ap (λ (found : Option Node). option_map_or (λ n. is_dead n message) found true) (get_set_other world.nodes number message.to outcome.node apart), dead, alive)

      by : (b : Bool) → is_dead_in world message ≡ b → (list_any (is_dead_in world) world.messages || list_any (is_dead after) messages) ≡ true
      by true was = or_left (list_any (is_dead_in world) world.messages) _ (any_from (is_dead_in world) message world.messages sent was)
      by false alive = or_right (list_any (is_dead_in world) world.messages) _ (elim (cases_eq number message.to) [
        | inl same ↦ killed alive same
        | inr apart ↦ absurd (untouched alive apart)
      ])

  dead_later : has_dead later ≡ (has_dead world || list_any (is_dead after) messages)
  dead_later = both (has_dead later) (has_dead world || list_any (is_dead after) messages) there back
    where
      both : (a b : Bool) → (a ≡ true → b ≡ true) → (b ≡ true → a ≡ true) → a ≡ b
      both true b on from = sym (on refl)
      both false true on from = from refl
      both false false on from = refl

      there : has_dead later ≡ true → (has_dead world || list_any (is_dead after) messages) ≡ true
      there is = let found : (m : Message) × In m world.messages × (is_dead_in later m ≡ true) = any_is (is_dead_in later) world.messages is in dead_more found.0 found.1 found.2

      killed : (m : Message) × In m messages × (is_dead after m ≡ true) → has_dead later ≡ true
      killed found =
          let before : In found.0 world.messages × (found.0.to ≡ number) × (is_dead stands.own found.0 ≡ false) = stands.sent found.0 (subst (λ (l : List Message). In found.0 l) (sym same_messages) found.1) in
          any_from (is_dead_in later) found.0 world.messages before.0 (dead_is found.0 before.1 ∙ found.2)

      back : (has_dead world || list_any (is_dead after) messages) ≡ true → has_dead later ≡ true
      back is = elim (or_cases (has_dead world) (list_any (is_dead after) messages) is) [
        | inl was ↦ (let found : (m : Message) × In m world.messages × (is_dead_in world m ≡ true) = any_is (is_dead_in world) world.messages was in any_from (is_dead_in later) found.0 world.messages found.1 (dead_still found.0 found.2))
        | inr kills ↦ killed (any_is (is_dead after) messages kills)
      ]

  noted_on : (notes dead : Bool) → (notes ≡ true → dead ≡ has_dead world) → notes ≡ true → (dead || (notes && step.kills)) ≡ has_dead later
  noted_on true dead is on = ap (λ b. b || step.kills) (is refl) ∙ ap (λ b. has_dead world || b) move.kills ∙ sym dead_later
  noted_on false dead is on = absurd (cc on)

  noted_off : (notes dead : Bool) → (notes ≡ false → dead ≡ false) → notes ≡ false → (dead || (notes && step.kills)) ≡ false
  noted_off true dead is off = absurd (cc off)
  noted_off false dead is off = ap (λ b. b || false) (is refl)

  pub noted_moved : (notes dead : Bool) → AreNoted tables notes cells dead world → AreNoted tables notes (slice_set cells number step.cell) (dead || (notes && step.kills)) later
  noted_moved notes dead noted = record {
    cells_are = of_moved;
    noted = noted_on notes dead noted.noted;
    unnoted = noted_off notes dead noted.unnoted;
  }
