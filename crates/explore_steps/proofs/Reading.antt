-- What is read of a cell by its number.
use Rattle.std.proofs.Common.{◌≡◌, ◌∙◌, ◌<◌, ◌⊎◌, ap, sym, subst, refl, inl, inr, ℕ, Bool, true, false, not, Option, Some, List, [], ◌∷◌, ◌++◌, filter, length, slice_get, if◌then◌else◌}
use Rattle.std.proofs.lemmas.Option.{same_Some, slice_get_within}
use Rattle.std.specs.Option.{option_map_or}
use Rattle.rs_optime.specs.Membership.{In}
use Rattle.repl_msg.specs.declared.message.Message.{Message}
use Rattle.set_model.specs.Node.{Node}
use Rattle.explore_laws.specs.Dead.{is_dead}
use Rattle.explore_tables.specs.Numbers.{IsWith}
use Rattle.explore_steps.specs.Stepping.{IsAddition}
use Rattle.explore_steps.specs.Tables.{AreNumbers, HasCell, IsCell, Tables}
use Rattle.explore_steps.proofs.Numbers.{Numbers, number_in, numbers_more, numbers_tail, numbers_with}

module _ (tables : Tables) (cell : ℕ) where
  pub cell_within : HasCell tables cell → cell < length tables.cells
  cell_within has = slice_get_within tables.cells cell _ has.2.cell_is

  module _ (pair : ℕ × ℕ) (there : slice_get tables.cells cell ≡ Some pair) where
    pub pair_is : (node : Node) (messages : List Message) (is : IsCell tables cell node messages) → pair ≡ (is.node_at, is.list_at)
    pair_is node messages is = same_Some pair (is.node_at, is.list_at) (sym there ∙ is.cell_is)

    pub node_at_pair : (node : Node) (messages : List Message) → IsCell tables cell node messages → slice_get tables.nodes pair.0 ≡ Some node
    node_at_pair node messages is = ap (λ (p : ℕ × ℕ). slice_get tables.nodes p.0) (pair_is node messages is) ∙ is.node_is

    pub node_within : HasCell tables cell → pair.0 < length tables.nodes
    node_within has = slice_get_within tables.nodes pair.0 has.0 (node_at_pair has.0 has.1 has.2)

    pub node_read : (found : Node) → slice_get tables.nodes pair.0 ≡ Some found → (node : Node) (messages : List Message) → IsCell tables cell node messages → found ≡ node
    node_read found is node messages is_cell = same_Some found node (sym is ∙ node_at_pair node messages is_cell)

    list_at_pair : (node : Node) (messages : List Message) (is : IsCell tables cell node messages) → slice_get tables.lists pair.1 ≡ Some is.numbers
    list_at_pair node messages is = ap (λ (p : ℕ × ℕ). slice_get tables.lists p.1) (pair_is node messages is) ∙ is.list_is

    pub list_within : HasCell tables cell → pair.1 < length tables.lists
    list_within has = slice_get_within tables.lists pair.1 has.2.numbers (list_at_pair has.0 has.1 has.2)

    pub list_read : (found : List ℕ) → slice_get tables.lists pair.1 ≡ Some found → (node : Node) (messages : List Message) → IsCell tables cell node messages → AreNumbers tables found messages
    list_read found is node messages is_cell =
        subst (λ (l : List ℕ). AreNumbers tables l messages) (same_Some is_cell.numbers found (sym (list_at_pair node messages is_cell) ∙ is)) is_cell.messages_are

-- ---- a message that is dead

-- a message whose number a cell has is in it
pub in_read : (tables : Tables) (numbers : List ℕ) (messages : List Message) (message : ℕ) (sent : Message) → AreNumbers tables numbers messages
    → In message numbers → slice_get tables.messages message ≡ Some sent → In sent messages
in_read tables numbers messages message sent are there is =
    let found : (m : Message) × (slice_get tables.messages message ≡ Some m) × In m messages = number_in tables.messages numbers messages are message there in
    subst (λ (m : Message). In m messages) (same_Some found.0 sent (sym found.1 ∙ is)) found.2

-- ---- a cell with a message more

-- the same cell, where the message is in it or is dead
pub addition_same : (tables : Tables) (cell : ℕ) (node : Node) (messages : List Message) (sent : Message) → IsCell tables cell node messages
    → In sent messages ⊎ (is_dead node sent ≡ true) → IsAddition tables cell sent cell
addition_same tables cell node messages sent is or_dead = record {
  node = node;
  messages = messages;
  more = messages;
  was = is;
  is = is;
  has = λ other. (λ there. inl there, λ either. back other either or_dead);
}
  where
    back : (other : Message) → In other messages ⊎ ((other ≡ sent) × (is_dead node sent ≡ false)) → In sent messages ⊎ (is_dead node sent ≡ true) → In other messages
    back other (inl there) known = there
    back other (inr new) (inl there) = subst (λ (m : Message). In m messages) (sym new.0) there
    back other (inr new) (inr dead) = absurd (cc (new.1, dead))

-- another cell, which has its number too
pub addition_more : (tables : Tables) (cell new node_at list_at : ℕ) (old numbers : List ℕ) (message : ℕ) (sent : Message) (node : Node) (messages : List Message)
    → IsCell tables cell node messages → AreNumbers tables old messages → IsWith message old numbers → slice_get tables.messages message ≡ Some sent
    → is_dead node sent ≡ false → slice_get tables.nodes node_at ≡ Some node → slice_get tables.lists list_at ≡ Some numbers
    → slice_get tables.cells new ≡ Some (node_at, list_at) → IsAddition tables cell sent new
addition_more tables cell new node_at list_at old numbers message sent node messages is are (front, back, was, more_is) there alive node_is list_is cell_is = record {
  node = node;
  messages = messages;
  more = found.0;
  was = is;
  is = record {
    node_at = node_at;
    list_at = list_at;
    numbers = numbers;
    cell_is = cell_is;
    node_is = node_is;
    list_is = list_is;
    messages_are = subst (λ (l : List ℕ). AreNumbers tables l found.0) (sym more_is) found.1;
  };
  has = λ other. (λ in_more. to other ((found.2 other).0 in_more), λ either. (found.2 other).1 (from other either));
}
  where
    found : (more : List Message) × AreNumbers tables (front ++ message ∷ back) more
        × ((other : Message) → (In other more → In other messages ⊎ (other ≡ sent)) × (In other messages ⊎ (other ≡ sent) → In other more))
    found = numbers_with tables.messages front back message messages sent (subst (λ (l : List ℕ). AreNumbers tables l messages) was are) there

    to : (other : Message) → In other messages ⊎ (other ≡ sent) → In other messages ⊎ ((other ≡ sent) × (is_dead node sent ≡ false))
    to other (inl before) = inl before
    to other (inr same) = inr (same, alive)

    from : (other : Message) → In other messages ⊎ ((other ≡ sent) × (is_dead node sent ≡ false)) → In other messages ⊎ (other ≡ sent)
    from other (inl before) = inl before
    from other (inr new) = inr new.0

-- ---- the messages that a cell keeps

-- what a number stands for is dead at a node
abbrev pub dead_number : List Message → Node → ℕ → Bool
dead_number kept node number = option_map_or (λ (message : Message). is_dead node message) (slice_get kept number) true

pub still_numbers : (kept : List Message) (node : Node) (numbers : List ℕ) (messages : List Message) → Numbers kept numbers messages
    → Numbers kept (filter (λ number. not (dead_number kept node number)) numbers) (filter (λ message. not (is_dead node message)) messages)
still_numbers kept node [] [] are = refl
still_numbers kept node [] (message ∷ messages) are = absurd (cc are)
still_numbers kept node (number ∷ numbers) [] are = absurd (cc are)
still_numbers kept node (number ∷ numbers) (message ∷ messages) are = by (dead_number kept node number) (is_dead node message) same (still_numbers kept node numbers messages parts.1)
  where
    parts : (slice_get kept number ≡ Some message) × Numbers kept numbers messages
    parts = numbers_tail kept number numbers message messages are

    same : dead_number kept node number ≡ is_dead node message
    same = ap (λ (found : Option Message). option_map_or (λ (m : Message). is_dead node m) found true) parts.0

    by : (a b : Bool) → a ≡ b → Numbers kept (filter (λ n. not (dead_number kept node n)) numbers) (filter (λ m. not (is_dead node m)) messages)
        → Numbers kept (if not a then number ∷ filter (λ n. not (dead_number kept node n)) numbers else filter (λ n. not (dead_number kept node n)) numbers)
        (if not b then message ∷ filter (λ m. not (is_dead node m)) messages else filter (λ m. not (is_dead node m)) messages)
    by true true is rest = rest
    by false false is rest = numbers_more kept number _ message _ parts.0 rest
    by true false is rest = absurd (cc is)
    by false true is rest = absurd (cc is)
