-- What comes of a cell where its node becomes another.
use Rattle.std.proofs.Common.{◌≡◌, ◌∙◌, ◌<◌, ap, sym, subst, refl, inl, inr, arith, ne_eqb, ℕ, ◌==◌, Bool, true, false, not, nat_lt, Some, List, filter, length, slice_get}
use Rattle.std.proofs.lemmas.Bool.{cases_eq}
use Rattle.std.proofs.lemmas.Bool.Decides.{nat_tests}
use Rattle.std.proofs.lemmas.Option.{same_Some}
use Rattle.std.specs.List.{list_any}
use Rattle.repl_msg.specs.declared.message.Message.{Message}
use Rattle.set_model.specs.Node.{Node}
use Rattle.explore_laws.specs.Dead.{is_dead}
use Rattle.explore_steps.specs.declared.deed.Step.{Step}
use Rattle.explore_steps.specs.Stepping.{IsMove}
use Rattle.explore_steps.specs.Tables.{AreNumbers, Grow, IsCell, Tables}
use Rattle.explore_steps.proofs.Growth.{cell_grows, numbers_grow}
use Rattle.explore_steps.proofs.Numbers.{filter_count, numbers_count}
use Rattle.explore_steps.proofs.Reading.{node_at_pair}

less_is : (b : Bool) (n m : ℕ) → (b ≡ true → n < m) → (b ≡ false → n ≡ m) → nat_lt n m ≡ b
less_is true n m less same = let order : n < m = less refl in grind (arith, nat_tests)
less_is false n m less same = let order : n ≡ m = same refl in grind (arith, nat_tests)

same_number : (a b : ℕ) → not (a == b) ≡ false → a ≡ b
same_number a b is = elim (cases_eq a b) [
  | inl same ↦ same
  | inr other ↦ absurd (cc (ne_eqb a b other, is))
]

module _ (old new : Tables) (grow : Grow old new) (cell : ℕ) (step : Step) (node after : Node) (messages : List Message) (is : IsCell old cell node messages) where
  pub move_is : (read : Node) (node_at own_at list_at own_list : ℕ) (live own_live : List ℕ) → slice_get old.nodes node_at ≡ Some after → slice_get old.nodes node_at ≡ Some read
      → slice_get old.cells cell ≡ Some (own_at, own_list) → AreNumbers old live (filter (λ message. not (is_dead read message)) messages) → AreNumbers old own_live messages
      → slice_get new.lists list_at ≡ Some live → slice_get new.cells step.cell ≡ Some (node_at, list_at) → step.moves ≡ not (node_at == own_at)
      → step.kills ≡ nat_lt (length live) (length own_live) → IsMove new cell node after messages step
  move_is read node_at own_at list_at own_list live own_live after_is read_is cell_is live_are own_are list_is new_is moves kills = record {
    was = cell_grows old new grow cell node messages is;
    is = record {
      node_at = node_at;
      list_at = list_at;
      numbers = live;
      cell_is = new_is;
      node_is = grow.nodes node_at after after_is;
      list_is = list_is;
      messages_are = numbers_grow old new grow live _ left;
    };
    stays = λ still. same_Some after node
        (sym after_is ∙ ap (slice_get old.nodes) (same_number node_at own_at (sym moves ∙ still)) ∙ node_at_pair old cell (own_at, own_list) cell_is node messages is);
    kills = kills ∙ less_is (list_any (is_dead after) messages) (length live) (length own_live)
        (λ any. (let fewer : length (filter (λ message. not (is_dead after message)) messages) < length messages = (filter_count (is_dead after) messages).0 any in
        omega (arith, fewer, left_count, own_count)))
        (λ none. (let same : length (filter (λ message. not (is_dead after message)) messages) ≡ length messages = (filter_count (is_dead after) messages).1 none in
        omega (arith, same, left_count, own_count)));
  }
    where
      left : AreNumbers old live (filter (λ message. not (is_dead after message)) messages)
      left = subst (λ (n : Node). AreNumbers old live (filter (λ message. not (is_dead n message)) messages)) (same_Some read after (sym read_is ∙ after_is)) live_are

      left_count : length live ≡ length (filter (λ message. not (is_dead after message)) messages)
      left_count = numbers_count old.messages live _ left

      own_count : length own_live ≡ length messages
      own_count = numbers_count old.messages own_live messages own_are
