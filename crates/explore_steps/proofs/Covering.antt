-- Worlds for which the same cells stand are alike.
use Rattle.std.proofs.Common.{◌≡◌, ◌≤◌, ◌∙◌, inl, inr, ap, sym, subst, refl, arith, ℕ, Bool, true, Option, None, Some, List, length, slice_get}
use Rattle.std.proofs.lemmas.Option.{same_Some, slice_get_cases, slice_get_past}
use Rattle.std.specs.List.{list_any}
use Rattle.std.specs.Option.{option_map_or}
use Rattle.repl_msg.specs.declared.message.Message.{Message}
use Rattle.rs_optime.specs.Membership.{In}
use Rattle.set_model.specs.Node.{Node}
use Rattle.set_model.specs.World.{World}
use Rattle.explore_laws.specs.Alike.{AlikeNodes, AlikeWorlds, HasLive}
use Rattle.explore_laws.specs.Dead.{is_dead}
use Rattle.explore_laws.proofs.AlikeWorlds.{dead_at, nodes_on}
use Rattle.explore_words.specs.declared.question.Question.{Question}
use Rattle.question_laws.specs.Covered.{IsCovered, goes_on}
use Rattle.question_laws.specs.Following.{Standing}
use Rattle.explore_steps.specs.Tables.{AreNoted, AreOf, StandsFor, Tables}
use Rattle.explore_steps.proofs.AlikeSound.{alike_back}
use Rattle.explore_steps.proofs.Cells.{one_list, one_node}

-- a place where a list has something has something in one as long
pub there_too : {A B : Type 0} (xs : List A) (ys : List B) (n : ℕ) (x : A) → length ys ≡ length xs → slice_get xs n ≡ Some x → (y : B) × (slice_get ys n ≡ Some y)
there_too xs ys n x count there = elim (slice_get_cases ys n).1 [
  | inl found ↦ (found.0, found.2)
  | inr past ↦ (let order : length ys ≤ n = past.0 in absurd (cc (there, slice_get_past xs n (omega (arith, order, count)))))
]

module _ (tables : Tables) (cells : List ℕ) where
  -- one cell in two worlds
  same_alike : (one two : World) (number cell : ℕ) (first : StandsFor tables cell one number) (second : StandsFor tables cell two number) → AlikeNodes first.own second.own
  same_alike one two number cell first second =
      nodes_on first.own first.node second.own first.alike
      (alike_back second.own first.node
      (subst (AlikeNodes second.own) (one_node tables cell second.node first.node second.messages first.messages second.is_cell first.is_cell) second.alike))

  -- what is alive in the one was sent in the other
  pub has_live : (one two : World) → AreOf tables cells one → AreOf tables cells two → HasLive one two
  has_live one two first second message sent alive = elim (slice_get_cases one.nodes message.to).1 [
    | inl found ↦ by found.0 found.2 (there_too one.nodes cells message.to found.0 first.count found.2)
    | inr past ↦ (let order : length one.nodes ≤ message.to = past.0 in absurd (nowhere (slice_get_past one.nodes message.to order)))
  ]
    where
      nowhere : slice_get one.nodes message.to ≡ None → ⊥
      nowhere none = cc (ap (λ (found : Option Node). option_map_or (λ n. is_dead n message) found true) none, alive)

      by : (node : Node) → slice_get one.nodes message.to ≡ Some node → (cell : ℕ) × (slice_get cells message.to ≡ Some cell) → In message two.messages
      by node there cell =
          let here : StandsFor tables cell.0 one message.to = first.each message.to cell.0 cell.1 in
          let other : StandsFor tables cell.0 two message.to = second.each message.to cell.0 cell.1 in
          let listed : In message here.messages = here.live message sent refl (sym (dead_at one message here.own here.there) ∙ alive) in
          (other.sent message (subst (λ (l : List Message). In message l) (one_list tables cell.0 here.node other.node here.messages other.messages here.is_cell other.is_cell) listed)).0

  pub cells_alike : (one two : World) → AreOf tables cells one → AreOf tables cells two → AlikeWorlds one two
  cells_alike one two first second = record {
    count = sym first.count ∙ second.count;
    nodes = λ number a b a_there b_there.
        (let cell : (c : ℕ) × (slice_get cells number ≡ Some c) = there_too one.nodes cells number a first.count a_there in
        let here : StandsFor tables cell.0 one number = first.each number cell.0 cell.1 in
        let other : StandsFor tables cell.0 two number = second.each number cell.0 cell.1 in
        subst (λ (n : Node). AlikeNodes n b) (same_Some here.own a (sym here.there ∙ a_there))
        (subst (λ (n : Node). AlikeNodes here.own n) (same_Some other.own b (sym other.there ∙ b_there)) (same_alike one two number cell.0 here other)));
    there = has_live one two first second;
    back = has_live two one second first;
  }

  -- a standing is covered by another that the same cells stand for
  pub cells_cover : (question : Question) (notes dead : Bool) (of by : Standing) → list_any goes_on question.acts ≡ notes
      → AreNoted tables notes cells dead of.world → AreNoted tables notes cells dead by.world → of.left ≡ by.left → ((place : ℕ) → by.used place ≤ of.used place) → IsCovered question of by
  cells_cover question notes dead of by notes_are first second left used = record {
    worlds = cells_alike of.world by.world first.cells_are second.cells_are;
    left = left;
    used = used;
    dead = λ goes has. sym (second.noted (sym notes_are ∙ goes)) ∙ first.noted (sym notes_are ∙ goes) ∙ has;
  }
