-- A step of the cells is one of the world that they stand for.
use Rattle.std.proofs.Common.{◌≡◌, ◌≤◌, ◌+◌, ◌↔◌, ◌∙◌, inl, inr, ap, sym, subst, refl, arith, ℕ, zero, suc, Bool, true, false, ◌&&◌, ◌||◌, Some, List, [], ◌∷◌, ◌++◌, drop, drop_of_length-le, length, slice_get, slice_set, if◌then◌else◌}
use Rattle.std.proofs.Math.Numerals.{add-one}
use Rattle.std.proofs.lemmas.Option.{same_Some, slice_get_cases}
use Rattle.repl_msg.specs.declared.message.Message.{Message}
use Rattle.rs_optime.specs.Membership.{In}
use Rattle.safety_laws.proofs.Places.{get_in}
use Rattle.set_model.specs.declared.command.Command.{Command}
use Rattle.set_model.specs.Node.{Node}
use Rattle.set_model.specs.World.{Step as WorldStep, World, step, touched_node}
use Rattle.explore_laws.specs.Alike.{AlikeNodes}
use Rattle.explore_laws.specs.Settled.{AreSettled}
use Rattle.explore_laws.specs.Steps.{Rises}
use Rattle.explore_laws.proofs.AlikeWorlds.{nodes_on}
use Rattle.explore_words.specs.declared.question.Question.{Question}
use Rattle.explore_words.specs.declared.question.Want.{Want}
use Rattle.question_laws.specs.Doing.{event_of}
use Rattle.question_laws.specs.Lawful.{AreLawful}
use Rattle.question_laws.specs.Meeting.{IsMet, LeavesAfter, unseen}
use Rattle.explore_steps.specs.Causes.{Cause, IsCauseOf, IsMetBy, outcome_at}
use Rattle.explore_steps.specs.Courses.{left_after}
use Rattle.explore_steps.specs.Stepping.{IsStepOf}
use Rattle.explore_steps.specs.Tables.{AreNoted, AreNumbers, AreOf, StandsFor, Tables}
use Rattle.explore_steps.proofs.Cells.{noted_moved, one_node}
use Rattle.explore_steps.proofs.Coming.{Comes, comes}
use Rattle.explore_steps.proofs.Meeting.{met_by}

pub drop_suc : {A : Type 0} (xs : List A) (n : ℕ) (x : A) → slice_get xs n ≡ Some x → drop n xs ≡ x ∷ drop (suc n) xs
drop_suc [] n x there = absurd (cc there)
drop_suc (y ∷ xs) zero x there = ap (λ z. z ∷ xs) (same_Some y x there)
drop_suc (y ∷ xs) (suc n) x there = drop_suc xs n x there

pub drop_next : {A : Type 0} (xs : List A) (n : ℕ) (x : A) → slice_get xs n ≡ Some x → drop n xs ≡ x ∷ drop (n + 1) xs
drop_next xs n x there = drop_suc xs n x there ∙ ap (λ k. x ∷ drop k xs) (sym (add-one n))

-- The node has gone on, and the cell with it. What it sent is still to be put into the cells.
pub record IsTaken (tables : Tables) (notes : Bool) (cells : List ℕ) (dead : Bool) (numbers : List ℕ) (world after : World) : Type 0 where
  pub moved : World
  pub sent : List Message
  pub messages : moved.messages ≡ world.messages
  pub noted : AreNoted tables notes cells dead moved
  pub sent_are : AreNumbers tables numbers sent
  pub after_is : after ≡ record moved { messages = moved.messages ++ sent }

module _ (question : Question) (tables : Tables) (cells : List ℕ) (world : World) (command : Command) (cause : Cause) (number cell step_at : ℕ)
    (count : length world.nodes ≡ question.sizes.nodes) (settled : AreSettled world) (are : AreOf tables cells world) (cell_there : slice_get cells number ≡ Some cell)
    (is : IsStepOf tables question cause cell step_at) (cause_is : IsCauseOf world command cause) (number_is : touched_node world command ≡ number) where
  abbrev stands : StandsFor tables cell world number
  stands = are.each number cell cell_there

  alike : AlikeNodes stands.own is.node
  alike = subst (AlikeNodes stands.own) (one_node tables cell stands.node is.node stands.messages is.messages stands.is_cell is.goes.was) stands.alike

  comes_to : Comes question.sizes.nodes cause world command number stands.own is.node
  comes_to = comes question.sizes.nodes world command number stands.own is.node count number_is stands.there (settled number stands.own stands.there) alike cause cause_is

  after_alike : AlikeNodes comes_to.outcome.node is.does.after
  after_alike = nodes_on comes_to.outcome.node (outcome_at question.sizes.nodes cause is.node).node is.does.after comes_to.goes.nodes is.does.alike

  rises : (own : Node) → slice_get world.nodes number ≡ Some own → Rises own comes_to.outcome.node
  rises own there = subst (λ (n : Node). Rises n comes_to.outcome.node) (same_Some stands.own own (sym stands.there ∙ there)) comes_to.goes.rises

  pub takes_step : (notes dead : Bool) → AreNoted tables notes cells dead world
      → IsTaken tables notes (slice_set cells number is.step.cell) (dead || (notes && is.step.kills)) is.deed.sent.items world (step world (event_of command)).world
  takes_step notes dead noted = record {
    moved = record world { nodes = slice_set world.nodes number comes_to.outcome.node };
    sent = comes_to.outcome.sent;
    messages = refl;
    noted = noted_moved tables cells world are number cell cell_there is.node is.does.after is.messages is.step is.goes comes_to.outcome rises after_alike notes dead noted;
    sent_are = subst (AreNumbers tables is.deed.sent.items) (sym comes_to.goes.sent) is.does.sent;
    after_is = ap (λ (s : WorldStep). s.world) comes_to.step_is;
  }

  -- ---- wants

  met_at : (place : ℕ) (want : Want) → AreLawful question.wants → slice_get question.wants place ≡ Some want → In place is.deed.meets.items ↔ IsMet want world (event_of command)
  met_at place want lawful there = (
    λ meets. by.1 ((is.does.meets place want there).0 meets),
    λ met. (is.does.meets place want there).1 (by.0 met),
  )
    where
      by : IsMet want world (event_of command) ↔ IsMetBy cause want (outcome_at question.sizes.nodes cause is.node).reply
      by = met_by question.sizes.nodes world command number stands.own is.node cause want count settled cause_is number_is stands.there alike (lawful want (get_in question.wants place want there))

  -- what is left, as it is met or not by the event
  pub leaves_step : (met : ℕ) (meets : Bool) → AreLawful question.wants → (meets ≡ true → In met is.deed.meets.items) → (meets ≡ false → In met is.deed.meets.items → ⊥)
      → LeavesAfter world (event_of command) (left_after question met) (unseen (step world (event_of command)).world (left_after question (if meets then met + 1 else met)))
  leaves_step met meets lawful in_it out_of_it = elim (slice_get_cases question.wants met).1 [
    | inl found ↦ at_want found.0 found.2
    | inr past ↦ (let order : length question.wants ≤ met = past.0 in at_end order)
  ]
    where
      after : World
      after = (step world (event_of command)).world

      rest_is : (want : Want) → slice_get question.wants met ≡ Some want → left_after question met ≡ want ∷ left_after question (met + 1)
      rest_is want there = drop_next question.wants met want there

      by : (want : Want) → slice_get question.wants met ≡ Some want → (b : Bool) → (b ≡ true → In met is.deed.meets.items) → (b ≡ false → In met is.deed.meets.items → ⊥)
          → LeavesAfter world (event_of command) (want ∷ left_after question (met + 1)) (unseen after (left_after question (if b then met + 1 else met)))
      by want there true in_deed out_of_deed = inl ((met_at met want lawful there).0 (in_deed refl), refl)
      by want there false in_deed out_of_deed = inr (λ is_met. out_of_deed refl ((met_at met want lawful there).1 is_met), ap (unseen after) (rest_is want there))

      at_want : (want : Want) → slice_get question.wants met ≡ Some want
          → LeavesAfter world (event_of command) (left_after question met) (unseen after (left_after question (if meets then met + 1 else met)))
      at_want want there = subst (λ wants. LeavesAfter world (event_of command) wants (unseen after (left_after question (if meets then met + 1 else met)))) (sym (rest_is want there)) (by want there meets in_it out_of_it)

      none : (place : ℕ) → length question.wants ≤ place → left_after question place ≡ []
      none place order = drop_of_length-le question.wants {i = place} order

      at_end : length question.wants ≤ met → LeavesAfter world (event_of command) (left_after question met) (unseen after (left_after question (if meets then met + 1 else met)))
      at_end order = subst (λ wants. LeavesAfter world (event_of command) wants (unseen after (left_after question (if meets then met + 1 else met)))) (sym (none met order)) (ap (unseen after) (later meets))
        where
          later : (b : Bool) → left_after question (if b then met + 1 else met) ≡ []
          later true = none (met + 1) (omega (arith, order))
          later false = none met order
