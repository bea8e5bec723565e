-- With which message an act may begin, as cells tell it.
use Rattle.std.proofs.Common.{◌≡◌, ◌≤◌, ◌<◌, ◌∙◌, inl, inr, ap, sym, subst, refl, arith, ne_eqb, ℕ, suc, ◌+◌, ◌==◌, Bool, true, false, not, Option, None, Some, List, [], ◌∷◌, map, length, slice_get, if◌then◌else◌}
use Rattle.std.proofs.lemmas.Bool.{and_from}
use Rattle.std.proofs.lemmas.Option.{slice_get_cases}
use Rattle.std.specs.List.{list_any}
use Rattle.std.specs.Option.{option_map_or}
use Rattle.std.specs.Prelude.{IfSome, is_some}
use Rattle.repl_msg.specs.declared.message.Message.{Message}
use Rattle.rs_optime.specs.Membership.{In}
use Rattle.safety_laws.proofs.Places.{get_in}
use Rattle.set_model.specs.declared.command.Command.{Command}
use Rattle.set_model.specs.declared.command.Command.TheVariants.{Deliver}
use Rattle.set_model.specs.Node.{Node}
use Rattle.set_model.specs.World.{World, taking}
use Rattle.explore_laws.specs.Alike.{AlikeWorlds}
use Rattle.explore_laws.specs.Dead.{has_dead, is_dead, is_dead_in}
use Rattle.explore_laws.specs.Laws.{DeadMessagesChangeNothing}
use Rattle.explore_laws.proofs.AlikeEvents.{alike_itself, some_any}
use Rattle.explore_laws.proofs.AlikeWorlds.{dead_at}
use Rattle.explore_words.specs.declared.question.Act.{Act}
use Rattle.explore_words.specs.declared.question.Question.{Question}
use Rattle.question_laws.specs.Covered.{IsCovered, IsFit, goes_on}
use Rattle.question_laws.specs.Doing.{act_done, event_of, lines_done, world_after}
use Rattle.question_laws.specs.Following.{LeadsTo, Standing, used_more}
use Rattle.question_laws.specs.Meeting.{Leaves}
use Rattle.question_laws.proofs.Acts.{message_at}
use Rattle.question_laws.proofs.DeadEvents.{dead_stays, leaves_same}
use Rattle.explore_steps.specs.Tables.{AreNoted, AreNumbers, IsCell, StandsFor, Tables}
use Rattle.explore_steps.proofs.Covering.{there_too}
use Rattle.explore_steps.proofs.Growth.{same_head, same_tail}

-- ---- numbers of messages

-- a message that is in a list has a number in a list of their numbers
pub number_of_sent : (tables : Tables) (numbers : List ℕ) (messages : List Message) (message : Message) → AreNumbers tables numbers messages → In message messages
    → (place : ℕ) × (number : ℕ) × (slice_get numbers place ≡ Some number) × (slice_get tables.messages number ≡ Some message)
number_of_sent tables numbers [] message are there = absurd there
number_of_sent tables [] (first ∷ messages) message are there = absurd (cc are)
number_of_sent tables (number ∷ numbers) (first ∷ messages) message are (inl same) =
    (0, number, refl, same_head (slice_get tables.messages number) (Some first) (map (slice_get tables.messages) numbers) (map Some messages) are ∙ ap Some same)
number_of_sent tables (number ∷ numbers) (first ∷ messages) message are (inr there) =
    let rest : (place : ℕ) × (n : ℕ) × (slice_get numbers place ≡ Some n) × (slice_get tables.messages n ≡ Some message) =
    number_of_sent tables numbers messages message (same_tail (slice_get tables.messages number) (Some first) (map (slice_get tables.messages) numbers) (map Some messages) are) there in
    (suc rest.0, rest.1, rest.2, rest.3)

-- ---- how an act begins

-- what may be done in a standing that cells stand for: an act without a message, or with one that is in a cell, or
-- with a dead one where one is noted; all else is covered by the standing itself
pub data Begins (question : Question) (tables : Tables) (cells : List ℕ) (dead : Bool) (by : Standing) (act : Act) (message : Option ℕ) (new : Standing) : Type 0 where
  with_none : act.any_message ≡ false → message ≡ None → Begins question tables cells dead by act message new
  with_live :
      act.any_message ≡ true → (place : ℕ) (sent : Message) (cell : ℕ) (node : Node) (messages : List Message)
      → message ≡ Some place → slice_get by.world.messages place ≡ Some sent
      → slice_get cells sent.to ≡ Some cell → IsCell tables cell node messages → In sent messages
      → Begins question tables cells dead by act message new
  with_dead :
      act.any_message ≡ true → (place : ℕ) (sent : Message)
      → message ≡ Some place → slice_get by.world.messages place ≡ Some sent → is_dead_in by.world sent ≡ true → dead ≡ true
      → Begins question tables cells dead by act message new
  with_nothing : IsCovered question new by → Begins question tables cells dead by act message new

pub used_less : (used : ℕ → ℕ) (act place : ℕ) → used place ≤ used_more used act place
used_less used act place = by (place == act)
  where
    by : (b : Bool) → used place ≤ (if b then used place + 1 else used place)
    by true = omega arith
    by false = omega arith

-- the delivery of a dead message alone leads nowhere
pub dead_alone : DeadMessagesChangeNothing → (question : Question) (by new : Standing) (act : Act) (place : ℕ) (sent : Message) → IsFit by → (doing_act : ℕ)
    → slice_get by.world.messages place ≡ Some sent → is_dead_in by.world sent ≡ true → act.commands ≡ []
    → new.world ≡ world_after by.world (lines_done (length by.world.messages) by.world (Deliver place ∷ act.commands))
    → new.used ≡ used_more by.used doing_act → Leaves by.world (lines_done (length by.world.messages) by.world (Deliver place ∷ act.commands)) by.left new.left → IsCovered question new by
dead_alone nothing_changes question by new act place sent fit doing_act there dead none world used leaves = record {
  worlds = subst (λ (w : World). AlikeWorlds w by.world) (sym stays) (alike_itself by.world);
  left = alone.2 ∙ leaves_same nothing_changes by.world (Deliver place) sent (ap taking there) dead by.left alone.0 fit.wants fit.met alone.1;
  used = λ at. subst (λ u. by.used at ≤ u at) (sym used) (used_less by.used doing_act at);
  dead = λ goes is. sym (ap has_dead stays) ∙ is;
}
  where
    stays : new.world ≡ by.world
    stays = world ∙ ap (λ (l : List Command). world_after by.world (lines_done (length by.world.messages) by.world (Deliver place ∷ l))) none
        ∙ dead_stays nothing_changes by.world (Deliver place) sent (ap taking there) dead

    alone : Leaves by.world (event_of (Deliver place) ∷ []) by.left new.left
    alone = subst (λ (l : List Command). Leaves by.world (lines_done (length by.world.messages) by.world (Deliver place ∷ l)) by.left new.left) none leaves

module _ (nothing_changes : DeadMessagesChangeNothing) (question : Question) (tables : Tables) (notes dead : Bool) (cells : List ℕ) (by new : Standing)
    (notes_are : list_any goes_on question.acts ≡ notes) (noted : AreNoted tables notes cells dead by.world) (fit : IsFit by) (leads : LeadsTo question by new) where
  act_in : In leads.act question.acts
  act_in = get_in question.acts leads.doing.act leads.act leads.may.there

  -- one that is alive is in the cell of its receiver
  alive : (place : ℕ) (sent : Message) → leads.act.any_message ≡ true → slice_get by.world.messages place ≡ Some sent → is_dead_in by.world sent ≡ false
      → Begins question tables cells dead by leads.act (Some place) new
  alive place sent any there lives = elim (slice_get_cases by.world.nodes sent.to).1 [
    | inl found ↦ at_cell found.0 found.2 (there_too by.world.nodes cells sent.to found.0 noted.cells_are.count found.2)
    | inr past ↦ absurd (nowhere past.1)
  ]
    where
      nowhere : slice_get by.world.nodes sent.to ≡ None → ⊥
      nowhere none = cc (ap (λ (found : Option Node). option_map_or (λ n. is_dead n sent) found true) none, lives)

      at_cell : (node : Node) → slice_get by.world.nodes sent.to ≡ Some node → (cell : ℕ) × (slice_get cells sent.to ≡ Some cell) → Begins question tables cells dead by leads.act (Some place) new
      at_cell node node_is cell =
          let stands : StandsFor tables cell.0 by.world sent.to = noted.cells_are.each sent.to cell.0 cell.1 in
          with_live any place sent cell.0 stands.node stands.messages refl there cell.1 stands.is_cell
          (stands.live sent (get_in by.world.messages place sent there) refl (sym (dead_at by.world sent stands.own stands.there) ∙ lives))

  -- one that is dead is noted where more follows
  died : (place : ℕ) (sent : Message) → leads.doing.message ≡ Some place → leads.act.any_message ≡ true → slice_get by.world.messages place ≡ Some sent → is_dead_in by.world sent ≡ true
      → Begins question tables cells dead by leads.act (Some place) new
  died place sent message_is any there dead_is = by_lines leads.act.commands refl
    where
      world_is : new.world ≡ world_after by.world (act_done by.world leads.act (Some place))
      world_is = leads.world ∙ ap (λ message. world_after by.world (act_done by.world leads.act message)) message_is

      leaves : Leaves by.world (act_done by.world leads.act (Some place)) by.left new.left
      leaves = subst (λ message. Leaves by.world (act_done by.world leads.act message) by.left new.left) message_is leads.left

      by_lines : (lines : List Command) → leads.act.commands ≡ lines → Begins question tables cells dead by leads.act (Some place) new
      by_lines [] none = with_nothing (dead_alone nothing_changes question by new leads.act place sent fit leads.doing.act there dead_is none world_is leads.used leaves)
      by_lines (line ∷ lines) more = with_dead any place sent refl there dead_is
          (noted.noted (sym notes_are ∙ some_any goes_on question.acts leads.act act_in (and_from leads.act.any_message (not (length leads.act.commands == 0)) any (more_than_none line lines more)))
          ∙ some_any (is_dead_in by.world) by.world.messages sent (get_in by.world.messages place sent there) dead_is)
        where
          more_than_none : (first : Command) (rest : List Command) → leads.act.commands ≡ first ∷ rest → (not (length leads.act.commands == 0)) ≡ true
          more_than_none first rest is = ap (λ (l : List Command). not (length l == 0)) is ∙ ap not (ne_eqb (suc (length rest)) 0 (λ same. omega (arith, same)))

  begins_as : (message : Option ℕ) → leads.doing.message ≡ message → is_some message ≡ leads.act.any_message → IfSome message (λ m. m < length by.world.messages)
      → Begins question tables cells dead by leads.act message new
  begins_as None is any within = with_none (sym any) refl
  begins_as (Some place) is any within =
      let sent : (m : Message) × (slice_get by.world.messages place ≡ Some m) = message_at by.world.messages place within in
      by_dead sent.0 sent.1 (is_dead_in by.world sent.0) refl
    where
      by_dead : (sent : Message) → slice_get by.world.messages place ≡ Some sent → (b : Bool) → is_dead_in by.world sent ≡ b → Begins question tables cells dead by leads.act (Some place) new
      by_dead sent there true dead_is = died place sent is (sym any) there dead_is
      by_dead sent there false lives = alive place sent (sym any) there lives

  pub begins : Begins question tables cells dead by leads.act leads.doing.message new
  begins = begins_as leads.doing.message refl leads.may.begins leads.may.sent
