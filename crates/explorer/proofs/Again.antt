-- A doing leads to the same standing by each message that it may begin with.
use Rattle.std.proofs.Common.{◌≡◌, ◌∙◌, inl, inr, ap, sym, subst, refl, ℕ, true, Option, Some, List, length, slice_get}
use Rattle.std.proofs.lemmas.Option.{slice_get_cases}
use Rattle.repl_msg.specs.declared.message.Message.{Message}
use Rattle.set_model.specs.declared.command.Command.TheVariants.{Deliver}
use Rattle.set_model.specs.declared.command.Event.{Event}
use Rattle.set_model.specs.Deliver.{deliver}
use Rattle.set_model.specs.World.{Step, World, step, takes, taking}
use Rattle.explore_laws.specs.Dead.{is_dead_in}
use Rattle.explore_laws.specs.Laws.{AreSame, DeadMessagesChangeNothing}
use Rattle.explore_laws.proofs.AlikeEvents.{alike_itself, step_nowhere, step_whole}
use Rattle.explore_words.specs.declared.question.Question.{Question}
use Rattle.explore_words.specs.declared.question.Want.{Want}
use Rattle.question_laws.specs.Doing.{act_done, event_of, lines_done, world_after}
use Rattle.question_laws.specs.Following.{Standing}
use Rattle.question_laws.specs.Meeting.{Leaves}
use Rattle.question_laws.proofs.DeadEvents.{dead_stays, leaves_all, leaves_same}
use Rattle.question_laws.proofs.Wants.{leaves_over}
use Rattle.explore_steps.specs.declared.doing.Doing.{Doing as Tried}
use Rattle.explore_steps.specs.declared.doing.First.{First}
use Rattle.explore_steps.specs.declared.doing.First.TheVariants.{Nothing, Live, Dead}
use Rattle.explore_steps.specs.Courses.{BeginsWith}
use Rattle.explore_steps.specs.Tables.{Tables}
use Rattle.explorer.specs.Standings.{IsLed}

module _ (world : World) where
  abbrev gives : ℕ → Event
  gives place = event_of (Deliver place)

  -- one message, whatever its number
  same_step : (one two : ℕ) (sent : Message) → slice_get world.messages one ≡ Some sent → slice_get world.messages two ≡ Some sent → step world (gives one) ≡ step world (gives two)
  same_step one two sent one_is two_is = elim (slice_get_cases world.nodes sent.to).1 [
    | inl found ↦
        step_whole world (gives one) refl (takes sent) (ap taking one_is) found.0 found.2 (deliver (length world.messages) found.0 sent) refl
        ∙ sym (step_whole world (gives two) refl (takes sent) (ap taking two_is) found.0 found.2 (deliver (length world.messages) found.0 sent) refl)
    | inr past ↦
        step_nowhere world (gives one) (takes sent) (ap taking one_is) past.1 ∙ sym (step_nowhere world (gives two) (takes sent) (ap taking two_is) past.1)
  ]

  same_event : (one two : ℕ) (sent : Message) → slice_get world.messages one ≡ Some sent → slice_get world.messages two ≡ Some sent → AreSame world world (gives one) (gives two)
  same_event one two sent one_is two_is = record {
    task = ap taking (one_is ∙ sym two_is);
    command = λ own. absurd (cc own);
    first_whole = refl;
    second_whole = refl;
  }

module _ (nothing_changes : DeadMessagesChangeNothing) (question : Question) (tables : Tables) (old : Standing) (doing : Tried) (new : Standing) (led : IsLed tables question old doing new) where
  abbrev Leads : Option ℕ → Type 0
  Leads message = (new.world ≡ world_after old.world (act_done old.world led.act message)) × Leaves old.world (act_done old.world led.act message) old.left new.left

  abbrev after : World → World
  after w = world_after w (lines_done (length old.world.messages) w led.act.commands)

  by_live : (one two : ℕ) (sent : Message) → slice_get old.world.messages one ≡ Some sent → slice_get old.world.messages two ≡ Some sent → Leads (Some one) → Leads (Some two)
  by_live one two sent one_is two_is leads = (
    leads.0 ∙ ap (λ (s : Step). after s.world) stepped,
    (
      leads.1.0,
      leaves_over old.world old.world (gives old.world one) (gives old.world two) led.fit.settled (alike_itself old.world) (same_event old.world one two sent one_is two_is) old.left leads.1.0 led.fit.wants leads.1.1,
      subst (λ (s : Step). Leaves s.world (lines_done (length old.world.messages) s.world led.act.commands) leads.1.0 new.left) stepped leads.1.2,
    ),
  )
    where
      stepped : step old.world (gives old.world one) ≡ step old.world (gives old.world two)
      stepped = same_step old.world one two sent one_is two_is

  by_dead : (one two : ℕ) (first second : Message) → slice_get old.world.messages one ≡ Some first → slice_get old.world.messages two ≡ Some second → is_dead_in old.world first ≡ true → is_dead_in old.world second ≡ true
      → Leads (Some one) → Leads (Some two)
  by_dead one two first second one_is two_is one_dead two_dead leads = (
    leads.0 ∙ ap after (one_stays ∙ sym two_stays),
    (
      old.left,
      leaves_all nothing_changes old.world (Deliver two) second (ap taking two_is) two_dead old.left led.fit.wants led.fit.met,
      subst (λ (w : World). Leaves w (lines_done (length old.world.messages) w led.act.commands) old.left new.left) (one_stays ∙ sym two_stays)
          (subst (λ (wants : List Want). Leaves (step old.world (gives old.world one)).world (lines_done (length old.world.messages) (step old.world (gives old.world one)).world led.act.commands) wants new.left)
          (leaves_same nothing_changes old.world (Deliver one) first (ap taking one_is) one_dead old.left leads.1.0 led.fit.wants led.fit.met leads.1.1) leads.1.2),
    ),
  )
    where
      one_stays : (step old.world (gives old.world one)).world ≡ old.world
      one_stays = dead_stays nothing_changes old.world (Deliver one) first (ap taking one_is) one_dead

      two_stays : (step old.world (gives old.world two)).world ≡ old.world
      two_stays = dead_stays nothing_changes old.world (Deliver two) second (ap taking two_is) two_dead

  by_first : (first : First) → BeginsWith tables first old.world led.message → (message : Option ℕ) → BeginsWith tables first old.world message → Leads led.message → Leads message
  by_first Nothing was message is leads = subst Leads (was ∙ sym is) leads
  by_first (Live number) was message is leads =
      subst Leads (sym is.2)
      (by_live was.0 is.0 is.1 (was.3 ∙ sym was.4 ∙ is.4) is.3 (subst Leads was.2 leads))
  by_first Dead was message is leads =
      subst Leads (sym is.2)
      (by_dead was.0 is.0 was.1 is.1 was.3 is.3 was.4 is.4 (subst Leads was.2 leads))

  pub again : (message : Option ℕ) → BeginsWith tables doing.first old.world message → Leads message
  again message is = by_first doing.first led.begins message is (led.world, led.left)
