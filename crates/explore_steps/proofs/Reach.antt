-- The worlds that a search comes to.
use Rattle.std.proofs.Common.{◌≡◌, ◌∙◌, ◌≤◌, ◌<◌, ◌+◌, ◌-◌, ◌^◌, ap, sym, subst, refl, arith, ℕ, suc, List, [], ◌∷◌, ◌++◌, All, None, length, length-append, map, fold}
use Rattle.std.proofs.Math.Seq.{take-length}
use Rattle.std.proofs.lemmas.List.{length-map}
use Rattle.std.proofs.lemmas.List.Elements.{All-append, All-cons, All-nil}
use Rattle.std.proofs.lemmas.List.Sums.{fold-append}
use Rattle.member_config.specs.Config.{first_config}
use Rattle.safety_laws.proofs.SmallRuns.{count_from}
use Rattle.set_model.specs.declared.command.Command.{Command}
use Rattle.set_model.specs.declared.command.Event.{Event}
use Rattle.set_model.specs.Limits.{Fits}
use Rattle.set_model.specs.Run.{AreSizes, Run, Sizes, after, opening, run}
use Rattle.set_model.specs.World.{World, step}
use Rattle.explore_laws.specs.Settled.{AreSettled}
use Rattle.explore_laws.proofs.AlikeEvents.{are_settled}
use Rattle.explore_words.specs.declared.question.Question.{Question}
use Rattle.question_laws.specs.Doing.{event_of, world_after}
use Rattle.question_laws.specs.Following.{beginning, begun, sizes_in}
use Rattle.question_laws.specs.Lawful.{HasCommands}
use Rattle.question_laws.proofs.Fitting.{count_along, fit_all, fit_together, fits_one, of_command}
use Rattle.checker_machine.specs.Reached.{IsReached}
use Rattle.explore_steps.specs.Reaching.{IsOfSet, IsReachedBefore}

-- ---- room for more events

less_room : (events spare most : ℕ) → events + spare < most → events < most
less_room events spare most few = omega (arith, few)

one_more : (events spare most : ℕ) → events + suc spare < most → (events + 1) + spare < most
one_more events spare most few = omega (arith, few)

fewer : (events more spare most : ℕ) → spare ≤ more → events + more < most → events + spare < most
fewer events more spare most less few = omega (arith, less, few)

-- ---- the world of a run

pub run_world : (start : Run) (events : List Event) → (fold after start events).world ≡ world_after start.world events
run_world start [] = refl
run_world start (event ∷ events) = run_world (after start event) events

module _ (question : Question) where
  abbrev sizes : Sizes
  sizes = sizes_in question

  abbrev opened : World
  opened = (opening sizes).world

  opened_count : length opened.nodes ≡ question.sizes.nodes
  opened_count = count_from (first_config question.sizes.voters question.sizes.members) 0 question.sizes.nodes

  pub reached_after : (spare : ℕ) (world : World) → AreSizes (sizes_in question) → IsReachedBefore spare question world → IsReached world
  reached_after spare world are_sizes before = record {
    sizes = sizes;
    events = before.events;
    are_sizes = are_sizes;
    is_run = before.is_run;
    few = less_room (length before.events) spare (2 ^ 32 - 1) before.few;
    is = before.is;
  }

  pub reached_settled : (spare : ℕ) (world : World) → IsReachedBefore spare question world → AreSettled world
  reached_settled spare world before =
      subst AreSettled (sym before.is)
      (subst (λ (l : List Event). AreSettled (run sizes l).world) (take-length before.events) (are_settled sizes before.events (length before.events) before.whole))

  -- with room for fewer
  pub reached_less : (more spare : ℕ) (world : World) → spare ≤ more → IsReachedBefore more question world → IsReachedBefore spare question world
  reached_less more spare world less before = record {
    events = before.events;
    is_run = before.is_run;
    whole = before.whole;
    few = fewer (length before.events) more spare (2 ^ 32 - 1) less before.few;
    is = before.is;
  }

  reached_along : (spare : ℕ) (world : World) (before : IsReachedBefore spare question world) → world ≡ world_after opened before.events
  reached_along spare world before = before.is ∙ run_world (opening sizes) before.events

  pub reached_count : (spare : ℕ) (world : World) → IsReachedBefore spare question world → length world.nodes ≡ question.sizes.nodes
  reached_count spare world before = ap (λ (w : World). length w.nodes) (reached_along spare world before) ∙ count_along opened before.events ∙ opened_count

  pub reached_step : (spare : ℕ) (world : World) (command : Command) → IsOfSet question command → IsReachedBefore (suc spare) question world
      → IsReachedBefore spare question (step world (event_of command)).world
  reached_step spare world command of_set before = record {
    events = before.events ++ event_of command ∷ [];
    is_run = fit_together opened before.events (event_of command ∷ []) before.is_run (subst (λ (w : World). Fits w (event_of command)) (reached_along (suc spare) world before) fits, tt);
    whole = All-append (λ event. event.failed ≡ None) before.events (event_of command ∷ []) before.whole (All-cons (λ event. event.failed ≡ None) (event_of command) [] refl (All-nil (λ event. event.failed ≡ None)));
    few = subst (λ k. k + spare < 2 ^ 32 - 1) (sym (length-append before.events (event_of command ∷ []))) (one_more (length before.events) spare (2 ^ 32 - 1) before.few);
    is = ap (λ (w : World). (step w (event_of command)).world) before.is ∙ sym (ap (λ (r : Run). r.world) (fold-append after (opening sizes) before.events (event_of command ∷ [])));
  }
    where
      fits : Fits world (event_of command)
      fits = fits_one question.sizes.nodes world command (reached_count (suc spare) world before) (of_command question.sizes.nodes command of_set.is_for of_set.documents)

  whole_all : (lines : List Command) → All (λ (event : Event). event.failed ≡ None) (map event_of lines)
  whole_all [] = All-nil (λ event. event.failed ≡ None)
  whole_all (command ∷ lines) = All-cons (λ event. event.failed ≡ None) (event_of command) (map event_of lines) refl (whole_all lines)

  -- the beginning
  pub reached_begun : (spare : ℕ) → HasCommands question → length question.beginning + spare < 2 ^ 32 - 1 → IsReachedBefore spare question (begun question)
  reached_begun spare has few = record {
    events = beginning question;
    is_run = fit_all question.sizes.nodes opened question.beginning opened_count has.beginning;
    whole = whole_all question.beginning;
    few = subst (λ k. k + spare < 2 ^ 32 - 1) (sym (length-map question.beginning event_of)) few;
    is = sym (run_world (opening sizes) (beginning question));
  }
