-- What comes of a doing that is tried.
use Rattle.std.proofs.Common.{◌≡◌, ◌≤◌, ◌<◌, sym, subst, refl, ℕ, suc, Bool, Option, Some, List, length, slice_get}
use Rattle.std.proofs.lemmas.Option.{slice_get_within}
use Rattle.std.specs.List.{list_any}
use Rattle.std.specs.Prelude.{IfSome}
use Rattle.explore_words.specs.declared.question.Act.{Act}
use Rattle.explore_words.specs.declared.question.Question.{Question}
use Rattle.question_laws.specs.Covered.{IsCovered, goes_on}
use Rattle.question_laws.specs.Doing.{act_done, world_after}
use Rattle.question_laws.specs.Following.{MayDo, Standing, used_more}
use Rattle.explore_tables.specs.Numbers.{times}
use Rattle.explore_steps.specs.declared.course.Course.{Course}
use Rattle.explore_steps.specs.declared.doing.Doing.{Doing as Tried}
use Rattle.explore_steps.specs.declared.doing.First.{First}
use Rattle.explore_steps.specs.declared.doing.First.TheVariants.{Nothing, Live, Dead}
use Rattle.explore_steps.specs.Courses.{BeginsWith, left_after}
use Rattle.explore_steps.specs.Reaching.{IsReachedBefore}
use Rattle.explore_steps.specs.Tables.{AreNoted, Tables}
use Rattle.explorer.specs.Standings.{IsLed, MayGoOn, StandFor}
use Rattle.explorer.specs.States.{IsDone, Lands, MayTry}
use Rattle.explorer.proofs.Beginnings.{used_less}
use Rattle.explorer.proofs.StandingLemmas.{stands_cover_less}

module _ (question : Question) (tables : Tables) (by : Standing) (doing : Tried) where
  -- the message that it begins with was sent
  begins_sent : (first : First) (message : Option ℕ) → BeginsWith tables first by.world message → IfSome message (λ m. m < length by.world.messages)
  begins_sent Nothing message begins = subst (λ m. IfSome m (λ n. n < length by.world.messages)) (sym begins) tt
  begins_sent (Live number) message begins =
      subst (λ m. IfSome m (λ n. n < length by.world.messages)) (sym begins.2) (slice_get_within by.world.messages begins.0 begins.1 begins.3)
  begins_sent Dead message begins =
      subst (λ m. IfSome m (λ n. n < length by.world.messages)) (sym begins.2) (slice_get_within by.world.messages begins.0 begins.1 begins.3)

  pub may_do_it : (may : MayTry question tables by doing) → MayDo question by.world by.used (record { act = doing.act; message = may.message }) may.act
  may_do_it may = record {
    there = may.there;
    begins = may.any;
    sent = begins_sent doing.first may.message may.begins;
    limit = may.limit;
  }

  -- where it leads, by the course that has done it; only these acts are counted
  pub led_by : (may : MayTry question tables by doing) (more spare : ℕ) → MayGoOn more question by → suc (length may.act.commands) ≤ more → (after : Tables) (course : Course)
      → BeginsWith after doing.first by.world may.message → IsDone spare after question course by may.act may.message → (used : ℕ → ℕ)
      → ((place limit : ℕ) (other : Act) → slice_get question.acts place ≡ Some other → other.limit ≡ Some limit → used place ≡ used_more by.used doing.act place)
      → IsReachedBefore (suc (length may.act.commands)) question by.world
      → IsLed after question by doing (record { world = world_after by.world (act_done by.world may.act may.message); used = used; left = left_after question course.met })
  led_by may more spare goes_from room after course begins done used used_is reached = record {
    act = may.act;
    message = may.message;
    begins = begins;
    may = may_do_it may;
    fit = goes_from.fit;
    room = reached;
    world = refl;
    used = used_is;
    left = done.leaves;
  }

-- an act that leaves the cells and the wants as they were leads to what is covered where it began
pub idle_covered : (question : Question) (tables : Tables) (notes : Bool) (course : Course) (acts : List ℕ) (by new : Standing) (act : ℕ) → list_any goes_on question.acts ≡ notes → course.notes_dead ≡ notes
    → Lands tables question course by act new → StandFor tables question notes course.cells.items course.dead course.met acts by → IsCovered question new by
idle_covered question tables notes course acts by new act notes_are course_notes lands stand =
    stands_cover_less question tables notes course.cells.items course.dead course.met acts new by notes_are
    (subst (λ n. AreNoted tables n course.cells.items course.dead new.world) course_notes lands.noted) lands.left
    (λ place. subst (λ used. times place acts ≤ used place) (sym lands.used)
    (subst (λ k. k ≤ used_more by.used act place) (stand.used place) (used_less by.used act place))) stand
