-- What an act leads to from a standing, by the course that has done it.
use Rattle.std.proofs.Common.{◌≡◌, ◌≤◌, ◌+◌, inl, inr, sym, subst, arith, ℕ, suc, Bool, List, [], ◌∷◌, fold, length, max}
use Rattle.std.proofs.Math.Nat.{le-max_left, le-max_right}
use Rattle.rs_optime.specs.Membership.{In}
use Rattle.set_model.specs.World.{World}
use Rattle.explore_words.specs.declared.question.Act.{Act}
use Rattle.explore_words.specs.declared.question.Question.{Question}
use Rattle.explore_words.specs.declared.question.Want.{Want}
use Rattle.question_laws.specs.Doing.{act_done, world_after}
use Rattle.question_laws.specs.Following.{LeadsTo, Standing}
use Rattle.question_laws.specs.Meeting.{Leaves, unseen}
use Rattle.explore_steps.specs.declared.course.Course.{Course}
use Rattle.explore_steps.specs.declared.doing.First.{First}
use Rattle.explore_steps.specs.Courses.{BeginsWith, Goes, MayBegin, WasDone, left_after}
use Rattle.explorer.specs.Exploring.{most_lines}
use Rattle.explore_steps.specs.Reaching.{IsReachedBefore}
use Rattle.explorer.specs.Standings.{StandFor}
use Rattle.explore_steps.specs.Tables.{AreNoted, Tables}
use Rattle.explorer.proofs.PathLemmas.{leaves_once}
use Rattle.explore_steps.proofs.Reach.{reached_less}
use Rattle.explorer.proofs.StandingLemmas.{stand_at}

-- ---- room

abbrev longer : ℕ → Act → ℕ
longer most act = max most (suc (length act.commands))

most_from : (acts : List Act) (from : ℕ) → from ≤ fold longer from acts
most_from [] from = omega arith
most_from (act ∷ acts) from =
    let one : from ≤ longer from act = le-max_left from (suc (length act.commands)) in
    let rest : longer from act ≤ fold longer (longer from act) acts = most_from acts (longer from act) in
    omega (arith, one, rest)

most_of : (acts : List Act) (from : ℕ) (act : Act) → In act acts → suc (length act.commands) ≤ fold longer from acts
most_of [] from act there = absurd there
most_of (first ∷ acts) from act (inl same) =
    subst (λ (a : Act). suc (length a.commands) ≤ fold longer (longer from first) acts) same
    (let one : suc (length first.commands) ≤ longer from first = le-max_right from (suc (length first.commands)) in
    let rest : longer from first ≤ fold longer (longer from first) acts = most_from acts (longer from first) in
    omega (arith, one, rest))
most_of (first ∷ acts) from act (inr there) = most_of acts (longer from first) act there

-- no act has more events
pub has_most : (acts : List Act) (act : Act) → In act acts → suc (length act.commands) ≤ most_lines acts
has_most acts act there = most_of acts 0 act there

-- ---- an act

-- where it leads
pub record HasGone (question : Question) (after : Tables) (course : Course) (spare : ℕ) (new : Standing) : Type 0 where
  pub noted : AreNoted after course.notes_dead course.cells.items course.dead new.world
  pub left : new.left ≡ left_after question course.met
  pub met : course.met ≤ length question.wants
  pub seen : unseen new.world new.left ≡ new.left
  pub reached : IsReachedBefore spare question new.world

module _ (question : Question) (tables : Tables) (notes : Bool) (acts : List ℕ) (by : Standing) (course : Course)
    (stand : StandFor tables question notes course.cells.items course.dead course.met acts by) (notes_are : course.notes_dead ≡ notes) (sent_none : course.sent.items ≡ [])
    (after : Tables) (new_course : Course) (first : First) (new : Standing) (leads : LeadsTo question by new) (begins : BeginsWith tables first by.world leads.doing.message)
    (goes : Goes tables after question course new_course first leads.act) where
  abbrev led : World
  led = world_after by.world (act_done by.world leads.act leads.doing.message)

  pub has_gone : (more spare : ℕ) → IsReachedBefore more question by.world → unseen by.world by.left ≡ by.left → suc (length leads.act.commands) + spare ≤ more → HasGone question after new_course spare new
  has_gone more spare reached seen room = record {
    noted = subst (λ (w : World). AreNoted after new_course.notes_dead new_course.cells.items new_course.dead w) (sym leads.world) done.stands.under_way.noted;
    left = new_left;
    met = done.stands.met;
    seen = subst (λ (w : World). unseen w new.left ≡ new.left) (sym leads.world)
        (subst (λ (wants : List Want). unseen led wants ≡ wants) (sym new_left) done.stands.seen);
    reached = subst (IsReachedBefore spare question) (sym leads.world) done.stands.reached;
  }
    where
      may : MayBegin spare tables question course first leads.act by.world leads.doing.message
      may = record {
        stands = stand_at question tables notes acts by course stand notes_are sent_none (suc (length leads.act.commands) + spare)
            (reached_less question more (suc (length leads.act.commands) + spare) by.world room reached) seen;
        first_is = begins;
      }

      done : WasDone spare after question course new_course leads.act by.world leads.doing.message
      done = goes spare by.world leads.doing.message may

      new_left : new.left ≡ left_after question new_course.met
      new_left = leaves_once by.world (act_done by.world leads.act leads.doing.message) (left_after question course.met) new.left (left_after question new_course.met)
          (subst (λ (wants : List Want). Leaves by.world (act_done by.world leads.act leads.doing.message) wants new.left) stand.left leads.left) done.leaves
