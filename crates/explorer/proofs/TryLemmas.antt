-- What comes of a doing that is tried in a state.
use Rattle.std.proofs.Common.{◌≡◌, ◌∙◌, ◌⊎◌, ◌≤◌, ◌+◌, ◌*◌, inl, inr, ap, sym, subst, refl, arith, ℕ, suc, Bool, Option, None, Some, Ok, Err, Result, List, [], ◌++◌, append_assoc, drop_of_length-le, length, slice_get}
use Rattle.std.specs.Prelude.{IfOk, OnOk}
use Rattle.commit_machine.proofs.Growth.{in_left}
use Rattle.rs_optime.specs.Membership.{In}
use Rattle.safety_laws.proofs.Places.{get_in}
use Rattle.explore_words.specs.declared.question.Act.{Act}
use Rattle.explore_words.specs.declared.question.Question.{Question}
use Rattle.explore_words.specs.declared.question.Want.{Want}
use Rattle.question_laws.specs.Doing.{act_done, world_after}
use Rattle.question_laws.specs.Following.{Standing, used_more}
use Rattle.question_laws.specs.Meeting.{Leaves}
use Rattle.explore_steps.specs.declared.course.Course.{Course}
use Rattle.explore_steps.specs.declared.doing.Doing.{Doing as Tried}
use Rattle.explore_steps.specs.Courses.{BeginsWith, Goes, MayBegin, StandsAt, WasDone, left_after}
use Rattle.explore_steps.specs.Keeping.{IsGrown}
use Rattle.explore_steps.specs.Tables.{Tables, tables_of}
use Rattle.explore_steps.proofs.Reach.{reached_less}
use Rattle.set_model.specs.World.{World}
use Rattle.explorer.specs.declared.search.Here.{Here}
use Rattle.explorer.specs.declared.search.Origin.{Origin}
use Rattle.explorer.specs.declared.search.Search.{Search}
use Rattle.explorer.specs.declared.search.Stop.{Stop}
use Rattle.explorer.specs.declared.search.Stop.TheVariants.{Met, Full}
use Rattle.explorer.specs.Exploring.{most_lines}
use Rattle.explorer.specs.Levels.{IsCoveredIn}
use Rattle.explorer.specs.Standings.{LeadsBy, StandFor}
use Rattle.explorer.specs.States.{AreStates, Extends, GoesFrom, GoesOn, Grown, HasGrown, HasMet, IsOut, IsWithin, Lands, LeadsByAct, MayTry, SameStates, IsDone, room}
use Rattle.explorer.proofs.Attempt.{HasGone, has_gone, has_most}
use Rattle.explorer.proofs.StandingLemmas.{stand_at, stand_grows}
use Rattle.explorer.proofs.StateLemmas.{begins_grows, extends_itself, grown_less, states_grow}
use Rattle.explorer.proofs.Trying.{idle_covered, led_by}

-- ---- what is covered

pub goes_on_less : (question : Question) (done more : ℕ) (search : Search) (old : List Standing) (By Less : Standing → Type 0) (stop : Option Stop) → ((new : Standing) → Less new → By new)
    → GoesOn question done more search old By stop → GoesOn question done more search old Less stop
goes_on_less question done more search old By Less None less is = grown_less question (suc done) more search old By Less less is
goes_on_less question done more search old By Less (Some (Met last)) less is = is
goes_on_less question done more search old By Less (Some Full) less is = is

-- what holds of a result that is no error
pub if_ok_still : {A E : Type 0} (P Q : A → Type 0) (result : Result A E) → ((value : A) → P value → Q value) → IfOk result P → IfOk result Q
if_ok_still P Q (Ok value) follows is = follows value is
if_ok_still P Q (Err error) follows is = tt

pub on_ok_still : {A E : Type 0} (P Q : Type 0) (result : Result A E) → (P → Q) → OnOk result P → OnOk result Q
on_ok_still P Q (Ok value) follows is = follows is
on_ok_still P Q (Err error) follows is = tt

pub covered_still : (question : Question) (old new : List Standing) (standing : Standing) → Extends old new → IsCoveredIn question old standing → IsCoveredIn question new standing
covered_still question old new standing extends is = (
  is.0,
  subst (λ (l : List Standing). In is.0 l) (sym extends.1) (in_left is.0 old extends.0 is.1),
  is.2,
)

pub extends_on : (one two three : List Standing) → Extends one two → Extends two three → Extends one three
extends_on one two three first second = (
  first.0 ++ second.0,
  second.1 ∙ ap (λ (l : List Standing). l ++ second.0) first.1 ∙ append_assoc one first.0 second.0,
)

-- what was covered still is, as more is come to
pub grown_then : (question : Question) (done more : ℕ) (mid new : Search) (old : List Standing) (One Two : Standing → Type 0) (first : Grown question done more mid old One)
    → Grown question done more new first.standings Two → Grown question done more new old (λ standing. One standing ⊎ Two standing)
grown_then question done more mid new old One Two first second = record {
  standings = second.standings;
  states = second.states;
  extends = extends_on old first.standings second.standings first.extends second.extends;
  covers = by;
}
  where
    by : (standing : Standing) → One standing ⊎ Two standing → IsCoveredIn question second.standings standing
    by standing (inl is) = covered_still question first.standings second.standings standing second.extends (first.covers standing is)
    by standing (inr is) = second.covers standing is

-- ---- what is told of one step by another

-- of where the course stands
abbrev pub TellsOut : Question → (old last : Search) → ℕ → Origin → Option Stop → Type 0
TellsOut question old last used origin stop =
    (done more : ℕ) (by : Standing) (standings : List Standing) → IsOut question done more old used origin by standings
    → GoesOn question done more last standings (Lands (tables_of old.steps) question old.course by origin.doing.act) stop

-- of a doing
abbrev pub TellsDoing : Question → (old last : Search) → Here → Tried → Option Stop → Type 0
TellsDoing question old last here doing stop =
    (done more : ℕ) (by : Standing) (standings : List Standing) → GoesFrom question done more old here by standings → MayTry question (tables_of old.steps) by doing
    → GoesOn question done more last standings (LeadsBy (tables_of old.steps) question by doing) stop

-- of an act
abbrev pub TellsAct : Question → (old last : Search) → Here → ℕ → Option Stop → Type 0
TellsAct question old last here place stop =
    (done more : ℕ) (by : Standing) (standings : List Standing) → GoesFrom question done more old here by standings
    → GoesOn question done more last standings (LeadsByAct question by place) stop

-- ---- a doing that is tried

-- The course stands in the cells of a state that is gone on from. No act is under way.
pub record HasStood (old : Search) (here : Here) (stood : Course) : Type 0 where
  pub cells : stood.cells.items ≡ here.course.cells.items
  pub met : stood.met ≡ here.course.met
  pub dead : stood.dead ≡ here.course.dead
  pub notes : stood.notes_dead ≡ old.course.notes_dead
  pub sent : stood.sent.items ≡ []

-- It stood there, and has gone on by a doing.
pub record HasTried (question : Question) (old : Search) (here : Here) (doing : Tried) (next : Search) : Type 0 where
  pub stood : Course
  pub has_stood : HasStood old here stood
  pub same : SameStates old next
  pub grown : IsGrown question old.steps next.steps
  pub notes : next.course.notes_dead ≡ stood.notes_dead
  pub goes :
      (act : Act) → slice_get question.acts doing.act ≡ Some act
      → Goes (tables_of old.steps) (tables_of next.steps) question stood next.course doing.first act

pub has_grown : (question : Question) (old : Search) (here : Here) (doing : Tried) (next : Search) → HasTried question old here doing next → HasGrown old next
has_grown question old here doing next tried = record {
  tables = tried.grown.tables;
  used = λ number value is. ap (λ (l : List (List ℕ)). slice_get l number) tried.same.used ∙ is;
  origins = λ number value is. ap (λ (l : List Origin). slice_get l number) tried.same.origins ∙ is;
  notes = tried.same.notes;
  most = tried.same.most;
}

-- these numbers stand for what others do that are the same
stand_as : (tables : Tables) (question : Question) (notes new_notes : Bool) (acts : List ℕ) (by : Standing) (one two : Course) → two.cells.items ≡ one.cells.items → two.met ≡ one.met → two.dead ≡ one.dead → new_notes ≡ notes
    → StandFor tables question notes one.cells.items one.dead one.met acts by → StandFor tables question new_notes two.cells.items two.dead two.met acts by
stand_as tables question notes new_notes acts by one two cells met dead same_notes stand =
    subst (λ n. StandFor tables question n two.cells.items two.dead two.met acts by) (sym same_notes)
    (subst (λ c. StandFor tables question notes c two.dead two.met acts by) (sym cells)
    (subst (λ d. StandFor tables question notes one.cells.items d two.met acts by) (sym dead)
    (subst (λ m. StandFor tables question notes one.cells.items one.dead m acts by) (sym met) stand)))

module _ (question : Question) (done more : ℕ) (old : Search) (here : Here) (by : Standing) (standings : List Standing) (from : GoesFrom question done more old here by standings) where
  room_for : (place spare : ℕ) (act : Act) → slice_get question.acts place ≡ Some act → spare ≤ room question more → suc (length act.commands) + spare ≤ room question (suc more)
  room_for place spare act there less =
      let most : suc (length act.commands) ≤ most_lines question.acts = has_most question.acts act (get_in question.acts place act there) in
      let more_is : room question (suc more) ≡ most_lines question.acts + room question more = by_parts (most_lines question.acts) in
      omega (arith, most, less, more_is)
    where
      by_parts : (most : ℕ) → suc more * most ≡ most + more * most
      by_parts most = omega arith

  module _ (stood : Course) (has : HasStood old here stood) where
    stand : StandFor (tables_of old.steps) question old.notes_dead stood.cells.items stood.dead stood.met from.is.acts by
    stand = stand_as (tables_of old.steps) question old.notes_dead old.notes_dead from.is.acts by here.course stood has.cells has.met has.dead refl from.is.stand

    stood_notes : stood.notes_dead ≡ old.notes_dead
    stood_notes = has.notes ∙ from.states.course

    stands : (spare place : ℕ) (act : Act) → slice_get question.acts place ≡ Some act → spare ≤ room question more
        → StandsAt (suc (length act.commands) + spare) (tables_of old.steps) question stood by.world (length by.world.messages)
    stands spare place act there less =
        stand_at question (tables_of old.steps) old.notes_dead from.is.acts by stood stand stood_notes has.sent (suc (length act.commands) + spare)
        (reached_less question (room question (suc more)) (suc (length act.commands) + spare) by.world (room_for place spare act there less) from.within.goes_on.reached)
        from.within.goes_on.fit.met

    pub may_go : (doing : Tried) → MayTry question (tables_of old.steps) by doing
        → (act : Act) × (world : World) × (message : Option ℕ) × (slice_get question.acts doing.act ≡ Some act) × MayBegin 0 (tables_of old.steps) question stood doing.first act world message
    may_go doing may = (
      may.act,
      by.world,
      may.message,
      may.there,
      record { stands = stands 0 doing.act may.act may.there (omega arith); first_is = may.begins },
    )

  -- once the course has gone
  module _ (doing : Tried) (next : Search) (tried : HasTried question old here doing next) where
    stood_still : StandFor (tables_of old.steps) question old.notes_dead tried.stood.cells.items tried.stood.dead tried.stood.met from.is.acts by
    stood_still = stand tried.stood tried.has_stood

    next_notes : next.course.notes_dead ≡ next.notes_dead
    next_notes = tried.notes ∙ stood_notes tried.stood tried.has_stood ∙ sym tried.same.notes

    next_states : AreStates question (suc done) more next standings
    next_states = states_grow question (suc done) more old next standings tried.same next_notes tried.grown from.states

    next_within : IsWithin question next.origins.items done (suc more) here.number by
    next_within = subst (λ (l : List Origin). IsWithin question l done (suc more) here.number by) (sym tried.same.origins) from.within

    stand_next : StandFor (tables_of next.steps) question old.notes_dead here.course.cells.items here.course.dead here.course.met from.is.acts by
    stand_next = stand_grows question (tables_of old.steps) (tables_of next.steps) old.notes_dead tried.grown.tables here.course.cells.items here.course.dead here.course.met from.is.acts by from.is.stand

    module _ (may : MayTry question (tables_of old.steps) by doing) where
      begins_then : BeginsWith (tables_of next.steps) doing.first by.world may.message
      begins_then = begins_grows (tables_of old.steps) (tables_of next.steps) tried.grown.tables doing.first by.world may.message may.begins

      was_done : WasDone (room question more) (tables_of next.steps) question tried.stood next.course may.act by.world may.message
      was_done = tried.goes may.act may.there (room question more) by.world may.message
          (record { stands = stands tried.stood tried.has_stood (room question more) doing.act may.act may.there (omega arith); first_is = may.begins })

      is_done : IsDone (room question more) (tables_of next.steps) question next.course by may.act may.message
      is_done = record {
        noted = was_done.stands.under_way.noted;
        reached = was_done.stands.reached;
        within = was_done.stands.met;
        seen = was_done.stands.seen;
        leaves = subst (λ (wants : List Want). Leaves by.world (act_done by.world may.act may.message) wants (left_after question next.course.met)) (sym stood_still.left) was_done.leaves;
      }

      enough : suc (length may.act.commands) ≤ room question (suc more)
      enough = let all : suc (length may.act.commands) + 0 ≤ room question (suc more) = room_for doing.act 0 may.act may.there (omega arith) in omega (arith, all)

      -- all wants are met
      pub has_met : next.course.met ≡ length question.wants → HasMet question done next (record { from = here.number; doing = doing })
      has_met met = record {
        standings = standings;
        more = more;
        states = next_states;
        from = by;
        new = record {
          world = world_after by.world (act_done by.world may.act may.message);
          used = used_more by.used doing.act;
          left = left_after question next.course.met;
        };
        there = from.there;
        acts = next_within.acts;
        few = next_within.few;
        after = next_within.after;
        led = led_by question (tables_of old.steps) by doing may (room question (suc more)) (room question more) from.within.goes_on enough (tables_of next.steps) next.course begins_then is_done
            (used_more by.used doing.act) (λ place limit other there is. refl)
            (reached_less question (room question (suc more)) (suc (length may.act.commands)) by.world enough from.within.goes_on.reached);
        met = drop_of_length-le question.wants {i = next.course.met} (omega (arith, met));
      }

      -- else the course stands where it may be kept
      pub is_out : (next.course.met ≡ length question.wants → ⊥) → IsOut question done more next here.used (record { from = here.number; doing = doing }) by standings
      is_out unmet = record {
        states = next_states;
        there = from.there;
        within = next_within;
        acts = from.is.acts;
        acts_are = ap (λ (l : List (List ℕ)). slice_get l here.used) tried.same.used ∙ from.is.acts_are;
        counted = from.is.stand.used;
        may = record {
          act = may.act;
          message = may.message;
          there = may.there;
          begins = begins_then;
          any = may.any;
          limit = may.limit;
        };
        is = is_done;
        unmet = unmet;
      }

    -- where an act leads that begins so, the course stands
    pub lands : (new : Standing) → LeadsBy (tables_of old.steps) question by doing new → Lands (tables_of next.steps) question next.course by doing.act new
    lands new leads = record {
      noted = gone.noted;
      left = gone.left;
      used = leads.0.used ∙ ap (λ (act : ℕ). used_more by.used act) leads.1;
    }
      where
        act_there : slice_get question.acts doing.act ≡ Some leads.0.act
        act_there = ap (slice_get question.acts) (sym leads.1) ∙ leads.0.may.there

        gone : HasGone question (tables_of next.steps) next.course (room question more) new
        gone = has_gone question (tables_of old.steps) old.notes_dead from.is.acts by tried.stood stood_still (stood_notes tried.stood tried.has_stood) tried.has_stood.sent (tables_of next.steps) next.course doing.first new leads.0 leads.2
            (tried.goes leads.0.act act_there) (room question (suc more)) (room question more) from.within.goes_on.reached from.within.goes_on.fit.met
            (room_for doing.act (room question more) leads.0.act act_there (omega arith))

    -- it stands where it was
    pub idle : next.course.cells.items ≡ here.course.cells.items → next.course.met ≡ here.course.met → next.course.dead ≡ here.course.dead
        → Grown question (suc done) more next standings (LeadsBy (tables_of old.steps) question by doing)
    idle cells met dead = record {
      standings = standings;
      states = next_states;
      extends = extends_itself standings;
      covers = λ new leads. (
        by,
        get_in standings here.number by from.there,
        idle_covered question (tables_of next.steps) next.notes_dead next.course from.is.acts by new doing.act (sym next_states.notes) next_notes (lands new leads)
            (stand_as (tables_of next.steps) question old.notes_dead next.notes_dead from.is.acts by here.course next.course cells met dead tried.same.notes stand_next),
      );
    }
