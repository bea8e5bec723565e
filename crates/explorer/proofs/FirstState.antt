-- The first state of a search: that of the beginning.
use Rattle.std.proofs.Common.{◌≡◌, ◌↔◌, ◌∙◌, ◌≤◌, ◌+◌, ◌*◌, ◌-◌, ap, sym, subst, refl, arith, ℕ, zero, suc, Bool, true, false, Some, List, [], ◌∷◌, ◌++◌, drop, drop_of_length-le, length, length-drop, slice_get, if◌then◌else◌}
use Rattle.std.specs.Prelude.{IsTrue}
use Rattle.std.specs.List.{list_any}
use Rattle.std.proofs.lemmas.Option.{same_Some}
use Rattle.set_model.specs.World.{World}
use Rattle.explore_tables.specs.Rows.{Rows}
use Rattle.explore_words.specs.declared.question.Question.{Question}
use Rattle.question_laws.specs.Covered.{goes_on}
use Rattle.question_laws.specs.Following.{Standing, begun, start}
use Rattle.question_laws.specs.Meeting.{unseen}
use Rattle.question_laws.proofs.Wants.{unseen_again}
use Rattle.explore_steps.specs.Courses.{left_after}
use Rattle.explore_steps.specs.Keeping.{AreKept}
use Rattle.explore_steps.specs.Reaching.{IsReachedBefore}
use Rattle.explore_steps.specs.Tables.{AreNoted, tables_of}
use Rattle.explore_steps.proofs.Reach.{reached_begun, reached_count, reached_less}
use Rattle.explorer.specs.declared.search.Search.{Search}
use Rattle.explorer.specs.Exploring.{IsAsked}
use Rattle.explorer.specs.Standings.{IsRowOf, StandFor}
use Rattle.explorer.specs.States.{AreStates, IsBegun, IsWithin, room}
use Rattle.explorer.proofs.StandingLemmas.{fit_left}

-- ---- the world in which a search begins

before : (question : Question) (depth : ℕ) → IsAsked question depth → IsReachedBefore (room question depth) question (begun question)
before question depth asked = reached_begun question (room question depth) asked.put.commands asked.short

pub begins_at : (question : Question) → (depth : ℕ) × IsAsked question depth → (world : World) → world ≡ begun question → IsReachedBefore 0 question world
begins_at question asked world is =
    subst (IsReachedBefore 0 question) (sym is) (reached_less question (room question asked.0) 0 (begun question) (omega arith) (before question asked.0 asked.1))

-- ---- its row

-- The first state is there alone, and the course stands in it.
pub record IsFirst (question : Question) (search : Search) : Type 0 where
  pub used : ℕ
  pub kept : AreKept question search.steps
  pub notes : search.notes_dead ≡ list_any goes_on question.acts
  pub course : search.course.notes_dead ≡ search.notes_dead
  pub noted : AreNoted (tables_of search.steps) search.course.notes_dead search.course.cells.items search.course.dead (begun question)
  pub within : search.course.met ≤ length question.wants
  pub left : left_after question search.course.met ≡ unseen (begun question) question.wants
  pub acts : slice_get search.used used ≡ Some []
  pub states :
      search.states ≡ record { width = question.sizes.nodes + 2; rows = (used ∷ (search.course.met * 2 + (if search.course.dead then 1 else 0)) ∷ search.course.cells.items) ∷ [] }
  pub origins : length search.origins.items ≡ 1
  pub most : 1 ≤ search.most

-- a row has a cell for each node, and two numbers more
pub first_width : (question : Question) → (depth : ℕ) × IsAsked question depth → (world : World) → world ≡ begun question → (cells : List ℕ) → length cells ≡ length world.nodes
    → (used met : ℕ) (row : List ℕ) → row ≡ used ∷ met ∷ cells → length row ≡ question.sizes.nodes + 2
first_width question asked world is cells count used met row row_is =
    let long : length row ≡ length (used ∷ met ∷ cells) = ap length row_is in
    let nodes : length world.nodes ≡ question.sizes.nodes = reached_count question 0 world (begins_at question asked world is) in
    omega (arith, long, nodes, count)

pub one_there : {A : Type 0} (old new : List A) (item : A) → old ≡ [] → new ≡ old ++ item ∷ [] → length new ≡ 1
one_there old new item none is = ap length is ∙ ap (λ l. length (l ++ item ∷ [])) none

only : {A : Type 0} (first item : A) (place : ℕ) → slice_get (first ∷ []) place ≡ Some item → (place ≡ 0) × (first ≡ item)
only first item zero is = (refl, same_Some first item is)
only first item (suc place) is = absurd (cc is)

all_met : (met : ℕ) (question : Question) → met ≤ length question.wants → left_after question met ≡ [] → met ≡ length question.wants
all_met met question within none =
    let count : length (drop met question.wants) ≡ length question.wants - met = length-drop met question.wants in
    let nothing : length (drop met question.wants) ≡ 0 = ap length none in
    omega (arith, count, nothing, within)

module _ (question : Question) (depth : ℕ) (search : Search) (asked : IsAsked question depth) (is : IsFirst question search) where
  seen : unseen (begun question) (start question).left ≡ (start question).left
  seen = unseen_again (begun question) question.wants

  stands : StandFor (tables_of search.steps) question search.notes_dead search.course.cells.items search.course.dead search.course.met [] (start question)
  stands = record {
    noted = subst (λ notes. AreNoted (tables_of search.steps) notes search.course.cells.items search.course.dead (begun question)) is.course is.noted;
    within = is.within;
    left = sym is.left;
    used = λ place. refl;
  }

  first_row : IsRowOf (tables_of search.steps) search.used question search.notes_dead
      (is.used ∷ (search.course.met * 2 + (if search.course.dead then 1 else 0)) ∷ search.course.cells.items) (start question)
  first_row = record {
    used = is.used;
    acts = [];
    met = search.course.met;
    dead = search.course.dead;
    cells = search.course.cells.items;
    row_is = refl;
    acts_are = is.acts;
    stand = stands;
  }

  within_first : ((start question).left ≡ [] → ⊥) → IsWithin question search.origins.items 0 depth 0 (start question)
  within_first unmet = record {
    acts = 0;
    few = omega arith;
    after = refl;
    goes_on = record {
      fit = fit_left (room question depth) question (start question) search.course.met asked.put.lawful (before question depth asked) (sym is.left) seen;
      reached = before question depth asked;
      unmet = unmet;
    };
  }

  first_states : ((start question).left ≡ [] → ⊥) → AreStates question 0 depth search (start question ∷ [])
  first_states unmet = record {
    kept = is.kept;
    notes = is.notes;
    course = is.course;
    width = ap (λ (t : Rows). t.width) is.states;
    count = ap (λ (t : Rows). length t.rows) is.states;
    origins = is.origins;
    most = is.most;
    rows = λ number row standing row_is there.
        (let at = only (is.used ∷ (search.course.met * 2 + (if search.course.dead then 1 else 0)) ∷ search.course.cells.items) row number
        (sym (ap (λ (t : Rows). slice_get t.rows number) is.states) ∙ row_is) in
        subst (λ (s : Standing). IsRowOf (tables_of search.steps) search.used question search.notes_dead row s) (only (start question) standing number there).1
        (subst (λ (r : List ℕ). IsRowOf (tables_of search.steps) search.used question search.notes_dead r (start question)) at.1 first_row));
    within = λ number standing there.
        (let at = only (start question) standing number there in
        subst (λ n. IsWithin question search.origins.items 0 depth n standing) (sym at.0) (subst (IsWithin question search.origins.items 0 depth 0) at.1 (within_first unmet)));
    begin = refl;
    from = λ number origin standing later origin_is there. absurd (let at = (only (start question) standing number there).0 in omega (arith, at, later));
  }

  -- the search has begun
  pub first_begun : (met : Bool) → IsTrue met ↔ search.course.met ≡ length question.wants → IsBegun question depth search met
  first_begun true tells = sym is.left ∙ drop_of_length-le question.wants {i = search.course.met} (let all : search.course.met ≡ length question.wants = tells.0 refl in omega (arith, all))
  first_begun false tells = first_states (λ none. absurd (cc (tells.1 (all_met search.course.met question is.within (is.left ∙ none)))))
