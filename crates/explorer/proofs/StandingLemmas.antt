-- Standings that numbers stand for.
use Rattle.std.proofs.Common.{◌≡◌, ◌∙◌, ◌≤◌, ◌+◌, ◌*◌, ap, sym, subst, refl, arith, ℕ, Bool, true, false, Some, List, [], ◌∷◌, drop_of_length-le, length, map, slice_get, if◌then◌else◌}
use Rattle.std.proofs.lemmas.Option.{same_Some}
use Rattle.std.specs.List.{list_any}
use Rattle.explore_words.specs.declared.question.Question.{Question}
use Rattle.explore_words.specs.declared.question.Want.{Want}
use Rattle.explore_laws.proofs.AlikeEvents.{alike_itself}
use Rattle.question_laws.specs.Covered.{IsCovered, IsFit, goes_on}
use Rattle.question_laws.specs.Following.{Standing}
use Rattle.question_laws.specs.Lawful.{AreLawful, IsLawful}
use Rattle.question_laws.specs.Meeting.{unseen}
use Rattle.explore_steps.specs.declared.course.Course.{Course}
use Rattle.explore_steps.specs.Courses.{StandsAt, left_after}
use Rattle.explore_tables.specs.Numbers.{times}
use Rattle.explore_steps.specs.Reaching.{IsReachedBefore}
use Rattle.explorer.specs.Standings.{IsRowOf, StandFor}
use Rattle.explore_steps.specs.Tables.{AreNoted, AreNumbered, AreUnderWay, Grow, Tables}
use Rattle.explore_steps.proofs.CourseLemmas.{lawful_from}
use Rattle.explore_steps.proofs.Covering.{cells_cover}
use Rattle.explore_steps.proofs.Growth.{noted_grows}
use Rattle.explore_steps.proofs.Reach.{reached_settled}

-- ---- fit to go on from

pub fit_left : (spare : ℕ) (question : Question) (standing : Standing) (met : ℕ) → IsLawful question → IsReachedBefore spare question standing.world → standing.left ≡ left_after question met
    → unseen standing.world standing.left ≡ standing.left → IsFit standing
fit_left spare question standing met lawful reached left seen = record {
  settled = reached_settled question spare standing.world reached;
  wants = subst AreLawful (sym left) (lawful_from question met lawful);
  met = seen;
}

-- ---- the same numbers

module _ (question : Question) (tables : Tables) (notes : Bool) where
  -- the same numbers stand for standings that cover each other
  pub stands_cover : (cells : List ℕ) (dead : Bool) (met : ℕ) (acts : List ℕ) (one two : Standing) → list_any goes_on question.acts ≡ notes
      → StandFor tables question notes cells dead met acts one → StandFor tables question notes cells dead met acts two → IsCovered question one two
  stands_cover cells dead met acts one two notes_are first second =
      cells_cover tables cells question notes dead one two notes_are first.noted second.noted (first.left ∙ sym second.left)
      (λ place. no_more (two.used place) (one.used place) (second.used place ∙ sym (first.used place)))
    where
      no_more : (m n : ℕ) → m ≡ n → m ≤ n
      no_more m n same = omega (arith, same)

  -- numbers but for the acts: it is enough that no act was done more often
  pub stands_cover_less : (cells : List ℕ) (dead : Bool) (met : ℕ) (acts : List ℕ) (one by : Standing) → list_any goes_on question.acts ≡ notes
      → AreNoted tables notes cells dead one.world → one.left ≡ left_after question met → ((place : ℕ) → times place acts ≤ one.used place)
      → StandFor tables question notes cells dead met acts by → IsCovered question one by
  stands_cover_less cells dead met acts one by notes_are noted left less stand =
      cells_cover tables cells question notes dead one by notes_are noted stand.noted (left ∙ sym stand.left)
      (λ place. subst (λ k. k ≤ one.used place) (sym (stand.used place)) (less place))

  -- the wants that are met and the note are both told by their number
  pub both_told : (m n : ℕ) (a b : Bool) → m * 2 + (if a then 1 else 0) ≡ n * 2 + (if b then 1 else 0) → (m ≡ n) × (a ≡ b)
  both_told m n true true same = (omega (arith, same), refl)
  both_told m n true false same = absurd (omega (arith, same))
  both_told m n false true same = absurd (omega (arith, same))
  both_told m n false false same = (omega (arith, same), refl)

  module _ (lists : List (List ℕ)) (row : List ℕ) (one two : Standing) (first : IsRowOf tables lists question notes row one) (second : IsRowOf tables lists question notes row two) where
    same_row : (first.used ∷ (first.met * 2 + (if first.dead then 1 else 0)) ∷ first.cells) ≡ (second.used ∷ (second.met * 2 + (if second.dead then 1 else 0)) ∷ second.cells)
    same_row = sym first.row_is ∙ second.row_is

    three : (a b c d : ℕ) (xs ys : List ℕ) → a ∷ b ∷ xs ≡ c ∷ d ∷ ys → (a ≡ c) × (b ≡ d) × (xs ≡ ys)
    three a b c d xs ys same = (cc same, cc same, cc same)

    parts : (first.used ≡ second.used) × ((first.met * 2 + (if first.dead then 1 else 0)) ≡ (second.met * 2 + (if second.dead then 1 else 0))) × (first.cells ≡ second.cells)
    parts = three first.used (first.met * 2 + (if first.dead then 1 else 0)) second.used (second.met * 2 + (if second.dead then 1 else 0)) first.cells second.cells same_row

    told : (first.met ≡ second.met) × (first.dead ≡ second.dead)
    told = both_told first.met second.met first.dead second.dead parts.1

    same_acts : first.acts ≡ second.acts
    same_acts = same_Some first.acts second.acts (sym first.acts_are ∙ ap (slice_get lists) parts.0 ∙ second.acts_are)

    second_stands : StandFor tables question notes first.cells first.dead first.met first.acts two
    second_stands =
        subst (λ cells. StandFor tables question notes cells first.dead first.met first.acts two) (sym parts.2)
        (subst (λ dead. StandFor tables question notes second.cells dead first.met first.acts two) (sym told.1)
        (subst (λ met. StandFor tables question notes second.cells second.dead met first.acts two) (sym told.0)
        (subst (λ acts. StandFor tables question notes second.cells second.dead second.met acts two) (sym same_acts) second.stand)))

    -- equal rows stand for standings that cover each other
    pub rows_cover : list_any goes_on question.acts ≡ notes → IsCovered question one two
    rows_cover notes_are = stands_cover first.cells first.dead first.met first.acts one two notes_are first.stand second_stands

-- ---- how often acts were done

-- with only these acts counted
abbrev pub counted : Standing → List ℕ → Standing
counted standing acts = record standing { used = λ place. times place acts }

pub counted_covers : (question : Question) (standing : Standing) (acts : List ℕ) → ((place : ℕ) → times place acts ≤ standing.used place) → IsCovered question standing (counted standing acts)
counted_covers question standing acts less = record { worlds = alike_itself standing.world; left = refl; used = less; dead = λ goes is. is }

-- ---- as tables grow

module _ (question : Question) (old new : Tables) (notes : Bool) (grow : Grow old new) where
  pub stand_grows : (cells : List ℕ) (dead : Bool) (met : ℕ) (acts : List ℕ) (standing : Standing) → StandFor old question notes cells dead met acts standing → StandFor new question notes cells dead met acts standing
  stand_grows cells dead met acts standing stand = record {
    noted = noted_grows old new grow notes cells dead standing.world stand.noted;
    within = stand.within;
    left = stand.left;
    used = stand.used;
  }

  pub row_grows : (before after : List (List ℕ)) (row : List ℕ) (standing : Standing) → AreNumbered before after → IsRowOf old before question notes row standing → IsRowOf new after question notes row standing
  row_grows before after row standing lists is = record {
    used = is.used;
    acts = is.acts;
    met = is.met;
    dead = is.dead;
    cells = is.cells;
    row_is = is.row_is;
    acts_are = lists is.used is.acts is.acts_are;
    stand = stand_grows is.cells is.dead is.met is.acts standing is.stand;
  }

-- ---- a course that stands there

module _ (question : Question) (tables : Tables) (notes : Bool) (acts : List ℕ) (by : Standing) (course : Course)
    (stand : StandFor tables question notes course.cells.items course.dead course.met acts by) (notes_are : course.notes_dead ≡ notes) (sent_none : course.sent.items ≡ []) where
  under_way : AreUnderWay tables course.notes_dead course.cells.items course.sent.items course.dead by.world (length by.world.messages)
  under_way = record {
    noted = subst (λ n. AreNoted tables n course.cells.items course.dead by.world) (sym notes_are) stand.noted;
    sent_are = ap (map (slice_get tables.messages)) sent_none ∙ sym (ap (map Some) (drop_of_length-le by.world.messages {i = length by.world.messages} (omega arith)));
  }

  pub stand_at : (spare : ℕ) → IsReachedBefore spare question by.world → unseen by.world by.left ≡ by.left → StandsAt spare tables question course by.world (length by.world.messages)
  stand_at spare reached seen = record {
    under_way = under_way;
    begun = omega arith;
    reached = reached;
    met = stand.within;
    seen = subst (λ (wants : List Want). unseen by.world wants ≡ wants) stand.left seen;
  }
