-- A search goes from level to level, and then tells that there is no run.
use Rattle.std.proofs.Common.{◌≡◌, ◌≤◌, ◌<◌, ◌+◌, inl, inr, ap, sym, subst, refl, arith, nat_lt, ltb-true, ℕ, suc, Bool, true, false, List, [], ◌∷◌, ◌++◌, if◌then◌else◌}
use Rattle.std.proofs.lemmas.Bool.{le-ltb, lt-ltb, ltb-false}
use Rattle.commit_machine.proofs.Growth.{in_append}
use Rattle.rs_optime.specs.Membership.{In}
use Rattle.set_model.specs.declared.command.Event.{Event}
use Rattle.explore_words.specs.declared.question.Question.{Question}
use Rattle.question_laws.specs.Covered.{IsCovered}
use Rattle.question_laws.specs.Following.{Follows, LeadsTo, Meets, Standing, start}
use Rattle.question_laws.specs.Lawful.{IsLawful}
use Rattle.question_laws.specs.Laws.{SearchesTell}
use Rattle.explorer.specs.Levels.{AreAmong, AreExpanded, AreSearched, IsCoveredIn}

-- ---- one standing after another

pub covered_more : (question : Question) (some all : List Standing) (new : Standing) → AreAmong some all → IsCoveredIn question some new → IsCoveredIn question all new
covered_more question some all new among covered = (covered.0, among covered.0 covered.1, covered.2)

pub expanded_more : (question : Question) (done some all : List Standing) → AreAmong some all → AreExpanded question done some → AreExpanded question done all
expanded_more question done some all among expanded by new there leads = covered_more question some all new among (expanded by new there leads)

pub expanded_none : (question : Question) (all : List Standing) → AreExpanded question [] all
expanded_none question all by new there leads = absurd there

-- with one more
pub expanded_next : (question : Question) (done all : List Standing) (one : Standing) → AreExpanded question done all → ((new : Standing) → LeadsTo question one new → IsCoveredIn question all new)
    → AreExpanded question (done ++ one ∷ []) all
expanded_next question done all one expanded covers by new there leads = elim (in_append by done (one ∷ []) there) [
  | inl before ↦ expanded by new before leads
  | inr last ↦ at_last last
]
  where
    at_last : In by (one ∷ []) → IsCoveredIn question all new
    at_last (inl same) = covers new (subst (λ (s : Standing). LeadsTo question s new) (sym same) leads)
    at_last (inr none) = absurd none

-- ---- one level after another

pub level_begins : (question : Question) (all : List Standing) → In (start question) all → AreSearched question 0 all
level_begins question all there = record {
  table = λ level. all;
  searched = record { start = there; next = λ level by next less in_it leads. absurd (omega (arith, less)) };
  among = λ level standing in_it. in_it;
}

module _ (question : Question) (depth : ℕ) (before all : List Standing) (searched : AreSearched question depth before) (among : AreAmong before all) (expanded : AreExpanded question before all) where
  abbrev table : ℕ → List Standing
  table level = if nat_lt depth level then all else searched.table level

  early : (level : ℕ) → level ≤ depth → table level ≡ searched.table level
  early level order = ap (λ b. if b then all else searched.table level) (le-ltb depth level order)

  late : table (depth + 1) ≡ all
  late = ap (λ b. if b then all else searched.table (depth + 1)) (lt-ltb depth (depth + 1) (omega arith))

  goes_on : (level : ℕ) (by next : Standing) → level < depth + 1 → In by (table level) → LeadsTo question by next
      → (later : ℕ) × (found : Standing) × (later ≤ suc level) × In found (table later) × IsCovered question next found
  goes_on level by next less there leads = by_order (nat_lt level depth) refl
    where
      was : In by (searched.table level)
      was = subst (λ (l : List Standing). In by l) (early level (omega (arith, less))) there

      by_order : (b : Bool) → nat_lt level depth ≡ b → (later : ℕ) × (found : Standing) × (later ≤ suc level) × In found (table later) × IsCovered question next found
      by_order true below =
          let old : (later : ℕ) × (found : Standing) × (later ≤ suc level) × In found (searched.table later) × IsCovered question next found =
          searched.searched.next level by next (ltb-true level depth below) was leads in
          let order : old.0 ≤ suc level = old.2 in
          let inside : level < depth = ltb-true level depth below in
          (old.0, old.1, old.2, subst (λ (l : List Standing). In old.1 l) (sym (early old.0 (omega (arith, order, inside)))) old.3, old.4)
      by_order false level_is =
          let new : IsCoveredIn question all next = expanded by next (searched.among level by was) leads in
          let order : depth ≤ level = ltb-false level depth level_is in
          (depth + 1, new.0, omega (arith, order), subst (λ (l : List Standing). In new.0 l) (sym late) new.1, new.2)

  pub level_next : AreSearched question (depth + 1) all
  level_next = record {
    table = table;
    searched = record {
      start = subst (λ (l : List Standing). In (start question) l) (sym (early 0 (omega arith))) searched.searched.start;
      next = goes_on;
    };
    among = λ level standing there. all_among level (nat_lt depth level) standing there;
  }
    where
      all_among : (level : ℕ) (b : Bool) (standing : Standing) → In standing (if b then all else searched.table level) → In standing all
      all_among level true standing there = there
      all_among level false standing there = among standing (searched.among level standing there)

-- nothing new is found any more
pub levels_end : (question : Question) (all : List Standing) (depth : ℕ) → In (start question) all → AreExpanded question all all → AreSearched question depth all
levels_end question all depth there expanded = record {
  table = λ level. all;
  searched = record {
    start = there;
    next = λ level by next less in_it leads. (let covered : IsCoveredIn question all next = expanded by next in_it leads in (0, covered.0, omega arith, covered.1, covered.2));
  };
  among = λ level standing in_it. in_it;
}

-- no run meets all wants, with at most so many acts
pub none_met : SearchesTell → (question : Question) (depth : ℕ) (all : List Standing) → IsLawful question → AreSearched question depth all
    → ((found : Standing) → In found all → found.left ≡ [] → ⊥)
    → (acts : ℕ) → acts ≤ depth → (events : List Event) → Follows question acts events → Meets question events → ⊥
none_met tell question depth all lawful searched wanting acts within events follows meets =
    tell question depth acts searched.table events lawful searched.searched within (λ level found order there none. wanting found (searched.among level found there) none) follows meets
