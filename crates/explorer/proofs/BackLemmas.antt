-- The way back from a state to the first.
use Rattle.std.proofs.Common.{◌≡◌, ◌∙◌, ◌≤◌, ◌<◌, ◌+◌, ap, sym, subst, refl, arith, ℕ, zero, suc, Some, List, [], ◌∷◌, ◌++◌, length, length-append, reverse, slice_get}
use Rattle.std.proofs.lemmas.List.{length-reverse, reverse-append}
use Rattle.std.proofs.lemmas.Option.{same_Some, slice_get_within}
use Rattle.explore_words.specs.declared.question.Question.{Question}
use Rattle.question_laws.specs.Following.{Standing, start}
use Rattle.explore_steps.specs.declared.doing.Doing.{Doing as Tried}
use Rattle.explore_steps.specs.Tables.{tables_of}
use Rattle.explorer.specs.declared.search.Origin.{Origin}
use Rattle.explorer.specs.declared.search.Search.{Search}
use Rattle.explorer.specs.Standings.{AreLed}
use Rattle.explorer.specs.States.{ComesFrom, HasMet, IsAfter, IsBack, IsPath}

module _ (question : Question) (done : ℕ) (search : Search) (last : Origin) (met : HasMet question done search last) where
  pub back_begins : IsBack question done search last met last.from (last.doing ∷ [])
  back_begins = record {
    acts = met.acts;
    at = met.from;
    there = met.there;
    after = met.after;
    count = let few : met.acts ≤ done = met.few in omega (arith, few);
    led = (met.new, met.led, refl);
  }

  module _ (state : ℕ) (doings : List Tried) (back : IsBack question done search last met state doings) where
    pub back_within : state < length search.origins.items
    back_within = subst (λ n. state < n) (sym met.states.origins) (slice_get_within met.standings state back.at back.there)

    comes : (origin : Origin) → 0 < state → slice_get search.origins.items state ≡ Some origin → ComesFrom (tables_of search.steps) question met.standings state origin back.at
    comes origin later is = met.states.from state origin back.at later is back.there

    pub back_older : (origin : Origin) → 0 < state → slice_get search.origins.items state ≡ Some origin → origin.from < state
    back_older origin later is = (comes origin later is).older

    -- one state more
    pub back_more : (origin : Origin) → 0 < state → slice_get search.origins.items state ≡ Some origin → IsBack question done search last met origin.from (doings ++ origin.doing ∷ [])
    back_more origin later is = by back.acts back.after back.count
      where
        turned : reverse (doings ++ origin.doing ∷ []) ≡ origin.doing ∷ reverse doings
        turned = reverse-append doings (origin.doing ∷ [])

        by : (acts : ℕ) → IsAfter search.origins.items acts state → acts + length doings ≤ suc done → IsBack question done search last met origin.from (doings ++ origin.doing ∷ [])
        by zero after count = absurd (omega (arith, after, later))
        by (suc acts) after count = record {
          acts = acts;
          at = (comes origin later is).from;
          there = (comes origin later is).there;
          after = subst (λ (o : Origin). IsAfter search.origins.items acts o.from) (same_Some after.0 origin (sym after.1 ∙ is)) after.3;
          count = let longer : length (doings ++ origin.doing ∷ []) ≡ length doings + 1 = length-append doings (origin.doing ∷ []) in omega (arith, longer, count);
          led = subst (λ (l : List Tried). AreLed (tables_of search.steps) question (comes origin later is).from l met.new) (sym turned) (back.at, (comes origin later is).led, back.led);
        }

    -- at the first
    pub back_ends : state ≡ 0 → IsPath question (suc done) (tables_of search.steps) (reverse doings)
    back_ends first = (
      met.new,
      subst (λ (s : Standing). AreLed (tables_of search.steps) question s (reverse doings) met.new) begun back.led,
      met.met,
      few,
    )
      where
        begun : back.at ≡ start question
        begun = same_Some back.at (start question) (sym back.there ∙ ap (slice_get met.standings) first ∙ met.states.begin)

        few : length (reverse doings) ≤ suc done
        few = let count : back.acts + length doings ≤ suc done = back.count in let same : length (reverse doings) ≡ length doings = length-reverse doings in omega (arith, same, count)
