-- What a search tells of runs, level after level, and where it ends.
use Rattle.std.proofs.Common.{◌≡◌, ◌∙◌, ◌≤◌, ◌<◌, ◌+◌, ◌-◌, inl, inr, ap, sym, subst, refl, arith, append-nil, nat_lt, ltb-true, ℕ, zero, suc, Bool, true, false, Option, None, Some, List, [], ◌∷◌, ◌++◌, length, length-append, slice_get, take}
use Rattle.std.proofs.Math.Seq.{take-append_seam}
use Rattle.std.proofs.lemmas.Bool.{ltb-false}
use Rattle.std.proofs.lemmas.Option.{slice_get_within}
use Rattle.commit_machine.proofs.Growth.{in_left}
use Rattle.rs_optime.specs.Membership.{In}
use Rattle.set_model.specs.declared.command.Event.{Event}
use Rattle.explore_words.specs.declared.question.Question.{Question}
use Rattle.question_laws.specs.Following.{Standing, start}
use Rattle.question_laws.specs.Laws.{FollowersAreRuns, SearchesAreWhole, SearchesTell}
use Rattle.question_laws.specs.Lawful.{HasCommands, IsLawful}
use Rattle.question_laws.proofs.Acts.{place_of}
use Rattle.explore_steps.specs.Reaching.{IsPut}
use Rattle.explorer.specs.declared.search.Origin.{Origin}
use Rattle.explorer.specs.declared.search.Search.{Search}
use Rattle.explorer.specs.declared.search.Stop.{Stop}
use Rattle.explorer.specs.declared.search.Stop.TheVariants.{Met}
use Rattle.explorer.specs.Exploring.{AreEnough, HasNone, HasNoneUpTo, IsShortest}
use Rattle.explorer.specs.Levels.{AreAmong, AreExpanded, AreSearched, IsCoveredIn}
use Rattle.explorer.specs.States.{AreStates, Extends, GoesOn, Grown, HasMet, IsBegun, IsFound, IsLevel, IsNext}
use Rattle.explorer.proofs.LevelLemmas.{expanded_more, expanded_none, level_begins, level_next, levels_end, none_met}

-- ---- standings by their numbers

get_taken : {A : Type 0} (xs : List A) (many place : ℕ) (x : A) → place < many → slice_get xs place ≡ Some x → In x (take many xs)
get_taken xs zero place x before is = absurd (omega (arith, before))
get_taken [] (suc many) place x before is = absurd (cc is)
get_taken (y ∷ xs) (suc many) zero x before is = inl (cc is)
get_taken (y ∷ xs) (suc many) (suc place) x before is = inr (get_taken xs many place x (omega (arith, before)) is)

get_first_in : {A : Type 0} (xs : List A) (x : A) → slice_get xs 0 ≡ Some x → In x xs
get_first_in [] x is = absurd (cc is)
get_first_in (y ∷ xs) x is = inl (cc is)

among_itself : (all : List Standing) → AreAmong all all
among_itself all standing there = there

among_later : (old new : List Standing) → Extends old new → AreAmong old new
among_later old new extends standing there = subst (λ (l : List Standing). In standing l) (sym extends.1) (in_left standing old extends.0 there)

no_more : (old new : List Standing) → Extends old new → length new ≡ length old → new ≡ old
no_more old new extends same = by extends.0 extends.1
  where
    by : (more : List Standing) → new ≡ old ++ more → new ≡ old
    by [] is = is ∙ append-nil old
    by (one ∷ more) is = absurd (let longer : length new ≡ length old + length (one ∷ more) = ap length is ∙ length-append old (one ∷ more) in omega (arith, same, longer))

-- ---- one level

-- no state has all wants met
pub wanting : (question : Question) (done more : ℕ) (search : Search) (standings : List Standing) → AreStates question done more search standings → (found : Standing) → In found standings → found.left ≡ [] → ⊥
wanting question done more search standings states found there none =
    (states.within (place_of found standings there).0 found (place_of found standings there).1).goes_on.unmet none

-- all states up to the end are gone on from
pub expanded_all : (question : Question) (first : ℕ) (some all : List Standing) → AreExpanded question (take first some) all → ((new : Standing) → IsNext question some first (length some) new → IsCoveredIn question all new)
    → AreExpanded question some all
expanded_all question first some all before covers by new there leads = by_order (nat_lt place first) refl
  where
    place : ℕ
    place = (place_of by some there).0

    get : slice_get some place ≡ Some by
    get = (place_of by some there).1

    by_order : (b : Bool) → nat_lt place first ≡ b → IsCoveredIn question all new
    by_order true below = before by new (get_taken some first place by (ltb-true place first below) get) leads
    by_order false above = covers new (place, by, ltb-false place first above, slice_get_within some place by get, get, leads)

-- the first level has the first state
pub first_level : (question : Question) (depth : ℕ) (search : Search) → AreStates question 0 depth search (start question ∷ []) → IsLevel question depth 0 0 search
first_level question depth search states = record {
  more = depth;
  standings = start question ∷ [];
  left = omega arith;
  states = states;
  within = omega arith;
  searched = level_begins question (start question ∷ []) (inl refl);
  expanded = expanded_none question (start question ∷ []);
}

module _ (question : Question) (depth level first : ℕ) (old new : Search) (is : IsLevel question depth level first old) (more : ℕ)
    (grown : Grown question (suc level) more new is.standings (IsNext question is.standings first (length is.standings))) where
  among : AreAmong is.standings grown.standings
  among = among_later is.standings grown.standings grown.extends

  expanded : AreExpanded question is.standings grown.standings
  expanded = expanded_all question first is.standings grown.standings (expanded_more question (take first is.standings) is.standings grown.standings among is.expanded) grown.covers

  pub next_level : (now : ℕ) → now ≡ level + 1 → now + more ≡ depth → IsLevel question depth now (length is.standings) new
  next_level now now_is left = record {
    more = more;
    standings = grown.standings;
    left = left;
    states = subst (λ k. AreStates question k more new grown.standings) (omega (arith, now_is)) grown.states;
    within = let longer : length grown.standings ≡ length is.standings + length grown.extends.0 = ap length grown.extends.1 ∙ length-append is.standings grown.extends.0 in omega (arith, longer);
    searched = subst (λ k. AreSearched question k grown.standings) (sym now_is) (level_next question level is.standings grown.standings is.searched among expanded);
    expanded = subst (λ (l : List Standing). AreExpanded question l grown.standings) (sym front) expanded;
  }
    where
      front : take (length is.standings) grown.standings ≡ is.standings
      front = ap (take (length is.standings)) grown.extends.1 ∙ take-append_seam is.standings grown.extends.0

  -- nothing new was come to: so it goes at all levels after it
  pub last_level : length grown.standings ≡ length is.standings → (most : ℕ) → AreSearched question most is.standings
  last_level same most = levels_end question is.standings most (get_first_in is.standings (start question) is.states.begin)
      (subst (λ (l : List Standing). AreExpanded question is.standings l) (no_more is.standings grown.standings grown.extends same) expanded)

-- ---- the end

are_enough : SearchesAreWhole → (question : Question) (most : ℕ) (all : List Standing) → IsLawful question → AreSearched question most all → AreEnough question most (length all)
are_enough whole question most all lawful searched = record {
  standings = all;
  count = refl;
  cover = λ acts new few leads.
      (let found = whole question most acts searched.table new lawful searched.searched few leads in
      (found.1, searched.among found.0 found.1 found.3, found.4));
}

-- none is met by what is covered by the states of a search
pub none_up_to : SearchesAreWhole → SearchesTell → (question : Question) (done more most limit states : ℕ) (search : Search) (all : List Standing) → IsLawful question → AreStates question done more search all
    → AreSearched question most all → length all ≡ states → states ≤ limit → HasNoneUpTo question most limit states
none_up_to whole tell question done more most limit states search all lawful stand searched count within = record {
  none = none_met tell question most all lawful searched (wanting question done more search all stand);
  enough = subst (AreEnough question most) count (are_enough whole question most all lawful searched);
  within = within;
}

-- a run that was found has the fewest acts
pub shortest_of : FollowersAreRuns → (question : Question) (most acts : ℕ) (events : List Event) → HasCommands question → IsFound question most acts events → ((fewer : ℕ) → fewer < acts → HasNone question fewer)
    → IsShortest question acts events
shortest_of are_runs question most acts events commands found fewer = record {
  follows = found.follows;
  defined = are_runs question acts events commands found.follows;
  meets = found.meets;
  shortest = fewer;
}

-- what may be done at a level
pub level_states : (question : Question) (depth level first : ℕ) (search : Search) (is : IsLevel question depth level first search) → level < depth
    → (more : ℕ) × AreStates question level (suc more) search is.standings × ((level + 1) + more ≡ depth)
level_states question depth level first search is below =
    let left : level + is.more ≡ depth = is.left in
    (depth - (level + 1), subst (λ k. AreStates question level k search is.standings) (omega (arith, left, below)) is.states, omega (arith, below))

-- how far a search may go on
pub met_at : (question : Question) (done more : ℕ) (search : Search) (old : List Standing) (By : Standing → Type 0) (stop : Option Stop) (last : Origin) → stop ≡ Some (Met last) → GoesOn question done more search old By stop → HasMet question done search last
met_at question done more search old By stop last same goes = subst (GoesOn question done more search old By) same goes

pub grown_to : (question : Question) (done more : ℕ) (search : Search) (old : List Standing) (first end : ℕ) (stop : Option Stop) → stop ≡ None → end ≡ length old → GoesOn question done more search old (IsNext question old first end) stop
    → Grown question (suc done) more search old (IsNext question old first (length old))
grown_to question done more search old first end stop same all goes =
    subst (λ e. Grown question (suc done) more search old (IsNext question old first e)) all (subst (GoesOn question done more search old (IsNext question old first end)) same goes)

module _ (whole : SearchesAreWhole) (tell : SearchesTell) (question : Question) (put : IsPut question) (depth limit level first : ℕ) (search : Search) (is : IsLevel question depth level first search) (most : search.most ≡ limit) where
  few : length is.standings ≤ limit
  few = subst (λ k. length is.standings ≤ k) most is.states.most

  -- no run with at most so many acts meets the wants
  pub level_tells : (states : ℕ) → states ≡ length search.states.rows → HasNoneUpTo question level limit states
  level_tells states are =
      let count : length is.standings ≡ states = sym (are ∙ is.states.count) in
      none_up_to whole tell question level is.more level limit states search is.standings put.lawful is.states is.searched count (subst (λ k. k ≤ limit) count few)

  pub depth_tells : level ≡ depth → (states : ℕ) → states ≡ length search.states.rows → HasNoneUpTo question depth limit states
  depth_tells last states are = subst (λ k. HasNoneUpTo question k limit states) last (level_tells states are)

  -- so it is with any number, where one act more leads to no new state
  pub last_tells : (new : Search) (more : ℕ) → Grown question (suc level) more new is.standings (IsNext question is.standings first (length is.standings)) → (states : ℕ) → states ≡ length search.states.rows → length new.states.rows ≡ states
      → (acts : ℕ) → HasNoneUpTo question acts limit states
  last_tells new more grown states are same acts =
      let count : length is.standings ≡ states = sym (are ∙ is.states.count) in
      none_up_to whole tell question level is.more acts limit states search is.standings put.lawful is.states
      (last_level question depth level first search new is more grown (sym grown.states.count ∙ same ∙ sym count) acts) count (subst (λ k. k ≤ limit) count few)

  -- a run that was found from there has the fewest acts
  pub found_ends : FollowersAreRuns → level < depth → (acts : ℕ) (events : List Event) → IsFound question (suc level) acts events → (acts ≤ depth) × IsShortest question acts events
  found_ends are_runs below acts events found =
      let within : acts ≤ suc level = found.within in
      (omega (arith, within, below), shortest_of are_runs question (suc level) acts events put.commands found (λ fewer less. (level_tells (length search.states.rows) refl).none fewer (omega (arith, within, less))))

-- ---- the first state

-- all wants are met in it
pub begun_met : (question : Question) (depth : ℕ) (search : Search) (met : Bool) → met ≡ true → IsBegun question depth search met → (start question).left ≡ []
begun_met question depth search true same begun = begun
begun_met question depth search false same begun = absurd (cc same)

pub begun_unmet : (question : Question) (depth : ℕ) (search : Search) (met : Bool) → met ≡ false → IsBegun question depth search met → AreStates question 0 depth search (start question ∷ [])
begun_unmet question depth search true same begun = absurd (cc same)
begun_unmet question depth search false same begun = begun

pub begun_ends : FollowersAreRuns → (question : Question) → IsPut question → (depth : ℕ) (events : List Event) → IsFound question 0 0 events → (0 ≤ depth) × IsShortest question 0 events
begun_ends are_runs question put depth events found =
    (omega arith, shortest_of are_runs question 0 0 events put.commands found (λ fewer less. absurd (omega (arith, less))))
