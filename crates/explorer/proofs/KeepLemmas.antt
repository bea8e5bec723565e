-- What becomes of the states where a course has come to one.
use Rattle.std.proofs.Common.{◌≡◌, ◌∙◌, ◌≤◌, ◌<◌, ◌+◌, ◌*◌, ◌-◌, ◌==◌, ◌&&◌, inl, inr, ap, sym, subst, refl, arith, eq-eqb, eqb-true, ℕ, suc, Bool, true, false, Option, Some, List, [], ◌∷◌, ◌++◌, drop, get_or, length, length-drop, slice_get, if◌then◌else◌}
use Rattle.std.proofs.lemmas.Option.{same_Some, slice_get_read, slice_get_within}
use Rattle.std.specs.List.{list_any}
use Rattle.std.specs.Prelude.{is_some}
use Rattle.rs_optime.specs.Membership.{In}
use Rattle.safety_laws.proofs.Places.{get_in}
use Rattle.explore_words.specs.declared.question.Act.{Act}
use Rattle.explore_words.specs.declared.question.Question.{Question}
use Rattle.question_laws.specs.Covered.{IsCovered, goes_on}
use Rattle.question_laws.specs.Doing.{act_done, world_after}
use Rattle.question_laws.specs.Following.{Standing, used_more}
use Rattle.question_laws.proofs.Search.{covered_on}
use Rattle.explore_tables.specs.Numbers.{times}
use Rattle.explore_tables.specs.Rows.{Rows}
use Rattle.explore_steps.specs.declared.steps.Steps.{Steps}
use Rattle.explore_steps.specs.Courses.{left_after}
use Rattle.explore_steps.specs.Keeping.{AreKept}
use Rattle.explore_steps.specs.Reaching.{IsPut}
use Rattle.explore_steps.specs.Tables.{AreNoted, AreNumbered, Grow, tables_of}
use Rattle.explore_steps.proofs.Covering.{there_too}
use Rattle.explore_steps.proofs.Growth.{grow_itself}
use Rattle.explore_steps.proofs.Reach.{reached_count, reached_less}
use Rattle.explorer.specs.declared.search.Origin.{Origin}
use Rattle.explorer.specs.declared.search.Search.{Search}
use Rattle.explorer.specs.Exploring.{most_lines}
use Rattle.explorer.specs.Standings.{IsLed, IsRowOf, MayGoOn, StandFor}
use Rattle.explorer.specs.States.{AreStates, ComesFrom, Grown, HasGrown, IsMore, IsOut, IsWithin, Lands, counts, room}
use Rattle.explorer.proofs.Attempt.{has_most}
use Rattle.explorer.proofs.StandingLemmas.{fit_left, row_grows, rows_cover, stands_cover_less}
use Rattle.explorer.proofs.StateLemmas.{IsAdded, extends_itself, numbers_stay, states_more}
use Rattle.explorer.proofs.Trying.{led_by}

pub read_at : {A : Type 0} (xs ys : List A) (place : ℕ) (x : A) → ys ≡ xs → place < length xs → x ≡ get_or ys place x → slice_get xs place ≡ Some x
read_at {A} xs ys place x same within is =
    ap (λ (l : List A). slice_get l place) (sym same) ∙ slice_get_read ys (length ys) place x refl (subst (λ (l : List A). place < length l) (sym same) within) is

in_last : {A : Type 0} (xs : List A) (x : A) → In x (xs ++ x ∷ [])
in_last [] x = inl refl
in_last (y ∷ xs) x = inr (in_last xs x)

none_left : {A : Type 0} (met : ℕ) (xs : List A) → met ≤ length xs → drop met xs ≡ [] → met ≡ length xs
none_left met xs within none =
    let count : length (drop met xs) ≡ length xs - met = length-drop met xs in
    let zero_is : length (drop met xs) ≡ 0 = ap length none in
    omega (arith, count, zero_is, within)

-- ---- how often acts count

-- an act that is done counts at most once more
counts_within : (of : Act) (act place : ℕ) (used : ℕ → ℕ) → used place + counts of act place ≤ used_more used act place
counts_within of act place used = by (is_some of.limit) (act == place) (place == act) refl refl
  where
    by : (limited a b : Bool) → (act == place) ≡ a → (place == act) ≡ b → used place + (if limited && a then 1 else 0) ≤ (if b then used place + 1 else used place)
    by true true true same other = omega arith
    by true true false same other = absurd (cc (sym other, eq-eqb place act (sym (eqb-true act place same))))
    by true false true same other = omega arith
    by true false false same other = omega arith
    by false a true same other = omega arith
    by false a false same other = omega arith

-- and just once where it is limited
counts_exactly : (of : Act) (act place : ℕ) (used : ℕ → ℕ) → (act ≡ place → is_some of.limit ≡ true) → used place + counts of act place ≡ used_more used act place
counts_exactly of act place used limited_is = by (is_some of.limit) (act == place) (place == act) refl refl refl
  where
    by : (limited a b : Bool) → is_some of.limit ≡ limited → (act == place) ≡ a → (place == act) ≡ b → used place + (if limited && a then 1 else 0) ≡ (if b then used place + 1 else used place)
    by true true true limit same other = refl
    by false true b limit same other = absurd (cc (limit, limited_is (eqb-true act place same)))
    by limited true false limit same other = absurd (cc (other, eq-eqb place act (sym (eqb-true act place same))))
    by limited false true limit same other = absurd (cc (same, eq-eqb act place (sym (eqb-true place act other))))
    by true false false limit same other = omega arith
    by false false false limit same other = omega arith

-- ---- only lists of acts are added

-- Only lists of acts are others, and the numbers of the row that is tried.
pub record HasMoreLists (old new : Search) : Type 0 where
  pub steps : new.steps ≡ old.steps
  pub used : AreNumbered old.used new.used
  pub states : new.states ≡ old.states
  pub origins : new.origins.items ≡ old.origins.items
  pub most : new.most ≡ old.most
  pub notes : new.notes_dead ≡ old.notes_dead
  pub course : new.course.notes_dead ≡ old.course.notes_dead

states_lists : (question : Question) (done more : ℕ) (old new : Search) (standings : List Standing) → HasMoreLists old new → AreStates question done more old standings → AreStates question done more new standings
states_lists question done more old new standings same states = record {
  kept = subst (λ (s : Steps). AreKept question s) (sym same.steps) states.kept;
  notes = same.notes ∙ states.notes;
  course = same.course ∙ states.course ∙ sym same.notes;
  width = ap (λ (t : Rows). t.width) same.states ∙ states.width;
  count = ap (λ (t : Rows). length t.rows) same.states ∙ states.count;
  origins = ap length same.origins ∙ states.origins;
  most = subst (λ k. length standings ≤ k) (sym same.most) states.most;
  rows = λ number row standing row_is there.
      subst (λ n. IsRowOf (tables_of new.steps) new.used question n row standing) (sym same.notes)
      (subst (λ (s : Steps). IsRowOf (tables_of s) new.used question old.notes_dead row standing) (sym same.steps)
      (row_grows question (tables_of old.steps) (tables_of old.steps) old.notes_dead (grow_itself (tables_of old.steps)) old.used new.used row standing same.used
      (states.rows number row standing (sym (ap (λ (t : Rows). slice_get t.rows number) same.states) ∙ row_is) there)));
  within = λ number standing there. subst (λ (l : List Origin). IsWithin question l done more number standing) (sym same.origins) (states.within number standing there);
  begin = states.begin;
  from = λ number origin standing later origin_is there.
      subst (λ (s : Steps). ComesFrom (tables_of s) question standings number origin standing) (sym same.steps)
      (states.from number origin standing later (sym (ap (λ (l : List Origin). slice_get l number) same.origins) ∙ origin_is) there);
}

pub grown_lists : (old new : Search) → HasMoreLists old new → HasGrown old new
grown_lists old new same = record {
  tables = subst (λ (s : Steps). Grow (tables_of old.steps) (tables_of s)) (sym same.steps) (grow_itself (tables_of old.steps));
  used = same.used;
  origins = λ number value is. ap (λ (l : List Origin). slice_get l number) same.origins ∙ is;
  notes = same.notes;
  most = same.most;
}

pub grown_added : (question : Question) (old new : Search) (row : List ℕ) (origin : Origin) → IsAdded question old new row origin → HasGrown old new
grown_added question old new row origin added = record {
  tables = subst (λ (s : Steps). Grow (tables_of old.steps) (tables_of s)) (sym added.steps) (grow_itself (tables_of old.steps));
  used = added.used;
  origins = λ number value is. ap (λ (l : List Origin). slice_get l number) added.origins ∙ numbers_stay old.origins.items (origin ∷ []) number value is;
  notes = added.notes;
  most = added.most;
}

-- ---- the state in which the course stands

module _ (question : Question) (put : IsPut question) (done more : ℕ) (old : Search) (used : ℕ) (origin : Origin) (by : Standing) (standings : List Standing)
    (out : IsOut question done more old used origin by standings) where
  -- it is as wide as each
  pub row_width : (number x : ℕ) (row : List ℕ) → row ≡ number ∷ x ∷ old.course.cells.items → length row ≡ old.states.width
  row_width number x row is =
      let count : length row ≡ suc (suc (length old.course.cells.items)) = ap length is in
      let cells : length old.course.cells.items ≡ length (world_after by.world (act_done by.world out.may.act out.may.message)).nodes = out.is.noted.cells_are.count in
      let nodes : length (world_after by.world (act_done by.world out.may.act out.may.message)).nodes ≡ question.sizes.nodes =
      reached_count question (room question more) (world_after by.world (act_done by.world out.may.act out.may.message)) out.is.reached in
      let width : old.states.width ≡ question.sizes.nodes + 2 = out.states.width in
      omega (arith, count, cells, nodes, width)

  module _ (lists : List (List ℕ)) (lists_grow : AreNumbered old.used lists) (number : ℕ) (acts_more : IsMore lists out.may.act origin.doing.act number out.acts) (row : List ℕ)
      (row_are : row ≡ number ∷ (old.course.met * 2 + (if old.course.dead then 1 else 0)) ∷ old.course.cells.items) where
    abbrev come : Standing
    come = record {
      world = world_after by.world (act_done by.world out.may.act out.may.message);
      used = λ place. times place acts_more.0;
      left = left_after question old.course.met;
    }

    notes_are : list_any goes_on question.acts ≡ old.notes_dead
    notes_are = sym out.states.notes

    stand : StandFor (tables_of old.steps) question old.notes_dead old.course.cells.items old.course.dead old.course.met acts_more.0 come
    stand = record {
      noted = subst (λ notes. AreNoted (tables_of old.steps) notes old.course.cells.items old.course.dead come.world) out.states.course out.is.noted;
      within = out.is.within;
      left = refl;
      used = λ place. refl;
    }

    row_of : IsRowOf (tables_of old.steps) lists question old.notes_dead row come
    row_of = record {
      used = number;
      acts = acts_more.0;
      met = old.course.met;
      dead = old.course.dead;
      cells = old.course.cells.items;
      row_is = row_are;
      acts_are = acts_more.1;
      stand = stand;
    }

    chain : (m a u c v n : ℕ) → m ≡ a + c → u ≡ a → u + c ≤ v → n ≡ v → m ≤ n
    chain m a u c v n more_is used_is within new_is = omega (arith, more_is, used_is, within, new_is)

    -- whatever stands where the course does is covered by it
    covers_new : (new : Standing) → Lands (tables_of old.steps) question old.course by origin.doing.act new → IsCovered question new come
    covers_new new lands =
        stands_cover_less question (tables_of old.steps) old.notes_dead old.course.cells.items old.course.dead old.course.met acts_more.0 new come notes_are
        (subst (λ notes. AreNoted (tables_of old.steps) notes old.course.cells.items old.course.dead new.world) out.states.course lands.noted) lands.left
        (λ place. chain (times place acts_more.0) (times place out.acts) (by.used place) (counts out.may.act origin.doing.act place) (used_more by.used origin.doing.act place) (new.used place)
        (acts_more.2 place) (out.counted place) (counts_within out.may.act origin.doing.act place by.used) (ap (λ (u : ℕ → ℕ). u place) lands.used)) stand

    -- where its row is one of the table already
    pub known : (mid : Search) → HasMoreLists old mid → (at : ℕ) → slice_get old.states.rows at ≡ Some row
        → Grown question (suc done) more mid standings (Lands (tables_of old.steps) question old.course by origin.doing.act)
    known mid same at there = record {
      standings = standings;
      states = states_lists question (suc done) more old mid standings same out.states;
      extends = extends_itself standings;
      covers = λ new lands. (had.0, get_in standings at had.0 had.1, covered_on question new come had.0 (covers_new new lands) covers_old);
    }
      where
        had : (s : Standing) × (slice_get standings at ≡ Some s)
        had = there_too old.states.rows standings at row (sym out.states.count) there

        covers_old : IsCovered question come had.0
        covers_old = rows_cover question (tables_of old.steps) old.notes_dead lists row come had.0 row_of
            (row_grows question (tables_of old.steps) (tables_of old.steps) old.notes_dead (grow_itself (tables_of old.steps)) old.used lists row had.0 lists_grow
            (out.states.rows at row had.0 there had.1)) notes_are

    act_in : In out.may.act question.acts
    act_in = get_in question.acts origin.doing.act out.may.act out.may.there

    enough : suc (length out.may.act.commands) ≤ room question (suc more)
    enough = let most : suc (length out.may.act.commands) ≤ most_lines question.acts = has_most question.acts out.may.act act_in in omega (arith, most)

    exactly : (place limit : ℕ) (other : Act) → slice_get question.acts place ≡ Some other → other.limit ≡ Some limit → times place acts_more.0 ≡ used_more by.used origin.doing.act place
    exactly place limit other there is =
        acts_more.2 place ∙ ap (λ k. k + counts out.may.act origin.doing.act place) (sym (out.counted place))
        ∙ counts_exactly out.may.act origin.doing.act place by.used limited
      where
        limited : origin.doing.act ≡ place → is_some out.may.act.limit ≡ true
        limited same =
            let act_is : out.may.act ≡ other = same_Some out.may.act other (sym out.may.there ∙ ap (slice_get question.acts) same ∙ there) in
            ap (λ (a : Act). is_some a.limit) act_is ∙ ap (λ (o : Option ℕ). is_some o) is

    led : IsLed (tables_of old.steps) question by origin.doing come
    led = led_by question (tables_of old.steps) by origin.doing out.may (room question (suc more)) (room question more) out.within.goes_on enough (tables_of old.steps) old.course
        out.may.begins out.is (λ place. times place acts_more.0) exactly
        (reached_less question (room question (suc more)) (suc (length out.may.act.commands)) by.world enough out.within.goes_on.reached)

    comes : ComesFrom (tables_of old.steps) question standings (length standings) origin come
    comes = record {
      older = slice_get_within standings origin.from by out.there;
      from = by;
      there = out.there;
      led = led;
    }

    goes_from : MayGoOn (room question more) question come
    goes_from = record {
      fit = fit_left (room question more) question come old.course.met put.lawful out.is.reached refl out.is.seen;
      reached = out.is.reached;
      unmet = λ none. out.unmet (none_left old.course.met question.wants out.is.within none);
    }

    -- where it is added
    pub added_more : (last : Search) → IsAdded question old last row origin → last.used ≡ lists → length standings < old.most
        → Grown question (suc done) more last standings (Lands (tables_of old.steps) question old.course by origin.doing.act)
    added_more last added used_is room_left = record {
      standings = standings ++ come ∷ [];
      states = states_more question done more old last row origin standings come added out.states room_left
          (subst (λ (l : List (List ℕ)). IsRowOf (tables_of old.steps) l question old.notes_dead row come) (sym used_is) row_of)
          comes out.within.acts out.within.few out.within.after goes_from;
      extends = (come ∷ [], refl);
      covers = λ new lands. (come, in_last standings come, covers_new new lands);
    }
