-- The states of a search, as its tables grow and more is come to.
use Rattle.std.proofs.Common.{◌≡◌, ◌∙◌, ◌⊎◌, ◌≤◌, ◌<◌, ◌+◌, inl, inr, ap, sym, subst, refl, arith, ℕ, zero, suc, Option, Some, List, [], ◌∷◌, ◌++◌, length, length-append, slice_get}
use Rattle.set_model.specs.World.{World}
use Rattle.explore_words.specs.declared.question.Question.{Question}
use Rattle.question_laws.specs.Following.{Standing, start}
use Rattle.explore_tables.specs.Rows.{Rows}
use Rattle.explore_tables.proofs.Tables.{get_added}
use Rattle.explore_steps.specs.declared.doing.Doing.{Doing as Tried}
use Rattle.explore_steps.specs.declared.doing.First.{First}
use Rattle.explore_steps.specs.declared.steps.Steps.{Steps}
use Rattle.explore_steps.specs.declared.doing.First.TheVariants.{Nothing, Live, Dead}
use Rattle.explore_steps.specs.Courses.{BeginsWith}
use Rattle.explore_steps.specs.Keeping.{AreKept, IsGrown}
use Rattle.explore_steps.specs.Tables.{AreNumbered, Grow, Tables, tables_of}
use Rattle.explore_steps.proofs.Growth.{grow_itself, grow_on}
use Rattle.explore_steps.proofs.Reach.{reached_less}
use Rattle.explorer.specs.declared.search.Origin.{Origin}
use Rattle.explorer.specs.declared.search.Search.{Search}
use Rattle.explorer.specs.Standings.{IsLed, IsRowOf, MayGoOn}
use Rattle.explorer.specs.States.{AreStates, ComesFrom, Extends, Grown, HasGrown, IsAfter, IsWithin, SameStates, room}
use Rattle.explorer.proofs.StandingLemmas.{row_grows}

-- ---- numbers keep their meaning

pub after_grows : (old new : List Origin) → AreNumbered old new → (acts number : ℕ) → IsAfter old acts number → IsAfter new acts number
after_grows old new grow zero number is = is
after_grows old new grow (suc acts) number is = (is.0, grow number is.0 is.1, is.2, after_grows old new grow acts is.0.from is.3)

pub begins_grows : (old new : Tables) → Grow old new → (first : First) (world : World) (message : Option ℕ) → BeginsWith old first world message → BeginsWith new first world message
begins_grows old new grow Nothing world message is = is
begins_grows old new grow (Live number) world message is = (is.0, is.1, is.2, is.3, grow.messages number is.1 is.4)
begins_grows old new grow Dead world message is = is

pub led_grows : (old new : Tables) → Grow old new → (question : Question) (from : Standing) (doing : Tried) (to : Standing) → IsLed old question from doing to → IsLed new question from doing to
led_grows old new grow question from doing to led = record {
  act = led.act;
  message = led.message;
  begins = begins_grows old new grow doing.first from.world led.message led.begins;
  may = led.may;
  fit = led.fit;
  room = led.room;
  world = led.world;
  used = led.used;
  left = led.left;
}

pub from_grows : (old new : Tables) → Grow old new → (question : Question) (standings : List Standing) (number : ℕ) (origin : Origin) (standing : Standing)
    → ComesFrom old question standings number origin standing → ComesFrom new question standings number origin standing
from_grows old new grow question standings number origin standing comes = record {
  older = comes.older;
  from = comes.from;
  there = comes.there;
  led = led_grows old new grow question comes.from origin.doing standing comes.led;
}

pub grown_itself : (search : Search) → HasGrown search search
grown_itself search = record {
  tables = record {
    nodes = λ number value is. is;
    messages = λ number value is. is;
    lists = λ number value is. is;
    cells = λ number value is. is;
    deeds = λ number value is. is;
    steps = λ number value is. is;
  };
  used = λ number value is. is;
  origins = λ number value is. is;
  notes = refl;
  most = refl;
}

pub grown_on : (one two three : Search) → HasGrown one two → HasGrown two three → HasGrown one three
grown_on one two three first second = record {
  tables = grow_on (tables_of one.steps) (tables_of two.steps) (tables_of three.steps) first.tables second.tables;
  used = λ number value is. second.used number value (first.used number value is);
  origins = λ number value is. second.origins number value (first.origins number value is);
  notes = second.notes ∙ first.notes;
  most = second.most ∙ first.most;
}

-- ---- only the steps and the course are others

pub states_grow : (question : Question) (done more : ℕ) (old new : Search) (standings : List Standing) → SameStates old new → new.course.notes_dead ≡ new.notes_dead
    → IsGrown question old.steps new.steps → AreStates question done more old standings → AreStates question done more new standings
states_grow question done more old new standings same course grown states = record {
  kept = grown.kept;
  notes = same.notes ∙ states.notes;
  course = course;
  width = ap (λ (t : Rows). t.width) same.states ∙ states.width;
  count = ap (λ (t : Rows). length t.rows) same.states ∙ states.count;
  origins = ap length same.origins ∙ states.origins;
  most = subst (λ k. length standings ≤ k) (sym same.most) states.most;
  rows = λ number row standing row_is there.
      subst (λ n. IsRowOf (tables_of new.steps) new.used question n row standing) (sym same.notes)
      (row_grows question (tables_of old.steps) (tables_of new.steps) old.notes_dead grown.tables old.used new.used row standing
      (λ place value is. ap (λ (l : List (List ℕ)). slice_get l place) same.used ∙ is)
      (states.rows number row standing (sym (ap (λ (t : Rows). slice_get t.rows number) same.states) ∙ row_is) there));
  within = λ number standing there. subst (λ (l : List Origin). IsWithin question l done more number standing) (sym same.origins) (states.within number standing there);
  begin = states.begin;
  from = λ number origin standing later origin_is there.
      from_grows (tables_of old.steps) (tables_of new.steps) grown.tables question standings number origin standing
      (states.from number origin standing later (sym (ap (λ (l : List Origin). slice_get l number) same.origins) ∙ origin_is) there);
}

-- ---- one act later

less_room : (question : Question) (more : ℕ) → room question more ≤ room question (suc more)
less_room question more = omega arith

within_later : (question : Question) (origins : List Origin) (done more number : ℕ) (standing : Standing) → IsWithin question origins done (suc more) number standing
    → IsWithin question origins (suc done) more number standing
within_later question origins done more number standing is = record {
  acts = is.acts;
  few = let few : is.acts ≤ done = is.few in omega (arith, few);
  after = is.after;
  goes_on = record {
    fit = is.goes_on.fit;
    reached = reached_less question (room question (suc more)) (room question more) standing.world (less_room question more) is.goes_on.reached;
    unmet = is.goes_on.unmet;
  };
}

pub states_later : (question : Question) (done more : ℕ) (search : Search) (standings : List Standing) → AreStates question done (suc more) search standings → AreStates question (suc done) more search standings
states_later question done more search standings states = record {
  kept = states.kept;
  notes = states.notes;
  course = states.course;
  width = states.width;
  count = states.count;
  origins = states.origins;
  most = states.most;
  rows = states.rows;
  within = λ number standing there. within_later question search.origins.items done more number standing (states.within number standing there);
  begin = states.begin;
  from = states.from;
}

-- ---- one state more

pub get_last : {A : Type 0} (xs : List A) (x : A) (place : ℕ) (y : A) → slice_get (xs ++ x ∷ []) place ≡ Some y → (slice_get xs place ≡ Some y) ⊎ ((place ≡ length xs) × (y ≡ x))
get_last [] x zero y is = inr (refl, cc is)
get_last [] x (suc place) y is = absurd (cc is)
get_last (z ∷ xs) x zero y is = inl is
get_last (z ∷ xs) x (suc place) y is = elim (get_last xs x place y is) [
  | inl before ↦ inl before
  | inr last ↦ inr (ap suc last.0, last.1)
]

-- numbers stay as more is added
pub numbers_stay : {A : Type 0} (xs ys : List A) → AreNumbered xs (xs ++ ys)
numbers_stay [] ys number value is = absurd (cc is)
numbers_stay (x ∷ xs) ys zero value is = is
numbers_stay (x ∷ xs) ys (suc number) value is = numbers_stay xs ys number value is

past_none : {A : Type 0} (xs : List A) (y : A) → slice_get xs (length xs) ≡ Some y → ⊥
past_none [] y is = cc is
past_none (x ∷ xs) y is = past_none xs y is

-- ---- what is covered

pub extends_itself : (standings : List Standing) → Extends standings standings
extends_itself standings = ([], sym (append_none standings))
  where
    append_none : (xs : List Standing) → xs ++ [] ≡ xs
    append_none [] = refl
    append_none (x ∷ xs) = ap (λ (l : List Standing). x ∷ l) (append_none xs)

-- the same, for less
pub grown_less : (question : Question) (done more : ℕ) (search : Search) (old : List Standing) (By Less : Standing → Type 0) → ((new : Standing) → Less new → By new)
    → Grown question done more search old By → Grown question done more search old Less
grown_less question done more search old By Less less grown = record {
  standings = grown.standings;
  states = grown.states;
  extends = grown.extends;
  covers = λ new is. grown.covers new (less new is);
}

-- a state is added, and its origin
pub record IsAdded (question : Question) (old new : Search) (row : List ℕ) (origin : Origin) : Type 0 where
  pub steps : new.steps ≡ old.steps
  pub used : AreNumbered old.used new.used
  pub states : new.states ≡ record { width = old.states.width; rows = old.states.rows ++ row ∷ [] }
  pub origins : new.origins.items ≡ old.origins.items ++ origin ∷ []
  pub most : new.most ≡ old.most
  pub notes : new.notes_dead ≡ old.notes_dead
  pub course : new.course.notes_dead ≡ old.course.notes_dead

module _ (question : Question) (done more : ℕ) (old new : Search) (row : List ℕ) (origin : Origin) (standings : List Standing) (last : Standing)
    (added : IsAdded question old new row origin) (states : AreStates question (suc done) more old standings)
    (room_left : length standings < old.most) (row_is : IsRowOf (tables_of old.steps) new.used question old.notes_dead row last)
    (comes : ComesFrom (tables_of old.steps) question standings (length standings) origin last)
    (acts : ℕ) (few : acts ≤ done) (after : IsAfter old.origins.items acts origin.from) (goes_on : MayGoOn (room question more) question last) where
  more_origins : AreNumbered old.origins.items new.origins.items
  more_origins number value is = ap (λ (l : List Origin). slice_get l number) added.origins ∙ numbers_stay old.origins.items (origin ∷ []) number value is

  one_more : {A : Type 0} (xs : List A) (x : A) → length (xs ++ x ∷ []) ≡ length xs + 1
  one_more xs x = length-append xs (x ∷ [])

  last_after : IsAfter new.origins.items (suc acts) (length standings)
  last_after = (
    origin,
    ap (λ (l : List Origin). slice_get l (length standings)) added.origins
        ∙ ap (slice_get (old.origins.items ++ origin ∷ [])) (sym states.origins) ∙ get_added old.origins.items origin,
    later,
    after_grows old.origins.items new.origins.items more_origins acts origin.from after,
  )
    where
      later : 0 < length standings
      later = let older : origin.from < length standings = comes.older in omega (arith, older)

  rows_more : (number : ℕ) (a : List ℕ) (standing : Standing) → slice_get new.states.rows number ≡ Some a → slice_get (standings ++ last ∷ []) number ≡ Some standing
      → IsRowOf (tables_of new.steps) new.used question new.notes_dead a standing
  rows_more number a standing row_there there =
      subst (λ n. IsRowOf (tables_of new.steps) new.used question n a standing) (sym added.notes)
      (subst (λ (s : Steps). IsRowOf (tables_of s) new.used question old.notes_dead a standing) (sym added.steps)
      (by (get_last old.states.rows row number a (sym (ap (λ (t : Rows). slice_get t.rows number) added.states) ∙ row_there)) (get_last standings last number standing there)))
    where
      by : (slice_get old.states.rows number ≡ Some a) ⊎ ((number ≡ length old.states.rows) × (a ≡ row)) → (slice_get standings number ≡ Some standing) ⊎ ((number ≡ length standings) × (standing ≡ last))
          → IsRowOf (tables_of old.steps) new.used question old.notes_dead a standing
      by (inl row_old) (inl old_one) =
          row_grows question (tables_of old.steps) (tables_of old.steps) old.notes_dead (grow_itself (tables_of old.steps)) old.used new.used a standing added.used (states.rows number a standing row_old old_one)
      by (inr row_last) (inr last_one) =
          subst (λ (r : List ℕ). IsRowOf (tables_of old.steps) new.used question old.notes_dead r standing) (sym row_last.1)
          (subst (λ (s : Standing). IsRowOf (tables_of old.steps) new.used question old.notes_dead row s) (sym last_one.1) row_is)
      by (inl row_old) (inr last_one) =
          absurd (past_none old.states.rows a (ap (slice_get old.states.rows) (states.count ∙ sym last_one.0) ∙ row_old))
      by (inr row_last) (inl old_one) =
          absurd (past_none standings standing (ap (slice_get standings) (sym states.count ∙ sym row_last.0) ∙ old_one))

  within_more : (number : ℕ) (standing : Standing) → slice_get (standings ++ last ∷ []) number ≡ Some standing → IsWithin question new.origins.items (suc done) more number standing
  within_more number standing there = elim (get_last standings last number standing there) [
    | inl before ↦
        let is : IsWithin question old.origins.items (suc done) more number standing = states.within number standing before in
        record {
          acts = is.acts;
          few = is.few;
          after = after_grows old.origins.items new.origins.items more_origins is.acts number is.after;
          goes_on = is.goes_on;
        }
    | inr newest ↦ newest_within newest.0 newest.1
  ]
    where
      newest_within : number ≡ length standings → standing ≡ last → IsWithin question new.origins.items (suc done) more number standing
      newest_within place same = record {
        acts = suc acts;
        few = omega (arith, few);
        after = subst (λ n. IsAfter new.origins.items (suc acts) n) (sym place) last_after;
        goes_on = subst (λ (s : Standing). MayGoOn (room question more) question s) (sym same) goes_on;
      }

  from_more : (number : ℕ) (a : Origin) (standing : Standing) → 0 < number → slice_get new.origins.items number ≡ Some a → slice_get (standings ++ last ∷ []) number ≡ Some standing
      → ComesFrom (tables_of new.steps) question (standings ++ last ∷ []) number a standing
  from_more number a standing later origin_there there =
      subst (λ (s : Steps). ComesFrom (tables_of s) question (standings ++ last ∷ []) number a standing) (sym added.steps)
      (wider (by (get_last old.origins.items origin number a (sym (ap (λ (l : List Origin). slice_get l number) added.origins) ∙ origin_there)) (get_last standings last number standing there)))
    where
      wider : ComesFrom (tables_of old.steps) question standings number a standing → ComesFrom (tables_of old.steps) question (standings ++ last ∷ []) number a standing
      wider is = record { older = is.older; from = is.from; there = numbers_stay standings (last ∷ []) a.from is.from is.there; led = is.led }

      by : (slice_get old.origins.items number ≡ Some a) ⊎ ((number ≡ length old.origins.items) × (a ≡ origin)) → (slice_get standings number ≡ Some standing) ⊎ ((number ≡ length standings) × (standing ≡ last))
          → ComesFrom (tables_of old.steps) question standings number a standing
      by (inl origin_old) (inl old_one) = states.from number a standing later origin_old old_one
      by (inr origin_last) (inr last_one) =
          subst (λ n. ComesFrom (tables_of old.steps) question standings n a standing) (sym last_one.0)
          (subst (λ (o : Origin). ComesFrom (tables_of old.steps) question standings (length standings) o standing) (sym origin_last.1)
          (subst (λ (s : Standing). ComesFrom (tables_of old.steps) question standings (length standings) origin s) (sym last_one.1) comes))
      by (inl origin_old) (inr last_one) =
          absurd (past_none old.origins.items a (ap (slice_get old.origins.items) (states.origins ∙ sym last_one.0) ∙ origin_old))
      by (inr origin_last) (inl old_one) =
          absurd (past_none standings standing (ap (slice_get standings) (sym states.origins ∙ sym origin_last.0) ∙ old_one))

  pub states_more : AreStates question (suc done) more new (standings ++ last ∷ [])
  states_more = record {
    kept = subst (λ (s : Steps). AreKept question s) (sym added.steps) states.kept;
    notes = added.notes ∙ states.notes;
    course = added.course ∙ states.course ∙ sym added.notes;
    width = ap (λ (t : Rows). t.width) added.states ∙ states.width;
    count = ap (λ (t : Rows). length t.rows) added.states ∙ one_more old.states.rows row ∙ ap (λ n. n + 1) states.count ∙ sym (one_more standings last);
    origins = ap length added.origins ∙ one_more old.origins.items origin ∙ ap (λ n. n + 1) states.origins ∙ sym (one_more standings last);
    most = subst (λ k. length (standings ++ last ∷ []) ≤ k) (sym added.most) (omega (arith, one_more standings last, room_left));
    rows = rows_more;
    within = within_more;
    begin = numbers_stay standings (last ∷ []) 0 (start question) states.begin;
    from = from_more;
  }
