-- What acts lead to from a state: one in each way that it may begin, and one act after another.
use Rattle.std.proofs.Common.{◌≡◌, ◌∙◌, ◌⊎◌, ◌≤◌, ◌<◌, ◌+◌, inl, inr, ap, sym, subst, refl, arith, add-one, ℕ, zero, suc, Bool, true, false, Option, None, Some, List, [], ◌∷◌, get_or, length, slice_get, take}
use Rattle.std.proofs.lemmas.Bool.{cases_lt}
use Rattle.std.proofs.lemmas.Option.{same_Some, slice_get-get_or, slice_get_cases, slice_get_within}
use Rattle.std.specs.Prelude.{IfSome, is_some}
use Rattle.commit_machine.proofs.Growth.{any_is}
use Rattle.repl_msg.specs.declared.message.Message.{Message}
use Rattle.rs_optime.specs.Membership.{In}
use Rattle.safety_laws.proofs.Places.{get_in}
use Rattle.set_model.specs.Node.{Node}
use Rattle.set_model.specs.World.{World}
use Rattle.explore_laws.specs.Dead.{has_dead, is_dead_in}
use Rattle.explore_laws.specs.Laws.{DeadMessagesChangeNothing}
use Rattle.explore_words.specs.declared.question.Act.{Act}
use Rattle.explore_words.specs.declared.question.Question.{Question}
use Rattle.question_laws.specs.Covered.{goes_on}
use Rattle.question_laws.specs.Following.{LeadsTo, Standing}
use Rattle.question_laws.proofs.Acts.{place_of}
use Rattle.explore_tables.specs.Numbers.{times}
use Rattle.explore_steps.specs.declared.doing.First.{First}
use Rattle.explore_steps.specs.declared.doing.First.TheVariants.{Nothing, Live, Dead}
use Rattle.explore_steps.specs.Courses.{BeginsWith}
use Rattle.explore_steps.specs.Tables.{AreNoted, AreNumbered, AreOf, Grow, IsCell, StandsFor, Tables, tables_of}
use Rattle.explore_steps.proofs.Cells.{one_list}
use Rattle.explore_steps.proofs.Growth.{cell_grows}
use Rattle.explorer.specs.declared.search.Here.{Here}
use Rattle.explorer.specs.declared.search.Origin.{Origin}
use Rattle.explorer.specs.declared.search.Search.{Search}
use Rattle.explorer.specs.Levels.{IsCoveredIn}
use Rattle.explorer.specs.Standings.{LeadsBy, StandFor}
use Rattle.explorer.specs.States.{AreListed, AreStates, Extends, GoesFrom, Grown, HasGrown, IsHere, IsListed, IsNext, IsWithin, LeadsByAct, LeadsByActs, LeadsByOne, MayTry}
use Rattle.explorer.proofs.Beginnings.{Begins, begins, with_dead, with_live, with_none, with_nothing}
use Rattle.explorer.proofs.StandingLemmas.{stand_grows}
use Rattle.explorer.proofs.StateLemmas.{after_grows, begins_grows, extends_itself, grown_less, numbers_stay, states_later}
use Rattle.explorer.proofs.TryLemmas.{grown_then}

-- ---- lists

in_take_more : {A : Type 0} (xs : List A) (k : ℕ) (x y : A) → slice_get xs k ≡ Some y → In x (take (suc k) xs) → In x (take k xs) ⊎ (y ≡ x)
in_take_more [] k x y is there = absurd (cc is)
in_take_more (z ∷ xs) zero x y is (inl same) = inr (same_Some y x (sym is ∙ ap Some same))
in_take_more (z ∷ xs) zero x y is (inr there) = absurd there
in_take_more (z ∷ xs) (suc k) x y is (inl same) = inl (inl same)
in_take_more (z ∷ xs) (suc k) x y is (inr there) = elim (in_take_more xs k x y is there) [
  | inl before ↦ inl (inr before)
  | inr same ↦ inr same
]

-- ---- a state that is gone on from, as more is come to

one_listed : (old new : Tables) → Grow old new → (cells : List ℕ) (dead : Bool) (first : First) → IsListed old cells dead first → IsListed new cells dead first
one_listed old new grow cells dead Nothing is = is
one_listed old new grow cells dead (Live number) is =
    (is.0, is.1, is.2, is.3, is.4, is.5, cell_grows old new grow is.1 is.2 is.3 is.6, is.7, grow.messages number is.4 is.8)
one_listed old new grow cells dead Dead is = is

listed_grows : (old new : Tables) → Grow old new → (cells : List ℕ) (dead : Bool) (firsts : List First) (world : World) → AreOf old cells world → AreListed old cells dead firsts → AreListed new cells dead firsts
listed_grows old new grow cells dead firsts world of are = record {
  listed = λ first there. one_listed old new grow cells dead first (are.listed first there);
  live = live_too;
  noted = are.noted;
}
  where
    live_too : (place cell : ℕ) (node : Node) (messages : List Message) (sent : Message) → slice_get cells place ≡ Some cell → IsCell new cell node messages → In sent messages
        → (number : ℕ) × In (Live number) firsts × (slice_get new.messages number ≡ Some sent)
    live_too place cell node messages sent there is_cell in_it =
        let stands : StandsFor old cell world place = of.each place cell there in
        let same : stands.messages ≡ messages =
        one_list new cell stands.node node stands.messages messages (cell_grows old new grow cell stands.node stands.messages stands.is_cell) is_cell in
        let found : (number : ℕ) × In (Live number) firsts × (slice_get old.messages number ≡ Some sent) =
        are.live place cell stands.node stands.messages sent there stands.is_cell (subst (λ (l : List Message). In sent l) (sym same) in_it) in
        (found.0, found.1, grow.messages found.0 sent found.2)

here_grows : (question : Question) (old new : Search) (here : Here) (by : Standing) → HasGrown old new → IsHere question old here by → IsHere question new here by
here_grows question old new here by grown is = record {
  acts = is.acts;
  acts_are = grown.used here.used is.acts is.acts_are;
  notes = is.notes ∙ sym grown.notes;
  stand = subst (λ n. StandFor (tables_of new.steps) question n here.course.cells.items here.course.dead here.course.met is.acts by) (sym grown.notes)
      (stand_grows question (tables_of old.steps) (tables_of new.steps) old.notes_dead grown.tables here.course.cells.items here.course.dead here.course.met is.acts by is.stand);
  firsts = listed_grows (tables_of old.steps) (tables_of new.steps) grown.tables here.course.cells.items here.course.dead here.firsts.items by.world is.stand.noted.cells_are is.firsts;
}

pub within_grows : (question : Question) (old new : List Origin) (done more number : ℕ) (by : Standing) → AreNumbered old new → IsWithin question old done more number by → IsWithin question new done more number by
within_grows question old new done more number by grow is = record {
  acts = is.acts;
  few = is.few;
  after = after_grows old new grow is.acts number is.after;
  goes_on = is.goes_on;
}

pub there_still : (old new : List Standing) → Extends old new → (number : ℕ) (by : Standing) → slice_get old number ≡ Some by → slice_get new number ≡ Some by
there_still old new extends number by there =
    subst (λ (l : List Standing). slice_get l number ≡ Some by) (sym extends.1) (numbers_stay old extends.0 number by there)

pub still_from : (question : Question) (done more : ℕ) (old new : Search) (here : Here) (by : Standing) (standings : List Standing) (By : Standing → Type 0) → GoesFrom question done more old here by standings
    → HasGrown old new → (grown : Grown question (suc done) more new standings By) → GoesFrom question done more new here by grown.standings
still_from question done more old new here by standings By from has grown = record {
  states = grown.states;
  there = there_still standings grown.standings grown.extends here.number by from.there;
  is = here_grows question old new here by has from.is;
  within = within_grows question old.origins.items new.origins.items done (suc more) here.number by has.origins from.within;
}

-- ---- an act

module _ (question : Question) (done more : ℕ) (search : Search) (here : Here) (by : Standing) (standings : List Standing) (from : GoesFrom question done more search here by standings)
    (place : ℕ) (act : Act) (there : slice_get question.acts place ≡ Some act) where
  abbrev MayStill : Type 0
  MayStill = IfSome act.limit (λ limit. times place from.is.acts < limit)

  act_is : (new : Standing) (leads : LeadsTo question by new) → leads.doing.act ≡ place → leads.act ≡ act
  act_is new leads same = same_Some leads.act act (sym leads.may.there ∙ ap (slice_get question.acts) same ∙ there)

  -- its limit is reached
  pub stopped : (MayStill → ⊥) → Grown question (suc done) more search standings (LeadsByAct question by place)
  stopped no_more = record {
    standings = standings;
    states = from.states;
    extends = extends_itself standings;
    covers = λ new leads. absurd (no_more (may new leads.0 leads.1));
  }
    where
      may : (new : Standing) (leads : LeadsTo question by new) → leads.doing.act ≡ place → MayStill
      may new leads same =
          subst (λ (a : Act). IfSome a.limit (λ limit. times place from.is.acts < limit)) (act_is new leads same)
          (subst (λ n. IfSome leads.act.limit (λ limit. n < limit)) (ap by.used same ∙ from.is.stand.used place) leads.may.limit)

  pub limit_of : MayStill → IfSome act.limit (λ limit. by.used place < limit)
  limit_of may = subst (λ n. IfSome act.limit (λ limit. n < limit)) (sym (from.is.stand.used place)) may

  -- it begins with no message
  pub may_alone : act.any_message ≡ false → IfSome act.limit (λ limit. by.used place < limit) → MayTry question (tables_of search.steps) by (record { act = place; first = Nothing })
  may_alone none may = record {
    act = act;
    message = None;
    there = there;
    begins = refl;
    any = sym none;
    limit = may;
  }

  pub alone : act.any_message ≡ false → (new : Standing) → LeadsByAct question by place new → LeadsBy (tables_of search.steps) question by (record { act = place; first = Nothing }) new
  alone none new leads = (
    leads.0,
    leads.1,
    none_is leads.0.doing.message (leads.0.may.begins ∙ ap (λ (a : Act). a.any_message) (act_is new leads.0 leads.1) ∙ none),
  )
    where
      none_is : (message : Option ℕ) → is_some message ≡ false → message ≡ None
      none_is None is = refl
      none_is (Some place) is = absurd (cc is)

  -- it begins with any message
  noted : AreNoted (tables_of search.steps) search.notes_dead here.course.cells.items here.course.dead by.world
  noted = from.is.stand.noted

  dead_there : (notes : Bool) → search.notes_dead ≡ notes → here.course.dead ≡ true → has_dead by.world ≡ true
  dead_there true is dead = sym (noted.noted is) ∙ dead
  dead_there false is dead = absurd (cc (noted.unnoted is, dead))

  first_begins : (first : First) → IsListed (tables_of search.steps) here.course.cells.items here.course.dead first
      → (message : Option ℕ) × BeginsWith (tables_of search.steps) first by.world message × (is_some message ≡ true)
  first_begins Nothing is = absurd is
  first_begins (Live number) is =
      let stands : StandsFor (tables_of search.steps) is.1 by.world is.0 = noted.cells_are.each is.0 is.1 is.5 in
      let same : stands.messages ≡ is.3 = one_list (tables_of search.steps) is.1 stands.node is.2 stands.messages is.3 stands.is_cell is.6 in
      let at : (n : ℕ) × (slice_get by.world.messages n ≡ Some is.4) =
      place_of is.4 by.world.messages (stands.sent is.4 (subst (λ (l : List Message). In is.4 l) (sym same) is.7)).0 in
      (Some at.0, (at.0, is.4, refl, at.1, is.8), refl)
  first_begins Dead is =
      let found : (m : Message) × In m by.world.messages × (is_dead_in by.world m ≡ true) = any_is (is_dead_in by.world) by.world.messages (dead_there search.notes_dead refl is) in
      let at : (n : ℕ) × (slice_get by.world.messages n ≡ Some found.0) = place_of found.0 by.world.messages found.1 in
      (Some at.0, (at.0, found.0, refl, at.1, found.2), refl)

  pub may_first : act.any_message ≡ true → IfSome act.limit (λ limit. by.used place < limit) → (first : First) → In first here.firsts.items → MayTry question (tables_of search.steps) by (record { act = place; first = first })
  may_first any may first listed =
      let begun : (message : Option ℕ) × BeginsWith (tables_of search.steps) first by.world message × (is_some message ≡ true) = first_begins first (from.is.firsts.listed first listed) in
      record {
        act = act;
        message = begun.0;
        there = there;
        begins = begun.1;
        any = begun.2 ∙ sym any;
        limit = may;
      }

  -- each way that it may begin was tried
  pub whole : DeadMessagesChangeNothing → act.any_message ≡ true → (new : Search) → Grown question (suc done) more new standings (LeadsByOne (tables_of search.steps) question by place here.firsts.items)
      → Grown question (suc done) more new standings (LeadsByAct question by place)
  whole nothing_changes any new grown = record {
    standings = grown.standings;
    states = grown.states;
    extends = grown.extends;
    covers = λ led leads. covered led leads.0 leads.1
        (begins nothing_changes question (tables_of search.steps) search.notes_dead here.course.dead here.course.cells.items by led (sym from.states.notes) noted from.within.goes_on.fit leads.0);
  }
    where
      covered : (led : Standing) (leads : LeadsTo question by led) → leads.doing.act ≡ place
          → Begins question (tables_of search.steps) here.course.cells.items here.course.dead by leads.act leads.doing.message led → IsCoveredIn question grown.standings led
      covered led leads same (with_none not_any none) =
          absurd (cc (not_any, any, ap (λ (a : Act). a.any_message) (act_is led leads same)))
      covered led leads same (with_live any_too at sent cell node messages message_is sent_there cell_is is_cell in_it) =
          let found : (number : ℕ) × In (Live number) here.firsts.items × (slice_get (tables_of search.steps).messages number ≡ Some sent) =
          from.is.firsts.live sent.to cell node messages sent cell_is is_cell in_it in
          grown.covers led (Live found.0, found.1, (leads, same, (at, sent, message_is, sent_there, found.2)))
      covered led leads same (with_dead any_too at sent message_is sent_there dead_is is_noted) =
          grown.covers led (Dead, from.is.firsts.noted is_noted, (leads, same, (at, sent, message_is, sent_there, dead_is)))
      covered led leads same (with_nothing is) =
          (by, get_in grown.standings here.number by (there_still standings grown.standings grown.extends here.number by from.there), is)

-- ---- one after another

pub first_at : (items firsts : List First) (index : ℕ) (d : First) → items ≡ firsts → index < length items → slice_get firsts index ≡ Some (get_or items index d)
first_at items firsts index d same within = ap (λ (l : List First). slice_get l index) (sym same) ∙ slice_get-get_or items index d within

pub listed_at : (items firsts : List First) (index : ℕ) (d : First) → items ≡ firsts → index < length items → In (get_or items index d) firsts
listed_at items firsts index d same within = get_in firsts index (get_or items index d) (first_at items firsts index d same within)

pub no_first : (question : Question) (done more : ℕ) (search : Search) (standings : List Standing) (tables : Tables) (by : Standing) (place : ℕ) (firsts : List First) → AreStates question done more search standings
    → Grown question done more search standings (LeadsByOne tables question by place (take 0 firsts))
no_first question done more search standings tables by place firsts states = record {
  standings = standings;
  states = states;
  extends = extends_itself standings;
  covers = λ new is. absurd is.1;
}

pub one_first : (question : Question) (done more : ℕ) (mid new : Search) (standings : List Standing) (tables mid_tables : Tables) (by : Standing) (place k : ℕ) (firsts : List First) (first : First)
    → slice_get firsts k ≡ Some first → Grow tables mid_tables → (before : Grown question done more mid standings (LeadsByOne tables question by place (take k firsts)))
    → Grown question done more new before.standings (LeadsBy mid_tables question by (record { act = place; first = first }))
    → Grown question done more new standings (LeadsByOne tables question by place (take (k + 1) firsts))
one_first question done more mid new standings tables mid_tables by place k firsts first there grow before after =
    grown_less question done more new standings (λ s. LeadsByOne tables question by place (take k firsts) s ⊎ LeadsBy mid_tables question by (record { act = place; first = first }) s)
    (LeadsByOne tables question by place (take (k + 1) firsts)) either
    (grown_then question done more mid new standings (LeadsByOne tables question by place (take k firsts)) (LeadsBy mid_tables question by (record { act = place; first = first })) before after)
  where
    grows : (of : First) (led : Standing) → LeadsBy tables question by (record { act = place; first = of }) led → LeadsBy mid_tables question by (record { act = place; first = of }) led
    grows of led leads = (leads.0, leads.1, begins_grows tables mid_tables grow of by.world leads.0.doing.message leads.2)

    either : (led : Standing) → LeadsByOne tables question by place (take (k + 1) firsts) led
        → LeadsByOne tables question by place (take k firsts) led ⊎ LeadsBy mid_tables question by (record { act = place; first = first }) led
    either led is = elim (in_take_more firsts k is.0 first there (subst (λ n. In is.0 (take n firsts)) (add-one k) is.1)) [
      | inl earlier ↦ inl (is.0, earlier, is.2)
      | inr same ↦ inr (subst (λ (f : First). LeadsBy mid_tables question by (record { act = place; first = f }) led) (sym same) (grows is.0 led is.2))
    ]

pub all_firsts : (question : Question) (tables : Tables) (by : Standing) (place k : ℕ) (firsts : List First) → length firsts ≤ k → (new : Standing)
    → LeadsByOne tables question by place firsts new → LeadsByOne tables question by place (take k firsts) new
all_firsts question tables by place k firsts past new is = (is.0, subst (λ (l : List First). In is.0 l) (sym (taken firsts k past)) is.1, is.2)
  where
    taken : (xs : List First) (n : ℕ) → length xs ≤ n → take n xs ≡ xs
    taken [] zero within = refl
    taken [] (suc n) within = refl
    taken (x ∷ xs) zero within = absurd (omega (arith, within))
    taken (x ∷ xs) (suc n) within = ap (λ (l : List First). x ∷ l) (taken xs n (omega (arith, within)))

pub no_act : (question : Question) (done more : ℕ) (search : Search) (standings : List Standing) (by : Standing) (k : ℕ) → k ≡ 0 → AreStates question done more search standings
    → Grown question done more search standings (LeadsByActs question by k)
no_act question done more search standings by k none states = record {
  standings = standings;
  states = states;
  extends = extends_itself standings;
  covers = λ new is. (let below : is.0 < k = is.1 in absurd (omega (arith, none, below)));
}

pub one_act : (question : Question) (done more : ℕ) (mid new : Search) (standings : List Standing) (by : Standing) (k : ℕ) (before : Grown question done more mid standings (LeadsByActs question by k))
    → Grown question done more new before.standings (LeadsByAct question by k) → Grown question done more new standings (LeadsByActs question by (k + 1))
one_act question done more mid new standings by k before after =
    grown_less question done more new standings (λ s. LeadsByActs question by k s ⊎ LeadsByAct question by k s) (LeadsByActs question by (k + 1)) either
    (grown_then question done more mid new standings (LeadsByActs question by k) (LeadsByAct question by k) before after)
  where
    either : (led : Standing) → LeadsByActs question by (k + 1) led → LeadsByActs question by k led ⊎ LeadsByAct question by k led
    either led is = elim (below_or k is.0 is.1) [
      | inl earlier ↦ inl (is.0, earlier, is.2)
      | inr same ↦ inr (is.2.0, is.2.1 ∙ same)
    ]
      where
        below_or : (n act : ℕ) → act < n + 1 → (act < n) ⊎ (act ≡ n)
        below_or n act below = elim (cases_lt act n) [
          | inl less ↦ inl less
          | inr past ↦ inr (let order : n ≤ act = past in omega (arith, below, order))
        ]

pub all_acts : (question : Question) (by : Standing) (k : ℕ) → length question.acts ≤ k → (new : Standing) → LeadsTo question by new → LeadsByActs question by k new
all_acts question by k past new leads =
    let within : leads.doing.act < length question.acts = slice_get_within question.acts leads.doing.act leads.act leads.may.there in
    (leads.doing.act, omega (arith, within, past), (leads, refl))

-- a state stands at each number below
pub state_at : (standings : List Standing) (number : ℕ) → number < length standings → (by : Standing) × (slice_get standings number ≡ Some by)
state_at standings number within = elim (slice_get_cases standings number).1 [
  | inl found ↦ (found.0, found.2)
  | inr past ↦ (let order : length standings ≤ number = past.0 in absurd (omega (arith, within, order)))
]

-- it is gone on from
pub from_there : (question : Question) (done more : ℕ) (search : Search) (here : Here) (by : Standing) (standings : List Standing) (number : ℕ) → here.number ≡ number → AreStates question (suc done) more search standings
    → slice_get standings number ≡ Some by → IsHere question search here by → IsWithin question search.origins.items done (suc more) number by → GoesFrom question done more search here by standings
from_there question done more search here by standings number same states there is within = record {
  states = states;
  there = ap (slice_get standings) same ∙ there;
  is = is;
  within = subst (λ n. IsWithin question search.origins.items done (suc more) n by) (sym same) within;
}

pub no_state : (question : Question) (done more : ℕ) (search : Search) (standings : List Standing) (first : ℕ) → AreStates question done (suc more) search standings
    → Grown question (suc done) more search standings (IsNext question standings first first)
no_state question done more search standings first states = record {
  standings = standings;
  states = states_later question done more search standings states;
  extends = extends_itself standings;
  covers = λ new is. (let from : first ≤ is.0 = is.2 in let below : is.0 < first = is.3 in absurd (omega (arith, from, below)));
}

pub one_state : (question : Question) (done more : ℕ) (mid new : Search) (standings : List Standing) (first number : ℕ) (by : Standing) → slice_get standings number ≡ Some by
    → (before : Grown question done more mid standings (IsNext question standings first number))
    → Grown question done more new before.standings (LeadsTo question by) → Grown question done more new standings (IsNext question standings first (number + 1))
one_state question done more mid new standings first number by there before after =
    grown_less question done more new standings (λ s. IsNext question standings first number s ⊎ LeadsTo question by s) (IsNext question standings first (number + 1)) either
    (grown_then question done more mid new standings (IsNext question standings first number) (LeadsTo question by) before after)
  where
    either : (led : Standing) → IsNext question standings first (number + 1) led → IsNext question standings first number led ⊎ LeadsTo question by led
    either led is = elim (below_or number is.0 is.3) [
      | inl earlier ↦ inl (is.0, is.1, is.2, earlier, is.4, is.5)
      | inr same ↦ inr (subst (λ (s : Standing). LeadsTo question s led) (same_Some is.1 by (sym is.4 ∙ ap (slice_get standings) same ∙ there)) is.5)
    ]
      where
        below_or : (n at : ℕ) → at < n + 1 → (at < n) ⊎ (at ≡ n)
        below_or n at below = elim (cases_lt at n) [
          | inl less ↦ inl less
          | inr past ↦ inr (let order : n ≤ at = past in omega (arith, below, order))
        ]

-- the states up to the last
pub all_states : (question : Question) (standings : List Standing) (first end number : ℕ) → end ≤ number → (new : Standing) → IsNext question standings first end new → IsNext question standings first number new
all_states question standings first end number past new is =
    let below : is.0 < end = is.3 in
    (is.0, is.1, is.2, omega (arith, below, past), is.4, is.5)

-- as many standings as states
pub count_is : (question other : Question) (done more done_too more_too : ℕ) (search : Search) (one two : List Standing) → AreStates question done more search one → AreStates other done_too more_too search two → length one ≡ length two
count_is question other done more done_too more_too search one two first second = sym first.count ∙ second.count
