-- What is kept stays right as tables grow and more is kept.
use Rattle.std.proofs.Common.{◌≡◌, ◌∙◌, ◌⊎◌, ◌==◌, inl, inr, ap, sym, subst, refl, arith, get_or, ◌<◌, ℕ, Some, List, [], ◌∷◌, ◌++◌, length, slice_get, slice_set}
use Rattle.std.proofs.lemmas.Bool.{cases_eq}
use Rattle.std.proofs.lemmas.Option.{same_Some, slice_get_read, slice_get_within}
use Rattle.commit_machine.proofs.Growth.{in_append}
use Rattle.rs_optime.specs.Membership.{In}
use Rattle.safety_laws.proofs.Places.{get_in, get_set_same, get_set_other}
use Rattle.repl_msg.specs.declared.message.Message.{Message}
use Rattle.set_model.specs.declared.command.Command.{Command}
use Rattle.set_model.specs.Node.{Node}
use Rattle.explore_words.specs.declared.question.Act.{Act}
use Rattle.explore_words.specs.declared.question.Look.{Look}
use Rattle.explore_words.specs.declared.question.Question.{Question}
use Rattle.explore_words.specs.declared.question.Want.TheVariants.{Seen}
use Rattle.explore_tables.specs.declared.kept.KeptNumber.{KeptNumber}
use Rattle.explore_steps.specs.declared.steps.Steps.{Steps}
use Rattle.explore_steps.specs.Causes.{is_met_at, own, taken}
use Rattle.explore_steps.specs.Keeping.{AreAdded, AreEmpty, AreKept, Grows, HasDeed, IsGrown, IsKeptIn, IsLine, IsLook}
use Rattle.explore_steps.specs.Stepping.{IsAddition, IsStepOf}
use Rattle.explore_steps.specs.Tables.{AreNumbered, Grow, tables_of}
use Rattle.explore_steps.proofs.Growth.{addition_grows, grow_itself, grow_on, has_deed_grows, step_grows}

-- ---- one more number

abbrev pub entry : (one two number : ℕ) → KeptNumber
entry one two number = record { one = one; two = two; number = number }

-- it is this one
pub record IsNew (one two number a b c : ℕ) : Type 0 where
  pub one_is : a ≡ one
  pub two_is : b ≡ two
  pub number_is : c ≡ number

pub put_in : (entries more : List KeptNumber) (one two number a b c : ℕ) → more ≡ entries ++ entry one two number ∷ [] → In (entry a b c) more
    → In (entry a b c) entries ⊎ IsNew one two number a b c
put_in entries more one two number a b c is there = elim (in_append (entry a b c) entries (entry one two number ∷ []) (subst (λ (l : List KeptNumber). In (entry a b c) l) is there)) [
  | inl before ↦ inl before
  | inr new ↦ inr (newest new)
]
  where
    newest : In (entry a b c) (entry one two number ∷ []) → IsNew one two number a b c
    newest (inl same) = record {
      one_is = sym (ap (λ (e : KeptNumber). e.one) same);
      two_is = sym (ap (λ (e : KeptNumber). e.two) same);
      number_is = sym (ap (λ (e : KeptNumber). e.number) same);
    }
    newest (inr none) = absurd none

-- in one of several tables
pub record IsNewAt (place one two number at a b c : ℕ) : Type 0 where
  pub place_is : at ≡ place
  pub new : IsNew one two number a b c

pub put_at : (kept : List (List KeptNumber)) (place : ℕ) (entries more : List KeptNumber) (one two number at a b c : ℕ) → slice_get kept place ≡ Some entries
    → more ≡ entries ++ entry one two number ∷ [] → IsKeptIn (slice_set kept place more) at a b c
    → IsKeptIn kept at a b c ⊎ IsNewAt place one two number at a b c
put_at kept place entries more one two number at a b c there is found = elim (cases_eq place at) [
  | inl same ↦
      let here : more ≡ found.0 = same_Some more found.0 (sym (get_set_same kept place more entries there) ∙ ap (slice_get (slice_set kept place more)) same ∙ found.1) in
      at_place same (put_in entries more one two number a b c is (subst (λ (l : List KeptNumber). In (entry a b c) l) (sym here) found.2))
  | inr other ↦ inl (found.0, sym (get_set_other kept place at more other) ∙ found.1, found.2)
]
  where
    at_place : place ≡ at → In (entry a b c) entries ⊎ IsNew one two number a b c → IsKeptIn kept at a b c ⊎ IsNewAt place one two number at a b c
    at_place same (inl before) = inl (entries, ap (slice_get kept) (sym same) ∙ there, before)
    at_place same (inr new) = inr (record { place_is = sym same; new = new })

-- ---- tables grow

-- the same is kept
pub record SameKept (old new : Steps) : Type 0 where
  pub size : new.size ≡ old.size
  pub lines_at : new.lines_at.items ≡ old.lines_at.items
  pub lines_in : new.lines_in.items ≡ old.lines_in.items
  pub messages_at : new.messages_at ≡ old.messages_at
  pub messages_in : new.messages_in ≡ old.messages_in
  pub additions : new.additions ≡ old.additions
  pub sights : new.sights.items ≡ old.sights.items

pub added_grown : (old new : Steps) → Grow (tables_of old) (tables_of new) → new.additions ≡ old.additions → AreAdded old → AreAdded new
added_grown old new grow same added cell message number there =
    let was : (m : Message) × (slice_get old.messages message ≡ Some m) × IsAddition (tables_of old) cell m number =
    added cell message number (subst (λ (l : List KeptNumber). In (entry cell message number) l) same there) in
    (was.0, grow.messages message was.0 was.1, addition_grows (tables_of old) (tables_of new) grow cell was.0 number was.2)

pub kept_grown : (question : Question) (old new : Steps) → Grow (tables_of old) (tables_of new) → SameKept old new → AreKept question old → AreKept question new
kept_grown question old new grow same kept = record {
  size = same.size ∙ kept.size;
  acts_at = ap length same.lines_at ∙ kept.acts_at;
  acts_in = ap length same.lines_in ∙ kept.acts_in;
  wants = ap length same.sights ∙ kept.wants;
  lines_at = λ act node line number is.
      (let was : (command : Command) × IsLine question act line command × HasDeed (tables_of old) question (own command) node number =
      kept.lines_at act node line number (subst (λ (l : List (List KeptNumber)). IsKeptIn l act node line number) same.lines_at is) in
      (was.0, was.1, has_deed_grows (tables_of old) (tables_of new) grow question (own was.0) node number was.2));
  lines_in = λ act cell line number is.
      (let was : (command : Command) × IsLine question act line command × IsStepOf (tables_of old) question (own command) cell number =
      kept.lines_in act cell line number (subst (λ (l : List (List KeptNumber)). IsKeptIn l act cell line number) same.lines_in is) in
      (was.0, was.1, step_grows (tables_of old) (tables_of new) grow question (own was.0) cell number was.2));
  messages_at = λ node message number is.
      (let was : (m : Message) × (slice_get old.messages message ≡ Some m) × HasDeed (tables_of old) question (taken m) node number =
      kept.messages_at node message number (subst (λ (l : List KeptNumber). In (entry node message number) l) same.messages_at is) in
      (was.0, grow.messages message was.0 was.1, has_deed_grows (tables_of old) (tables_of new) grow question (taken was.0) node number was.2));
  messages_in = λ cell message number is.
      (let was : (m : Message) × (slice_get old.messages message ≡ Some m) × IsStepOf (tables_of old) question (taken m) cell number =
      kept.messages_in cell message number (subst (λ (l : List KeptNumber). In (entry cell message number) l) same.messages_in is) in
      (was.0, grow.messages message was.0 was.1, step_grows (tables_of old) (tables_of new) grow question (taken was.0) cell number was.2));
  additions = added_grown old new grow same.additions kept.additions;
  sights = λ want place node met is.
      (let was : (look : Look) × (at : Node) × IsLook question want place look × (slice_get old.nodes node ≡ Some at) × ((met == 1) ≡ is_met_at question.sizes.nodes at look) =
      kept.sights want place node met (subst (λ (l : List (List KeptNumber)). IsKeptIn l want place node met) same.sights is) in
      (was.0, was.1, was.2, grow.nodes node was.1 was.3, was.4));
}

pub grows_on : (one two three : Steps) → Grows one two → Grows two three → Grows one three
grows_on one two three first second = record {
  tables = grow_on (tables_of one) (tables_of two) (tables_of three) first.tables second.tables;
  kept = λ question kept. second.kept question (first.kept question kept);
}

pub grows_same : (old new : Steps) → Grow (tables_of old) (tables_of new) → SameKept old new → Grows old new
grows_same old new grow same = record { tables = grow; kept = λ question kept. kept_grown question old new grow same kept }

-- nothing is kept
nothing_kept : (kept : List (List KeptNumber)) → AreEmpty kept → (place a b c : ℕ) → IsKeptIn kept place a b c → ⊥
nothing_kept kept none place a b c found =
    subst (λ (l : List KeptNumber). In (entry a b c) l) (none found.0 (get_in kept place found.0 found.1)) found.2

nothing_in : (kept : List KeptNumber) → kept ≡ [] → (a b c : ℕ) → In (entry a b c) kept → ⊥
nothing_in kept none a b c found = subst (λ (l : List KeptNumber). In (entry a b c) l) none found

pub empty_more : (tables : List (List KeptNumber)) (new : List KeptNumber) → new ≡ [] → AreEmpty tables → AreEmpty (tables ++ new ∷ [])
empty_more tables new none empty kept there = elim (in_append kept tables (new ∷ []) there) [
  | inl before ↦ empty kept before
  | inr last ↦ newest last
]
  where
    newest : In kept (new ∷ []) → kept ≡ []
    newest (inl same) = sym same ∙ none
    newest (inr nowhere) = absurd nowhere

pub kept_new : (question : Question) (steps : Steps) → steps.size ≡ question.sizes.nodes → length steps.lines_at.items ≡ length question.acts
    → length steps.lines_in.items ≡ length question.acts → length steps.sights.items ≡ length question.wants → AreEmpty steps.lines_at.items → AreEmpty steps.lines_in.items
    → AreEmpty steps.sights.items → steps.messages_at ≡ [] → steps.messages_in ≡ [] → steps.additions ≡ [] → AreKept question steps
kept_new question steps size acts_at acts_in wants lines_at lines_in sights messages_at messages_in additions = record {
  size = size;
  acts_at = acts_at;
  acts_in = acts_in;
  wants = wants;
  lines_at = λ act node line number found. absurd (nothing_kept steps.lines_at.items lines_at act node line number found);
  lines_in = λ act cell line number found. absurd (nothing_kept steps.lines_in.items lines_in act cell line number found);
  messages_at = λ node message number found. absurd (nothing_in steps.messages_at messages_at node message number found);
  messages_in = λ cell message number found. absurd (nothing_in steps.messages_in messages_in cell message number found);
  additions = λ cell message number found. absurd (nothing_in steps.additions additions cell message number found);
  sights = λ want place node met found. absurd (nothing_kept steps.sights.items sights want place node met found);
}

-- the tables of nodes, messages, lists and pairs are others, which go on from these
module _ (old : Steps) where
  module _ (nodes : List Node) (messages : List Message) (lists : List (List ℕ)) (cells : List (ℕ × ℕ)) where
    abbrev pub with_tables : Steps
    with_tables = record old { nodes = nodes; messages = messages; lists = lists; cells = cells }

    pub grows_tables : AreNumbered old.nodes nodes → AreNumbered old.messages messages → AreNumbered old.lists lists → AreNumbered old.cells cells → Grows old with_tables
    grows_tables n m l c = grows_same old with_tables
        (record { nodes = n; messages = m; lists = l; cells = c; deeds = λ number value is. is; steps = λ number value is. is })
        (record { size = refl; lines_at = refl; lines_in = refl; messages_at = refl; messages_in = refl; additions = refl; sights = refl })

pub grown_on : (question : Question) (one two three : Steps) → IsGrown question one two → Grows two three → IsGrown question one three
grown_on question one two three first second = record {
  tables = grow_on (tables_of one) (tables_of two) (tables_of three) first.tables second.tables;
  kept = second.kept question first.kept;
}

pub grown_then : (question : Question) (one two three : Steps) → IsGrown question one two → IsGrown question two three → IsGrown question one three
grown_then question one two three first second = record {
  tables = grow_on (tables_of one) (tables_of two) (tables_of three) first.tables second.tables;
  kept = second.kept;
}

pub grown_itself : (question : Question) (steps : Steps) → AreKept question steps → IsGrown question steps steps
grown_itself question steps kept = record { tables = grow_itself (tables_of steps); kept = kept }

module _ (old other : Steps) where
  -- a deed more
  pub grows_deeds : (nodes : List Node) (messages : List Message) → AreNumbered old.nodes nodes → AreNumbered old.messages messages → AreNumbered old.deeds.items other.deeds.items
      → Grows old (record old { nodes = nodes; messages = messages; deeds = other.deeds })
  grows_deeds nodes messages n m d = grows_same old (record old { nodes = nodes; messages = messages; deeds = other.deeds })
      (record { nodes = n; messages = m; lists = λ number value is. is; cells = λ number value is. is; deeds = d; steps = λ number value is. is })
      (record { size = refl; lines_at = refl; lines_in = refl; messages_at = refl; messages_in = refl; additions = refl; sights = refl })

  -- a step more
  pub grows_steps : (lists : List (List ℕ)) (cells : List (ℕ × ℕ)) → AreNumbered old.lists lists → AreNumbered old.cells cells → AreNumbered old.steps.items other.steps.items
      → Grows old (record old { lists = lists; cells = cells; steps = other.steps })
  grows_steps lists cells l c s = grows_same old (record old { lists = lists; cells = cells; steps = other.steps })
      (record { nodes = λ number value is. is; messages = λ number value is. is; lists = l; cells = c; deeds = λ number value is. is; steps = s })
      (record { size = refl; lines_at = refl; lines_in = refl; messages_at = refl; messages_in = refl; additions = refl; sights = refl })

-- ---- what is read

-- a line has one command
pub one_line : (question : Question) (act line : ℕ) (first second : Command) → IsLine question act line first → IsLine question act line second → first ≡ second
one_line question act line first second one two =
    same_Some first second (sym one.2 ∙ ap (λ (a : Act). slice_get a.commands line) (same_Some one.0 two.0 (sym one.1 ∙ two.1)) ∙ two.2)

-- the number of an act is that of its tables
pub act_within : (question : Question) (act line : ℕ) (command : Command) (kept : List (List KeptNumber)) → length kept ≡ length question.acts → IsLine question act line command → act < length kept
act_within question act line command kept same is = let order : act < length question.acts = slice_get_within question.acts act is.0 is.1 in omega (arith, same, order)

-- what is read of tables at a place
pub read_at : (kept : List (List KeptNumber)) (place : ℕ) (found : List KeptNumber) → place < length kept → found ≡ get_or kept place found → slice_get kept place ≡ Some found
read_at kept place found within is = slice_get_read kept (length kept) place found refl within is

-- a place of a want has one look
pub one_look : (question : Question) (want place : ℕ) (first second : Look) → IsLook question want place first → IsLook question want place second → first ≡ second
one_look question want place first second one two =
    same_Some first second (sym one.2 ∙ ap (λ (l : List Look). slice_get l place) (looks_same (same_Some (Seen one.0) (Seen two.0) (sym one.1 ∙ two.1))) ∙ two.2)
  where
    looks_same : Seen one.0 ≡ Seen two.0 → one.0 ≡ two.0
    looks_same same = cc

pub look_within : (question : Question) (want place : ℕ) (look : Look) (kept : List (List KeptNumber)) → length kept ≡ length question.wants → IsLook question want place look → want < length kept
look_within question want place look kept same is = let order : want < length question.wants = slice_get_within question.wants want (Seen is.0) is.1 in omega (arith, same, order)
