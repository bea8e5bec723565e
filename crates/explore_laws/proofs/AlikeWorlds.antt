-- One event in two worlds that are alike.
use Rattle.std.proofs.Common.{◌≡◌, ◌∙◌, inl, inr, arith, ap, sym, subst, refl, ℕ, zero, suc, Bool, true, false, Option, None, Some, List, [], ◌∷◌, length, slice_get, slice_set, if◌then◌else◌}
use Rattle.std.proofs.lemmas.Bool.{cases_eq}
use Rattle.std.proofs.lemmas.Option.{same_Some}
use Rattle.std.specs.Option.{option_map_or}
use Rattle.commit_machine.proofs.Growth.{in_append, in_left, in_right}
use Rattle.repl_msg.specs.Kept.{kept}
use Rattle.repl_msg.specs.declared.message.Message.{Message}
use Rattle.repl_msg.specs.declared.record.Kept.{Kept}
use Rattle.rs_optime.specs.Membership.{In}
use Rattle.vote_store.specs.declared.vote.Vote.{Vote}
use Rattle.set_model.specs.Node.{Node}
use Rattle.set_model.specs.Outcome.{Outcome}
use Rattle.set_model.specs.Roles.{is_candidate}
use Rattle.set_model.specs.World.{World, with_outcome}
use Rattle.safety_laws.proofs.Places.{get_set_same, get_set_other}
use Rattle.explore_laws.specs.Alike.{AlikeNodes, AlikeWorlds, ComeToOne, HasLive}
use Rattle.explore_laws.specs.Dead.{is_dead, is_dead_at, is_dead_in}
use Rattle.explore_laws.specs.Steps.{GoAlike, Rises}
use Rattle.explore_laws.proofs.DeadLemmas.{dead_stays}

-- ---- lists as long as one another

set_both : {A : Type 0} (xs ys : List A) (n : ℕ) (x y : A) → length xs ≡ length ys → length (slice_set xs n x) ≡ length (slice_set ys n y)
set_both [] [] n x y same = refl
set_both [] (w ∷ ys) n x y same = absurd (omega (arith, same))
set_both (z ∷ xs) [] n x y same = absurd (omega (arith, same))
set_both (z ∷ xs) (w ∷ ys) zero x y same = same
set_both (z ∷ xs) (w ∷ ys) (suc n) x y same = ap suc (set_both xs ys n x y (omega (arith, same)))

pub both_there : {A : Type 0} (xs ys : List A) (n : ℕ) (x : A) → length xs ≡ length ys → slice_get xs n ≡ Some x → (y : A) × (slice_get ys n ≡ Some y)
both_there [] ys n x same there = absurd (cc there)
both_there (z ∷ xs) [] n x same there = absurd (omega (arith, same))
both_there (z ∷ xs) (y ∷ ys) zero x same there = (y, refl)
both_there (z ∷ xs) (y ∷ ys) (suc n) x same there = both_there xs ys n x (omega (arith, same)) there

pub neither_there : {A : Type 0} (xs ys : List A) (n : ℕ) → length xs ≡ length ys → slice_get xs n ≡ None → slice_get ys n ≡ None
neither_there [] [] n same there = refl
neither_there [] (y ∷ ys) n same there = absurd (omega (arith, same))
neither_there (x ∷ xs) [] n same there = refl
neither_there (x ∷ xs) (y ∷ ys) zero same there = absurd (cc there)
neither_there (x ∷ xs) (y ∷ ys) (suc n) same there = neither_there xs ys n (omega (arith, same)) there

-- ---- dead at nodes and in worlds that are alike

pub dead_alike : (one two : Node) (message : Message) → AlikeNodes one two → is_dead one message ≡ is_dead two message
dead_alike one two message alike =
    ap (λ (v : Vote). is_dead_at (if one.up then one.term else v.term) one.role message.term message.body) alike.records.vote
    ∙ ap (λ (n : Node). is_dead n message) alike.others

pub dead_at : (world : World) (message : Message) (node : Node) → slice_get world.nodes message.to ≡ Some node → is_dead_in world message ≡ is_dead node message
dead_at world message node there = ap (λ (found : Option Node). option_map_or (λ n. is_dead n message) found true) there

nodes_dead_alike : (one two : World) → length one.nodes ≡ length two.nodes
    → ((number : ℕ) (a b : Node) → slice_get one.nodes number ≡ Some a → slice_get two.nodes number ≡ Some b → AlikeNodes a b)
    → (message : Message) → is_dead_in one message ≡ is_dead_in two message
nodes_dead_alike one two count nodes message = by (slice_get one.nodes message.to) refl
  where
    by : (found : Option Node) → slice_get one.nodes message.to ≡ found → is_dead_in one message ≡ is_dead_in two message
    by None is = ap (λ (found : Option Node). option_map_or (λ n. is_dead n message) found true) (is ∙ sym (neither_there one.nodes two.nodes message.to count is))
    by (Some a) is =
        let other : (b : Node) × (slice_get two.nodes message.to ≡ Some b) = both_there one.nodes two.nodes message.to a count is in
        dead_at one message a is ∙ dead_alike a other.0 message (nodes message.to a other.0 is other.1) ∙ sym (dead_at two message other.0 other.1)

pub dead_in_alike : (one two : World) → AlikeWorlds one two → (message : Message) → is_dead_in one message ≡ is_dead_in two message
dead_in_alike one two alike = nodes_dead_alike one two alike.count alike.nodes

-- ---- one world after another

come_on : (one two three : Kept) → ComeToOne one two → ComeToOne two three → ComeToOne one three
come_on one two three first second = record {
  vote = first.vote ∙ second.vote;
  config = first.config ∙ second.config;
  entries = first.entries ∙ second.entries;
  point = first.point ∙ second.point;
}

pub nodes_on : (one two three : Node) → AlikeNodes one two → AlikeNodes two three → AlikeNodes one three
nodes_on one two three first second = record {
  others = ap (λ (n : Node). record n { records = three.records; tally = three.tally }) first.others ∙ second.others;
  records = come_on (kept one.records) (kept two.records) (kept three.records) first.records second.records;
  tally = λ is. first.tally is ∙ second.tally (sym (ap (λ (n : Node). is_candidate n.role) first.others) ∙ is);
}

pub worlds_on : (one two three : World) → AlikeWorlds one two → AlikeWorlds two three → AlikeWorlds one three
worlds_on one two three first second = record {
  count = first.count ∙ second.count;
  nodes = λ number a c a_there c_there.
      (let middle : (b : Node) × (slice_get two.nodes number ≡ Some b) = both_there one.nodes two.nodes number a first.count a_there in
      nodes_on a middle.0 c (first.nodes number a middle.0 a_there middle.1) (second.nodes number middle.0 c middle.1 c_there));
  there = λ message sent alive. second.there message (first.there message sent alive) (sym (dead_in_alike one two first message) ∙ alive);
  back = λ message sent alive. first.back message (second.back message sent alive) (dead_in_alike two three second message ∙ alive);
}

-- ---- one node goes on

-- a message stays dead, where the node that acts rises
pub dead_after : (world : World) (number : ℕ) (node : Node) (outcome : Outcome) → slice_get world.nodes number ≡ Some node → Rises node outcome.node
    → (message : Message) → is_dead_in world message ≡ true → is_dead_in (with_outcome world number outcome).world message ≡ true
dead_after world number node outcome there rises message dead = elim (cases_eq number message.to) [
  | inl same ↦
      dead_at (with_outcome world number outcome).world message outcome.node
      (ap (λ n. slice_get (slice_set world.nodes number outcome.node) n) (sym same) ∙ get_set_same world.nodes number outcome.node node there)
      ∙ dead_stays node outcome.node message rises (sym (dead_at world message node (ap (λ n. slice_get world.nodes n) (sym same) ∙ there)) ∙ dead)
  | inr other ↦
      ap (λ (found : Option Node). option_map_or (λ n. is_dead n message) found true) (get_set_other world.nodes number message.to outcome.node other) ∙ dead
]

-- what is at a number after it
pub at_after : (P : Node → Type 0) (world : World) (number : ℕ) (node : Node) (outcome : Outcome) → slice_get world.nodes number ≡ Some node → P outcome.node
    → ((m : ℕ) (n : Node) → slice_get world.nodes m ≡ Some n → P n) → (m : ℕ) (n : Node) → slice_get (with_outcome world number outcome).world.nodes m ≡ Some n → P n
at_after P world number node outcome there new old m n is = elim (cases_eq number m) [
  | inl same ↦ subst P (same_Some outcome.node n (sym (get_set_same world.nodes number outcome.node node there) ∙ ap (λ k. slice_get (slice_set world.nodes number outcome.node) k) same ∙ is)) new
  | inr other ↦ old m n (sym (get_set_other world.nodes number m outcome.node other) ∙ is)
]

pub not_dead_before : (before after : Bool) → (before ≡ true → after ≡ true) → after ≡ false → before ≡ false
not_dead_before true after stays alive = absurd (cc (stays refl, alive))
not_dead_before false after stays alive = refl

module _ (one two : World) (alike : AlikeWorlds one two) (number : ℕ) (a b : Node) (first second : Outcome)
    (a_there : slice_get one.nodes number ≡ Some a) (b_there : slice_get two.nodes number ≡ Some b) (go : GoAlike a first second) where
  abbrev one_after : World
  one_after = (with_outcome one number first).world

  abbrev two_after : World
  two_after = (with_outcome two number second).world

  nodes_alike : (m : ℕ) (x y : Node) → slice_get one_after.nodes m ≡ Some x → slice_get two_after.nodes m ≡ Some y → AlikeNodes x y
  nodes_alike m x y x_is y_is = elim (cases_eq number m) [
    | inl same ↦
        subst (λ (n : Node). AlikeNodes n y) (same_Some first.node x (sym (get_set_same one.nodes number first.node a a_there) ∙ ap (λ k. slice_get (slice_set one.nodes number first.node) k) same ∙ x_is))
        (subst (λ (n : Node). AlikeNodes first.node n) (same_Some second.node y (sym (get_set_same two.nodes number second.node b b_there) ∙ ap (λ k. slice_get (slice_set two.nodes number second.node) k) same ∙ y_is)) go.nodes)
    | inr other ↦ alike.nodes m x y (sym (get_set_other one.nodes number m first.node other) ∙ x_is) (sym (get_set_other two.nodes number m second.node other) ∙ y_is)
  ]

  same_count : length one_after.nodes ≡ length two_after.nodes
  same_count = set_both one.nodes two.nodes number first.node second.node alike.count

  -- what is dead in the one is dead in the other
  dead_in_both : (message : Message) → is_dead_in one_after message ≡ is_dead_in two_after message
  dead_in_both = nodes_dead_alike one_after two_after same_count nodes_alike

  first_has : HasLive one_after two_after
  first_has message there alive = elim (in_append message one.messages first.sent there) [
    | inl before ↦ in_left message two.messages second.sent
        (alike.there message before (not_dead_before (is_dead_in one message) (is_dead_in one_after message) (dead_after one number a first a_there go.rises message) alive))
    | inr new ↦ in_right message two.messages second.sent (subst (λ (l : List Message). In message l) go.sent new)
  ]

  second_has : HasLive two_after one_after
  second_has message there alive = elim (in_append message two.messages second.sent there) [
    | inl before ↦ in_left message one.messages first.sent (alike.back message before
        (not_dead_before (is_dead_in two message) (is_dead_in two_after message)
        (λ dead. sym (dead_in_both message) ∙ dead_after one number a first a_there go.rises message (dead_in_alike one two alike message ∙ dead)) alive))
    | inr new ↦ in_right message one.messages first.sent (subst (λ (l : List Message). In message l) (sym go.sent) new)
  ]

  pub worlds_after : AlikeWorlds one_after two_after
  worlds_after = record { count = same_count; nodes = nodes_alike; there = first_has; back = second_has }
