-- The lines of an act in two worlds that are alike.
use Rattle.std.proofs.Common.{◌≡◌, ◌∙◌, ◌≤◌, inl, inr, ap, sym, subst, refl, arith, ℕ, zero, suc, Bool, true, false, ◌||◌, List, [], ◌∷◌, ◌++◌, length, length-append, drop, filter, if◌then◌else◌}
use Rattle.std.proofs.lemmas.Bool.{or_right}
use Rattle.std.proofs.lemmas.List.{drop-append-le}
use Rattle.std.specs.List.{list_any}
use Rattle.std.specs.Prelude.{⊤}
use Rattle.repl_msg.specs.declared.message.Message.{Message}
use Rattle.set_model.specs.declared.command.Command.{Command}
use Rattle.set_model.specs.declared.command.Command.TheVariants as commands
use Rattle.set_model.specs.declared.command.Event.{Event}
use Rattle.set_model.specs.World.{World, is_between, last_message, latest_between, step, taking}
use Rattle.explore_laws.specs.Alike.{AlikeWorlds}
use Rattle.explore_laws.specs.Dead.{has_dead}
use Rattle.explore_laws.specs.Laws.{AreSame}
use Rattle.explore_laws.specs.Settled.{AreSettled}
use Rattle.explore_laws.proofs.AlikeEvents.{AreDone, are_done, dead_in_both, stay_settled}
use Rattle.explore_words.specs.declared.question.Want.{Want}
use Rattle.question_laws.specs.Doing.{event_of, is_done, lines_done, world_after}
use Rattle.question_laws.specs.Lawful.{AreLawful, HasNoNumber, is_numbered}
use Rattle.question_laws.specs.Meeting.{Leaves, unseen}
use Rattle.question_laws.proofs.Wants.{leaves_over, left_lawful, left_met, same_itself}

-- ---- events that are the same one by one

abbrev pub AreAllSame : World → World → List Event → List Event → Type 0
AreAllSame one two [] [] = ⊤
AreAllSame one two [] (second ∷ others) = ⊥
AreAllSame one two (first ∷ events) [] = ⊥
AreAllSame one two (first ∷ events) (second ∷ others) = AreSame one two first second × AreAllSame (step one first).world (step two second).world events others

-- what they leave
pub record GoOver (one two : World) (events others : List Event) : Type 0 where
  pub worlds : AlikeWorlds (world_after one events) (world_after two others)
  pub settled : AreSettled (world_after one events)
  pub dead : (has_dead one ≡ true → has_dead two ≡ true) → has_dead (world_after one events) ≡ true → has_dead (world_after two others) ≡ true
  pub leaves : (wants left : List Want) → AreLawful wants → unseen one wants ≡ wants → Leaves one events wants left → Leaves two others wants left

pub go_over : (one two : World) (events others : List Event) → AreSettled one → AlikeWorlds one two → AreAllSame one two events others → GoOver one two events others
go_over one two [] [] settled alike same = record { worlds = alike; settled = settled; dead = λ given. given; leaves = λ wants left lawful met leaves. leaves }
go_over one two [] (second ∷ others) settled alike same = absurd same
go_over one two (first ∷ events) [] settled alike same = absurd same
go_over one two (first ∷ events) (second ∷ others) settled alike same =
    let done : AreDone one two first second = are_done one two first second settled alike same.0 in
    let rest : GoOver (step one first).world (step two second).world events others = go_over (step one first).world (step two second).world events others done.settled done.on.worlds same.1 in
    record {
      worlds = rest.worlds;
      settled = rest.settled;
      dead = λ given. rest.dead (dead_in_both one two first second settled alike same.0 given);
      leaves = λ wants left lawful met leaves. (
        leaves.0,
        leaves_over one two first second settled alike same.0 wants leaves.0 lawful leaves.1,
        rest.leaves leaves.0 left (left_lawful one first wants leaves.0 lawful leaves.1) (left_met one first wants leaves.0 leaves.1) leaves.2,
      );
    }

-- the wants that events leave
pub all_lawful : (world : World) (events : List Event) (wants left : List Want) → AreLawful wants → Leaves world events wants left → AreLawful left
all_lawful world [] wants left lawful leaves = subst AreLawful (sym leaves) lawful
all_lawful world (event ∷ events) wants left lawful leaves = all_lawful (step world event).world events leaves.0 left (left_lawful world event wants leaves.0 lawful leaves.1) leaves.2

pub all_met : (world : World) (events : List Event) (wants left : List Want) → unseen world wants ≡ wants → Leaves world events wants left → unseen (world_after world events) left ≡ left
all_met world [] wants left met leaves = ap (unseen world) leaves ∙ met ∙ sym leaves
all_met world (event ∷ events) wants left met leaves = all_met (step world event).world events leaves.0 left (left_met world event wants leaves.0 leaves.1) leaves.2

-- ---- the newest message of an act

-- of a list that has one
last_more : (message : Message) (messages : List Message) → (messages ≡ [] → ⊥) → last_message (message ∷ messages) ≡ last_message messages
last_more message [] some = absurd (some refl)
last_more message (next ∷ messages) some = refl

has_some : (test : Message → Bool) (messages : List Message) → list_any test messages ≡ true → filter test messages ≡ [] → ⊥
has_some test [] is none = cc is
has_some test (message ∷ messages) is none = by (test message) is none (has_some test messages)
  where
    by : (b : Bool) → (b || list_any test messages) ≡ true → (if b then message ∷ filter test messages else filter test messages) ≡ [] → (list_any test messages ≡ true → filter test messages ≡ [] → ⊥) → ⊥
    by true any empty rest = cc empty
    by false any empty rest = rest any empty

any_dropped : (test : Message → Bool) (before : ℕ) (messages : List Message) → list_any test (drop before messages) ≡ true → list_any test messages ≡ true
any_dropped test zero messages is = is
any_dropped test (suc before) [] is = is
any_dropped test (suc before) (message ∷ messages) is = or_right (test message) _ (any_dropped test before messages is)

latest_dropped : (before : ℕ) (messages : List Message) (from to : ℕ) → list_any (is_between from to) (drop before messages) ≡ true
    → latest_between messages from to ≡ latest_between (drop before messages) from to
latest_dropped zero messages from to is = refl
latest_dropped (suc before) [] from to is = refl
latest_dropped (suc before) (message ∷ messages) from to is =
    by (is_between from to message) (has_some (is_between from to) messages (any_dropped (is_between from to) before messages is)) ∙ latest_dropped before messages from to is
  where
    by : (b : Bool) → (filter (is_between from to) messages ≡ [] → ⊥)
        → last_message (if b then message ∷ filter (is_between from to) messages else filter (is_between from to) messages) ≡ latest_between messages from to
    by true some = last_more message (filter (is_between from to) messages) some
    by false some = refl

-- ---- lines

-- so many messages were sent before the act in each, and since then the same
pub record SentAlike (before other : ℕ) (one two : World) : Type 0 where
  pub first : before ≤ length one.messages
  pub second : other ≤ length two.messages
  pub since : drop before one.messages ≡ drop other two.messages

pub still_sent : (before other : ℕ) (one two : World) (first second : Event) → SentAlike before other one two → AreDone one two first second
    → SentAlike before other (step one first).world (step two second).world
still_sent before other one two first second sent done = record {
  first = longer before one.messages done.on.sent sent.first (step one first).world.messages done.on.first_sent;
  second = longer other two.messages done.on.sent sent.second (step two second).world.messages done.on.second_sent;
  since = ap (drop before) done.on.first_sent ∙ drop-append-le before one.messages done.on.sent sent.first
      ∙ ap (λ (l : List Message). l ++ done.on.sent) sent.since
      ∙ sym (drop-append-le other two.messages done.on.sent sent.second) ∙ sym (ap (drop other) done.on.second_sent);
}
  where
    longer : (k : ℕ) (xs ys : List Message) → k ≤ length xs → (all : List Message) → all ≡ xs ++ ys → k ≤ length all
    longer k xs ys within all is = subst (λ (l : List Message). k ≤ length l) (sym is) (rw (length-append xs ys) (omega (arith, within)))

-- each line is done in both, or in none
done_alike : (before other : ℕ) (one two : World) (command : Command) → SentAlike before other one two → is_done before one command ≡ is_done other two command
done_alike before other one two (commands.DeliverLatest from to) sent = ap (list_any (is_between from to)) sent.since
done_alike before other one two command sent = refl

line_same : (before other : ℕ) (one two : World) (command : Command) → SentAlike before other one two → is_numbered command ≡ false → is_done before one command ≡ true
    → AreSame one two (event_of command) (event_of command)
line_same before other one two (commands.Deliver message) sent unnumbered is = absurd (cc unnumbered)
line_same before other one two (commands.DeliverLatest from to) sent unnumbered is = record {
  task = ap taking (latest_dropped before one.messages from to is ∙ ap (λ (l : List Message). latest_between l from to) sent.since
      ∙ sym (latest_dropped other two.messages from to (sym (ap (list_any (is_between from to)) sent.since) ∙ is)));
  command = λ none. refl;
  first_whole = refl;
  second_whole = refl;
}
line_same before other one two command sent unnumbered is = same_itself one two command refl

pub lines_same : (before other : ℕ) (one two : World) (lines : List Command) → AreSettled one → AlikeWorlds one two → SentAlike before other one two → HasNoNumber lines
    → AreAllSame one two (lines_done before one lines) (lines_done other two lines)
lines_same before other one two [] settled alike sent unnumbered = tt
lines_same before other one two (command ∷ lines) settled alike sent unnumbered =
    by (is_done before one command) (is_done other two command) (done_alike before other one two command sent) refl
    (λ done. lines_same before other (step one (event_of command)).world (step two (event_of command)).world lines done.settled done.on.worlds
    (still_sent before other one two (event_of command) (event_of command) sent done) (λ line there. unnumbered line (inr there)))
  where
    first_lines : List Event
    first_lines = lines_done before (step one (event_of command)).world lines

    second_lines : List Event
    second_lines = lines_done other (step two (event_of command)).world lines

    by : (b c : Bool) → b ≡ c → is_done before one command ≡ b
        → (AreDone one two (event_of command) (event_of command) → AreAllSame (step one (event_of command)).world (step two (event_of command)).world first_lines second_lines)
        → AreAllSame one two (if b then event_of command ∷ first_lines else []) (if c then event_of command ∷ second_lines else [])
    by true true same is rest =
        let line : AreSame one two (event_of command) (event_of command) = line_same before other one two command sent (unnumbered command (inl refl)) is in
        (line, rest (are_done one two (event_of command) (event_of command) settled alike line))
    by false false same is rest = tt
    by true false same is rest = absurd (cc same)
    by false true same is rest = absurd (cc same)

-- nothing is in doubt after lines
pub lines_settled : (before : ℕ) (world : World) (lines : List Command) → AreSettled world → AreSettled (world_after world (lines_done before world lines))
lines_settled before world [] settled = settled
lines_settled before world (command ∷ lines) settled = by (is_done before world command) (lines_settled before (step world (event_of command)).world lines (stay_settled world (event_of command) refl settled))
  where
    by : (b : Bool) → AreSettled (world_after (step world (event_of command)).world (lines_done before (step world (event_of command)).world lines))
        → AreSettled (world_after world (if b then event_of command ∷ lines_done before (step world (event_of command)).world lines else []))
    by true rest = rest
    by false rest = settled
