-- One act from a standing that is covered by another.
use Rattle.std.proofs.Common.{◌≡◌, ◌∙◌, ◌⊎◌, ◌≤◌, ◌<◌, inl, inr, ap, sym, subst, refl, arith, ne_eqb, ℕ, suc, ◌+◌, ◌==◌, Bool, true, false, not, Option, None, Some, List, [], ◌∷◌, length, drop_of_length-le, slice_get, if◌then◌else◌}
use Rattle.std.proofs.lemmas.Bool.{and_from}
use Rattle.std.proofs.lemmas.Option.{slice_get_cases, slice_get_within}
use Rattle.std.specs.List.{list_any}
use Rattle.std.specs.Prelude.{IfSome, is_some}
use Rattle.commit_machine.proofs.Growth.{any_is}
use Rattle.repl_msg.specs.declared.message.Message.{Message}
use Rattle.rs_optime.specs.Membership.{In}
use Rattle.safety_laws.proofs.Places.{get_in}
use Rattle.set_model.specs.declared.command.Command.{Command}
use Rattle.set_model.specs.declared.command.Command.TheVariants.{Deliver}
use Rattle.set_model.specs.declared.command.Event.{Event}
use Rattle.set_model.specs.World.{World, step, taking}
use Rattle.explore_laws.specs.Alike.{AlikeWorlds}
use Rattle.explore_laws.specs.Dead.{has_dead, is_dead_in}
use Rattle.explore_laws.specs.Laws.{AreSame, DeadMessagesChangeNothing}
use Rattle.explore_laws.specs.Settled.{AreSettled}
use Rattle.explore_laws.proofs.AlikeEvents.{AreDone, are_done, some_any}
use Rattle.explore_words.specs.declared.question.Act.{Act}
use Rattle.explore_words.specs.declared.question.Question.{Question}
use Rattle.explore_words.specs.declared.question.Want.{Want}
use Rattle.question_laws.specs.Covered.{IsCovered, IsFit, goes_on}
use Rattle.question_laws.specs.Doing.{act_done, event_of, lines_done, lines_of, world_after}
use Rattle.question_laws.specs.Following.{Doing, LeadsTo, MayDo, Standing, used_more}
use Rattle.question_laws.specs.Lawful.{HasNoNumber, IsLawful}
use Rattle.question_laws.specs.Laws.{ActsAreCovered}
use Rattle.question_laws.specs.Meeting.{Leaves, unseen}
use Rattle.question_laws.proofs.DeadEvents.{dead_stays, leaves_all, leaves_same}
use Rattle.question_laws.proofs.Lines.{GoOver, SentAlike, all_lawful, all_met, go_over, lines_same, lines_settled, still_sent}
use Rattle.question_laws.proofs.Wants.{unseen_same}

-- ---- places

pub place_of : {A : Type 0} (x : A) (xs : List A) → In x xs → (n : ℕ) × (slice_get xs n ≡ Some x)
place_of x [] there = absurd there
place_of x (y ∷ xs) (inl same) = (0, ap Some same)
place_of x (y ∷ xs) (inr there) = let later : (n : ℕ) × (slice_get xs n ≡ Some x) = place_of x xs there in (suc later.0, later.1)

pub message_at : (messages : List Message) (n : ℕ) → n < length messages → (message : Message) × (slice_get messages n ≡ Some message)
message_at messages n within = elim (slice_get_cases messages n).1 [
  | inl found ↦ (found.0, found.2)
  | inr past ↦ (let order : length messages ≤ n = past.0 in absurd (omega (arith, within, order)))
]

begun_alike : (one two : World) → SentAlike (length one.messages) (length two.messages) one two
begun_alike one two = record {
  first = omega arith;
  second = omega arith;
  since = drop_of_length-le one.messages {i = length one.messages} (omega arith) ∙ sym (drop_of_length-le two.messages {i = length two.messages} (omega arith));
}

abbrev delivery : ℕ → Event
delivery number = event_of (Deliver number)

module _ (nothing_changes : DeadMessagesChangeNothing) (one two : World) (settled : AreSettled one) (alike : AlikeWorlds one two) (lines : List Command) (unnumbered : HasNoNumber lines) where
  abbrev before : ℕ
  before = length one.messages

  abbrev other : ℕ
  other = length two.messages

  -- after a message that was sent in both
  alive_goes : (first second : ℕ) (message : Message) → slice_get one.messages first ≡ Some message → slice_get two.messages second ≡ Some message
      → GoOver one two (lines_done before one (Deliver first ∷ lines)) (lines_done other two (Deliver second ∷ lines))
  alive_goes first second message first_is second_is = go_over one two _ _ settled alike (
    same,
    lines_same before other (step one (delivery first)).world (step two (delivery second)).world lines done.settled done.on.worlds
        (still_sent before other one two (delivery first) (delivery second) (begun_alike one two) done) unnumbered,
  )
    where
      same : AreSame one two (delivery first) (delivery second)
      same = record { task = ap taking first_is ∙ sym (ap taking second_is); command = λ is. absurd (cc is); first_whole = refl; second_whole = refl }

      done : AreDone one two (delivery first) (delivery second)
      done = are_done one two (delivery first) (delivery second) settled alike same

  -- after a dead message in each
  dead_goes : (first second : ℕ) (message found : Message) (first_is : slice_get one.messages first ≡ Some message) (second_is : slice_get two.messages second ≡ Some found)
      → is_dead_in one message ≡ true → is_dead_in two found ≡ true
      → GoOver one two (lines_done before one (Deliver first ∷ lines)) (lines_done other two (Deliver second ∷ lines))
  dead_goes first second message found first_is second_is one_dead two_dead = record {
    worlds = rest.worlds;
    settled = rest.settled;
    dead = λ given. rest.dead (λ is. ap has_dead two_stays ∙ given (sym (ap has_dead one_stays) ∙ is));
    leaves = λ wants left lawful met leaves. (
      wants,
      leaves_all nothing_changes two (Deliver second) found (ap taking second_is) two_dead wants lawful (sym (unseen_same one two settled alike wants) ∙ met),
      rest.leaves wants left lawful (ap (λ (w : World). unseen w wants) one_stays ∙ met)
          (subst (λ next. Leaves (step one (delivery first)).world (lines_done before (step one (delivery first)).world lines) next left)
          (leaves_same nothing_changes one (Deliver first) message (ap taking first_is) one_dead wants leaves.0 lawful met leaves.1) leaves.2),
    );
  }
    where
      one_stays : (step one (delivery first)).world ≡ one
      one_stays = dead_stays nothing_changes one (Deliver first) message (ap taking first_is) one_dead

      two_stays : (step two (delivery second)).world ≡ two
      two_stays = dead_stays nothing_changes two (Deliver second) found (ap taking second_is) two_dead

      rest : GoOver (step one (delivery first)).world (step two (delivery second)).world (lines_done before (step one (delivery first)).world lines) (lines_done other (step two (delivery second)).world lines)
      rest = subst (λ (w : World). GoOver w (step two (delivery second)).world (lines_done before w lines) (lines_done other (step two (delivery second)).world lines)) (sym one_stays)
          (subst (λ (w : World). GoOver one w (lines_done before one lines) (lines_done other w lines)) (sym two_stays)
          (go_over one two _ _ settled alike (lines_same before other one two lines settled alike (begun_alike one two) unnumbered)))

-- ---- an act

abbrev Covers : Question → Standing → Standing → Type 0
Covers question by new = IsCovered question new by ⊎ ((next : Standing) × LeadsTo question by next × IsCovered question new next)

used_no_more : (one two : ℕ → ℕ) (act : ℕ) → ((place : ℕ) → two place ≤ one place) → (place : ℕ) → used_more two act place ≤ used_more one act place
used_no_more one two act less place = by (place == act)
  where
    by : (b : Bool) → (if b then two place + 1 else two place) ≤ (if b then one place + 1 else one place)
    by true = let order : two place ≤ one place = less place in omega (arith, order)
    by false = less place

used_less : (one two : ℕ → ℕ) (act : ℕ) → ((place : ℕ) → two place ≤ one place) → (place : ℕ) → two place ≤ used_more one act place
used_less one two act less place = by (place == act)
  where
    by : (b : Bool) → two place ≤ (if b then one place + 1 else one place)
    by true = let order : two place ≤ one place = less place in omega (arith, order)
    by false = less place

module _ (nothing_changes : DeadMessagesChangeNothing) (question : Question) (of by : Standing) (lawful : IsLawful question) (fit : IsFit of) (covered : IsCovered question of by)
    (place : ℕ) (act : Act) where
  abbrev doing : Option ℕ → Doing
  doing message = record { act = place; message = message }

  -- where the act leads
  abbrev led : Option ℕ → List Want → Standing
  led message left = record { world = world_after of.world (act_done of.world act message); used = used_more of.used place; left = left }

  module _ (may_limit : IfSome act.limit (λ limit. of.used place < limit)) (act_there : slice_get question.acts place ≡ Some act) where
    limit_kept : (limit : Option ℕ) → IfSome limit (λ l. of.used place < l) → IfSome limit (λ l. by.used place < l)
    limit_kept None within = tt
    limit_kept (Some limit) within = let order : by.used place ≤ of.used place = covered.used place in omega (arith, order, within)

    -- the other does it with this message
    with_message : (message own : Option ℕ) (left : List Want) → is_some own ≡ act.any_message → IfSome own (λ m. m < length by.world.messages)
        → GoOver of.world by.world (act_done of.world act message) (act_done by.world act own) → Leaves of.world (act_done of.world act message) of.left left
        → Covers question by (led message left)
    with_message message own left any sent go leaves = inr (
      record { world = world_after by.world (act_done by.world act own); used = used_more by.used place; left = left },
      record {
        doing = doing own;
        act = act;
        may = record { there = act_there; begins = any; sent = sent; limit = limit_kept act.limit may_limit };
        world = refl;
        used = refl;
        left = subst (λ wants. Leaves by.world (act_done by.world act own) wants left) covered.left (go.leaves of.left left fit.wants fit.met leaves);
      },
      record {
        worlds = go.worlds;
        left = refl;
        used = used_no_more of.used by.used place covered.used;
        dead = λ goes. go.dead (covered.dead goes);
      },
    )

    lines_lawful : HasNoNumber act.commands
    lines_lawful = lawful.acts act (get_in question.acts place act act_there)

    -- it is one that begins with any message
    module _ (number : ℕ) (message : Message) (there : slice_get of.world.messages number ≡ Some message) (any : true ≡ act.any_message) (left : List Want)
        (leaves : Leaves of.world (act_done of.world act (Some number)) of.left left) where
      with_alive : is_dead_in of.world message ≡ false → Covers question by (led (Some number) left)
      with_alive alive =
          let found : (n : ℕ) × (slice_get by.world.messages n ≡ Some message) = place_of message by.world.messages (covered.worlds.there message (get_in of.world.messages number message there) alive) in
          with_message (Some number) (Some found.0) left any (slice_get_within by.world.messages found.0 message found.1)
          (alive_goes nothing_changes of.world by.world fit.settled covered.worlds act.commands lines_lawful number found.0 message there found.1) leaves

      -- the act is the delivery alone
      with_nothing : is_dead_in of.world message ≡ true → act.commands ≡ [] → Covers question by (led (Some number) left)
      with_nothing dead none = inl (record {
        worlds = subst (λ (w : World). AlikeWorlds w by.world) (sym stays) covered.worlds;
        left = left_is ∙ covered.left;
        used = used_less of.used by.used place covered.used;
        dead = λ goes is. covered.dead goes (sym (ap has_dead stays) ∙ is);
      })
        where
          stays : world_after of.world (act_done of.world act (Some number)) ≡ of.world
          stays = ap (λ (l : List Command). world_after of.world (lines_done (length of.world.messages) of.world (Deliver number ∷ l))) none
              ∙ dead_stays nothing_changes of.world (Deliver number) message (ap taking there) dead

          alone : Leaves of.world (delivery number ∷ []) of.left left
          alone = subst (λ (l : List Command). Leaves of.world (lines_done (length of.world.messages) of.world (Deliver number ∷ l)) of.left left) none leaves

          left_is : left ≡ of.left
          left_is = alone.2 ∙ leaves_same nothing_changes of.world (Deliver number) message (ap taking there) dead of.left alone.0 fit.wants fit.met alone.1

      -- more follows, and the other has a dead message too
      with_dead : is_dead_in of.world message ≡ true → (not (length act.commands == 0)) ≡ true → Covers question by (led (Some number) left)
      with_dead dead more =
          let goes : list_any goes_on question.acts ≡ true =
          some_any goes_on question.acts act (get_in question.acts place act act_there) (and_from act.any_message (not (length act.commands == 0)) (sym any) more) in
          let has : has_dead of.world ≡ true = some_any (is_dead_in of.world) of.world.messages message (get_in of.world.messages number message there) dead in
          let found : (m : Message) × In m by.world.messages × (is_dead_in by.world m ≡ true) = any_is (is_dead_in by.world) by.world.messages (covered.dead goes has) in
          let at : (n : ℕ) × (slice_get by.world.messages n ≡ Some found.0) = place_of found.0 by.world.messages found.1 in
          with_message (Some number) (Some at.0) left any (slice_get_within by.world.messages at.0 found.0 at.1)
          (dead_goes nothing_changes of.world by.world fit.settled covered.worlds act.commands lines_lawful number at.0 message found.0 there at.1 dead found.2) leaves

      by_lines : (commands : List Command) → act.commands ≡ commands → is_dead_in of.world message ≡ true → Covers question by (led (Some number) left)
      by_lines [] is dead = with_nothing dead is
      by_lines (command ∷ commands) is dead = with_dead dead (ap (λ (l : List Command). not (length l == 0)) is ∙ ap not (ne_eqb (length (command ∷ commands)) 0 (λ none. omega (arith, none))))

      by_dead : (dead : Bool) → is_dead_in of.world message ≡ dead → Covers question by (led (Some number) left)
      by_dead true dead = by_lines act.commands refl dead
      by_dead false alive = with_alive alive

  by_message : (message : Option ℕ) (left : List Want) → MayDo question of.world of.used (doing message) act → Leaves of.world (act_done of.world act message) of.left left → Covers question by (led message left)
  by_message None left may leaves = with_message may.limit may.there None None left may.begins tt
      (go_over of.world by.world _ _ fit.settled covered.worlds
      (lines_same (length of.world.messages) (length by.world.messages) of.world by.world act.commands fit.settled covered.worlds (begun_alike of.world by.world) (lines_lawful may.limit may.there))) leaves
  by_message (Some number) left may leaves =
      let found : (m : Message) × (slice_get of.world.messages number ≡ Some m) = message_at of.world.messages number may.sent in
      by_dead may.limit may.there number found.0 found.1 may.begins left leaves (is_dead_in of.world found.0) refl

fit_after : (question : Question) (of new : Standing) → IsFit of → LeadsTo question of new → IsFit new
fit_after question of new fit leads = record {
  settled = subst AreSettled (sym leads.world) (lines_settled (length of.world.messages) of.world (lines_of leads.act leads.doing.message) fit.settled);
  wants = all_lawful of.world events of.left new.left fit.wants leads.left;
  met = subst (λ (w : World). unseen w new.left ≡ new.left) (sym leads.world) (all_met of.world events of.left new.left fit.met leads.left);
}
  where
    events : List Event
    events = act_done of.world leads.act leads.doing.message

pub acts_covered : DeadMessagesChangeNothing → ActsAreCovered
acts_covered nothing_changes question of new by lawful fit covered leads = (
  fit_after question of new fit leads,
  subst (λ (s : Standing). Covers question by s) (sym same)
      (by_message nothing_changes question of by lawful fit covered leads.doing.act leads.act leads.doing.message new.left leads.may leads.left),
)
  where
    same : new ≡ record { world = world_after of.world (act_done of.world leads.act leads.doing.message); used = used_more of.used leads.doing.act; left = new.left }
    same = λ i. record { world = leads.world i; used = leads.used i; left = new.left }
