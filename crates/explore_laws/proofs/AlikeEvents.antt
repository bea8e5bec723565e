-- One event in two worlds that are alike, and in one world: what is dead and what is settled stays so.
use Rattle.std.proofs.Common.{◌≡◌, ◌∙◌, inl, inr, ap, sym, subst, refl, arith, ℕ, zero, suc, Bool, true, false, ◌+◌, Option, None, Some, List, [], ◌∷◌, ◌++◌, append-nil, length, slice_get, take, fold, All}
use Rattle.std.proofs.lemmas.Bool.{or_left, or_right}
use Rattle.std.proofs.lemmas.List.Elements.{All-tail}
use Rattle.std.proofs.lemmas.Option.{same_Some}
use Rattle.std.specs.List.{list_any}
use Rattle.std.specs.Prelude.{option_and_then}
use Rattle.commit_machine.proofs.Growth.{any_is, in_append, in_left, in_right}
use Rattle.member_config.specs.Config.{first_config}
use Rattle.member_config.specs.declared.config.Config.{Config}
use Rattle.repl_msg.specs.declared.message.Message.{Message}
use Rattle.rs_optime.specs.Membership.{In}
use Rattle.set_model.specs.declared.command.Command.{Command}
use Rattle.set_model.specs.declared.command.Command.TheVariants.{Deliver, DeliverLatest}
use Rattle.set_model.specs.declared.command.Event.{Event}
use Rattle.set_model.specs.declared.reply.Refusal.TheVariants.{NoSuchMessage}
use Rattle.set_model.specs.declared.reply.Reply.TheVariants.{Refused}
use Rattle.set_model.specs.Node.{Node, opening_node}
use Rattle.set_model.specs.Outcome.{Outcome}
use Rattle.set_model.specs.Rows.{row}
use Rattle.set_model.specs.Run.{Run, after, opening}
use Rattle.set_model.specs.Stores.{Plan, done}
use Rattle.set_model.specs.World.{Step, Task, World, acts, actor, by_plan, is_delivery, latest_between, nodes_from, nothing, plan_of, step, takes, taking, task, touched_node, with_outcome}
use Rattle.explore_laws.specs.Alike.{AlikeNodes, AlikeWorlds, unnumbered}
use Rattle.explore_laws.specs.Dead.{is_dead_in}
use Rattle.explore_laws.specs.Laws.{AlikeWorldsStayAlike, AreSame, DeadMessagesComeInBoth, DeadMessagesStayDead, GoOnAlike, NodesAreSettled, NodesStaySettled}
use Rattle.explore_laws.specs.Settled.{AreSettled, IsSettled}
use Rattle.explore_laws.specs.Steps.{GoAlike, PlansGoAlike}
use Rattle.explore_laws.proofs.AlikeBodies.{messages_go_alike}
use Rattle.explore_laws.proofs.AlikeRows.{commands_go_alike}
use Rattle.explore_laws.proofs.AlikeWorlds.{at_after, both_there, dead_after, dead_in_alike, neither_there, worlds_after}

-- ---- what an event comes to, by its task

module _ (world : World) (event : Event) where
  abbrev pub unfit : Step
  unfit = record { reply = Refused NoSuchMessage; world = world }

  abbrev by : Task → Node → Option Plan
  by what node = plan_of world event what node

  pub step_at : (what : Task) → task world event.command ≡ what → (node : Node) → slice_get world.nodes (actor what) ≡ Some node
      → (plan : Plan) → by what node ≡ Some plan → step world event ≡ with_outcome world (actor what) (done plan event.failed)
  step_at what is node there plan plan_is =
      subst (λ w. slice_get world.nodes (actor w) ≡ Some node → by w node ≡ Some plan → step world event ≡ with_outcome world (actor w) (done plan event.failed)) is at_own there plan_is
    where
      own : Task
      own = task world event.command

      at_own : slice_get world.nodes (actor own) ≡ Some node → by own node ≡ Some plan → step world event ≡ with_outcome world (actor own) (done plan event.failed)
      at_own there_too is_too = ap (λ (found : Option Node). by_plan world event (option_and_then (by own) found)) there_too ∙ ap (by_plan world event) is_too

  pub step_whole : event.failed ≡ None → (what : Task) → task world event.command ≡ what → (node : Node) → slice_get world.nodes (actor what) ≡ Some node
      → (plan : Plan) → by what node ≡ Some plan → step world event ≡ with_outcome world (actor what) (done plan None)
  step_whole whole what is node there plan plan_is = step_at what is node there plan plan_is ∙ ap (λ (f : Option ℕ). with_outcome world (actor what) (done plan f)) whole

  pub step_nowhere : (what : Task) → task world event.command ≡ what → slice_get world.nodes (actor what) ≡ None → step world event ≡ unfit
  step_nowhere what is none = ap (λ (found : Option Node). by_plan world event (option_and_then (by (task world event.command)) found)) (ap (λ w. slice_get world.nodes (actor w)) is ∙ none)

  pub step_nothing : task world event.command ≡ nothing → step world event ≡ unfit
  step_nothing is = ap (by_plan world event) (no_plan (slice_get world.nodes (touched_node world event.command)))
    where
      no_plan : (found : Option Node) → option_and_then (by (task world event.command)) found ≡ None
      no_plan None = refl
      no_plan (Some node) = ap (λ w. by w node) is

-- a command that a node does by itself is no delivery
pub no_delivery : (world : World) (command : Command) (number : ℕ) → task world command ≡ acts number → is_delivery command ≡ false
no_delivery world (Deliver message) number is = absurd (not_taken (slice_get world.messages message) is)
  where
    not_taken : (found : Option Message) → taking found ≡ acts number → ⊥
    not_taken None is_too = cc is_too
    not_taken (Some taken) is_too = cc is_too
no_delivery world (DeliverLatest from to) number is = absurd (not_taken (latest_between world.messages from to) is)
  where
    not_taken : (found : Option Message) → taking found ≡ acts number → ⊥
    not_taken None is_too = cc is_too
    not_taken (Some taken) is_too = cc is_too
no_delivery world command number is = refl

-- ---- two worlds

-- what an event comes to in both, and what stays in the first
pub record AreDone (one two : World) (first second : Event) : Type 0 where
  pub on : GoOnAlike one two first second
  pub settled : AreSettled (step one first).world
  pub dead : (message : Message) → is_dead_in one message ≡ true → is_dead_in (step one first).world message ≡ true

module _ (one two : World) (first second : Event) (settled : AreSettled one) (alike : AlikeWorlds one two) (same : AreSame one two first second) where
  -- nothing is done in either
  unfit_done : step one first ≡ unfit one first → step two second ≡ unfit two second → AreDone one two first second
  unfit_done first_is second_is = record {
    on = record {
      replies = ap (λ (s : Step). unnumbered s.reply) first_is ∙ sym (ap (λ (s : Step). unnumbered s.reply) second_is);
      worlds = subst (λ (s : Step). AlikeWorlds s.world (step two second).world) (sym first_is) (subst (λ (s : Step). AlikeWorlds one s.world) (sym second_is) alike);
      sent = [];
      first_sent = ap (λ (s : Step). s.world.messages) first_is ∙ sym (append-nil one.messages);
      second_sent = ap (λ (s : Step). s.world.messages) second_is ∙ sym (append-nil two.messages);
    };
    settled = subst (λ (s : Step). AreSettled s.world) (sym first_is) settled;
    dead = λ message dead. ap (λ (s : Step). is_dead_in s.world message) first_is ∙ dead;
  }

  -- one node goes on in each
  node_done : (number : ℕ) (a b : Node) (go_one go_two : Outcome) → slice_get one.nodes number ≡ Some a → slice_get two.nodes number ≡ Some b → GoAlike a go_one go_two
      → step one first ≡ with_outcome one number go_one → step two second ≡ with_outcome two number go_two → AreDone one two first second
  node_done number a b go_one go_two a_there b_there go first_is second_is = record {
    on = record {
      replies = ap (λ (s : Step). unnumbered s.reply) first_is ∙ go.replies ∙ sym (ap (λ (s : Step). unnumbered s.reply) second_is);
      worlds = subst (λ (s : Step). AlikeWorlds s.world (step two second).world) (sym first_is)
          (subst (λ (s : Step). AlikeWorlds (with_outcome one number go_one).world s.world) (sym second_is) (worlds_after one two alike number a b go_one go_two a_there b_there go));
      sent = go_one.sent;
      first_sent = ap (λ (s : Step). s.world.messages) first_is;
      second_sent = ap (λ (s : Step). s.world.messages) second_is ∙ ap (λ (l : List Message). two.messages ++ l) (sym go.sent);
    };
    settled = subst (λ (s : Step). AreSettled s.world) (sym first_is) (at_after IsSettled one number a go_one a_there go.settled settled);
    dead = λ message dead. ap (λ (s : Step). is_dead_in s.world message) first_is ∙ dead_after one number a go_one a_there go.rises message dead;
  }

  -- by its task, which is the same in both
  task_done : (what : Task) → task one first.command ≡ what → AreDone one two first second
  task_done what is = at_node (slice_get one.nodes (actor what)) refl
    where
      is_too : task two second.command ≡ what
      is_too = sym same.task ∙ is

      plans : (w : Task) → w ≡ what → (a b : Node) → slice_get one.nodes (actor w) ≡ Some a → slice_get two.nodes (actor w) ≡ Some b → AreDone one two first second
      plans (acts number) w_is a b a_there b_there =
          node_done number a b _ _ a_there b_there
          (subst (λ k. PlansGoAlike a (row (length one.nodes) (length one.messages) first.kept a first.command) (row k (length two.messages) second.kept b second.command)) alike.count
          (subst (λ (c : Command). PlansGoAlike a (row (length one.nodes) (length one.messages) first.kept a first.command) (row (length one.nodes) (length two.messages) second.kept b c))
          (same.command (no_delivery one first.command number (is ∙ sym w_is)))
          (commands_go_alike (length one.nodes) (length one.messages) (length two.messages) first.kept second.kept a b first.command (settled number a a_there) (alike.nodes number a b a_there b_there))))
          (step_whole one first same.first_whole (acts number) (is ∙ sym w_is) a a_there _ refl)
          (step_whole two second same.second_whole (acts number) (is_too ∙ sym w_is) b b_there _ refl)
      plans (takes message) w_is a b a_there b_there =
          node_done message.to a b _ _ a_there b_there
          (messages_go_alike (length one.messages) (length two.messages) a b message (settled message.to a a_there) (alike.nodes message.to a b a_there b_there))
          (step_whole one first same.first_whole (takes message) (is ∙ sym w_is) a a_there _ refl)
          (step_whole two second same.second_whole (takes message) (is_too ∙ sym w_is) b b_there _ refl)
      plans nothing w_is a b a_there b_there = unfit_done (step_nothing one first (is ∙ sym w_is)) (step_nothing two second (is_too ∙ sym w_is))

      at_node : (found : Option Node) → slice_get one.nodes (actor what) ≡ found → AreDone one two first second
      at_node None none = unfit_done (step_nowhere one first what is none) (step_nowhere two second what is_too (neither_there one.nodes two.nodes (actor what) alike.count none))
      at_node (Some a) there =
          let other : (b : Node) × (slice_get two.nodes (actor what) ≡ Some b) = both_there one.nodes two.nodes (actor what) a alike.count there in
          plans what refl a other.0 there other.1

  pub are_done : AreDone one two first second
  are_done = task_done (task one first.command) refl

pub worlds_stay_alike : AlikeWorldsStayAlike
worlds_stay_alike one two first second settled alike same = (are_done one two first second settled alike same).on

-- ---- one world

pub alike_itself : (world : World) → AlikeWorlds world world
alike_itself world = record {
  count = refl;
  nodes = λ number a b a_there b_there. subst (λ n. AlikeNodes a n) (same_Some a b (sym a_there ∙ b_there)) (record { others = refl; records = record { vote = refl; config = refl; entries = refl; point = refl }; tally = λ is. refl });
  there = λ message sent alive. sent;
  back = λ message sent alive. sent;
}

pub done_itself : (world : World) (event : Event) → AreSettled world → event.failed ≡ None → AreDone world world event event
done_itself world event settled whole =
    are_done world world event event settled (alike_itself world) (record { task = refl; command = λ is. refl; first_whole = whole; second_whole = whole })

pub dead_stay_dead : DeadMessagesStayDead
dead_stay_dead world event message settled whole dead = (done_itself world event settled whole).dead message dead

pub stay_settled : NodesStaySettled
stay_settled world event whole settled = (done_itself world event settled whole).settled

-- ---- runs

opening_settled : (first : Config) (from count number : ℕ) (node : Node) → slice_get (nodes_from first from count) number ≡ Some node → IsSettled node
opening_settled first from zero number node there = absurd (cc there)
opening_settled first from (suc count) zero node there = subst (λ (n : Node). IsSettled n) (same_Some (opening_node first from) node there) (record { doubt = refl; term = λ is. refl })
opening_settled first from (suc count) (suc number) node there = opening_settled first (from + 1) count number node there

settled_from : (start : Run) (events : List Event) (place : ℕ) → All (λ event. event.failed ≡ None) events → AreSettled start.world → AreSettled (fold after start (take place events)).world
settled_from start events zero whole settled = settled
settled_from start [] (suc place) whole settled = settled
settled_from start (event ∷ events) (suc place) whole settled =
    settled_from (after start event) events place (All-tail (λ e. e.failed ≡ None) event events whole)
    (stay_settled start.world event (whole zero event (omega arith)) settled)

pub are_settled : NodesAreSettled
are_settled sizes events place whole = settled_from (opening sizes) events place whole (λ number node there. opening_settled (first_config sizes.voters sizes.members) 0 sizes.nodes number node there)

-- ---- a dead message in both

pub some_any : {A : Type 0} (test : A → Bool) (xs : List A) (x : A) → In x xs → test x ≡ true → list_any test xs ≡ true
some_any test [] x there is = absurd there
some_any test (y ∷ ys) x (inl same) is = or_left (test y) _ (ap test same ∙ is)
some_any test (y ∷ ys) x (inr there) is = or_right (test y) _ (some_any test ys x there is)

-- where the tests go from `one` to `later_one`, and from `two` to `later_two`
module _ (one two later_one later_two : Message → Bool) (xs ys sent : List Message)
    (live : (message : Message) → In message xs → one message ≡ false → In message ys)
    (both : list_any one xs ≡ true → list_any two ys ≡ true)
    (stays : (message : Message) → two message ≡ true → later_two message ≡ true)
    (same : (message : Message) → later_one message ≡ true → later_two message ≡ true) where
  goes_over : list_any later_one (xs ++ sent) ≡ true → list_any later_two (ys ++ sent) ≡ true
  goes_over is = by (any_is later_one (xs ++ sent) is)
    where
      old : (message : Message) → In message xs → later_one message ≡ true → (dead : Bool) → one message ≡ dead → list_any later_two (ys ++ sent) ≡ true
      old message there later true dead =
          let found : (m : Message) × In m ys × (two m ≡ true) = any_is two ys (both (some_any one xs message there dead)) in
          some_any later_two (ys ++ sent) found.0 (in_left found.0 ys sent found.1) (stays found.0 found.2)
      old message there later false alive = some_any later_two (ys ++ sent) message (in_left message ys sent (live message there alive)) (same message later)

      by : (message : Message) × In message (xs ++ sent) × (later_one message ≡ true) → list_any later_two (ys ++ sent) ≡ true
      by found = elim (in_append found.0 xs sent found.1) [
        | inl before ↦ old found.0 before found.2 (one found.0) refl
        | inr new ↦ some_any later_two (ys ++ sent) found.0 (in_right found.0 ys sent new) (same found.0 found.2)
      ]

pub dead_in_both : DeadMessagesComeInBoth
dead_in_both one two first second settled alike same given is =
    ap (list_any later_two) on.second_sent
    ∙ goes_over (is_dead_in one) (is_dead_in two) later_one later_two one.messages two.messages on.sent alike.there given
    (λ message dead. sym (over message) ∙ done.dead message (dead_in_alike one two alike message ∙ dead)) (λ message dead. sym (over message) ∙ dead)
    (sym (ap (list_any later_one) on.first_sent) ∙ is)
  where
    done : AreDone one two first second
    done = are_done one two first second settled alike same

    on : GoOnAlike one two first second
    on = done.on

    later_one : Message → Bool
    later_one = is_dead_in (step one first).world

    later_two : Message → Bool
    later_two = is_dead_in (step two second).world

    over : (message : Message) → later_one message ≡ later_two message
    over = dead_in_alike (step one first).world (step two second).world on.worlds
