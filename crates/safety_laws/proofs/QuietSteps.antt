-- What an event leaves of the world, by its reply.
use Rattle.std.proofs.Common.{◌≡◌, ◌∙◌, ◌⊎◌, ⊎_elim, inl, inr, ap, ap₂, sym, subst, refl, append_assoc, append-nil, ℕ, zero, suc, ◌≤◌, ◌<◌, arith, ltb-true, nat_lt, Bool, true, false, not, ◌&&◌, Option, None, Some, if◌then◌else◌, slice_get, slice_set, List, [], ◌∷◌, ◌++◌, length}
use Rattle.std.specs.Prelude.{option_and_then}
use Rattle.std.proofs.lemmas.Option.{same_Some}
use Rattle.repl_msg.specs.declared.message.Message.{Message}
use Rattle.set_model.specs.declared.command.Command.{Command}
use Rattle.set_model.specs.declared.command.Event.{Event}
use Rattle.set_model.specs.declared.reply.Ignored.{Ignored}
use Rattle.set_model.specs.declared.reply.Refusal.TheVariants.{DiskFailed, NodeDown, NoSuchMessage}
use Rattle.set_model.specs.declared.reply.Reply.{Reply}
use Rattle.set_model.specs.declared.reply.Reply.TheVariants as reply
use Rattle.set_model.specs.declared.store.Store.{Store}
use Rattle.set_model.specs.Changes.{in_new_term}
use Rattle.set_model.specs.Deliver.{brings_term, deliver}
use Rattle.set_model.specs.Disk.{settled_doubt}
use Rattle.set_model.specs.Limits.{is_restart}
use Rattle.set_model.specs.Node.{Node}
use Rattle.set_model.specs.Outcome.{Outcome, refused}
use Rattle.set_model.specs.Rows.{row}
use Rattle.set_model.specs.Sessions.{last_write}
use Rattle.set_model.specs.Stores.{Plan, done, finished, if_up, in_doubt, stored, storing, vote_record}
use Rattle.set_model.specs.World.{World, Step, Task, acts, actor, by_plan, nothing, plan_of, step, takes, task, touched_node, with_outcome}
use Rattle.set_model.specs.Write.{retry}
use Rattle.safety_laws.specs.Quiet.{BreaksOff, FailedStoresStop, IgnoredMessagesBringTerms, IsCutOff, IsHanded, IsStopped, QuestionsChangeNothing, QuietRepliesChangeNothing, RefusedVotesChangeNoNode, RetriesChangeNothing, Stays, is_disk_failure, is_question, is_quiet, unfailed, with_stores, with_term_of}
use Rattle.safety_laws.proofs.QuietDelivers.{deliver_tame, unvoted_stays}
use Rattle.safety_laws.proofs.QuietRows.{AreAnswers, AreTame, IsLoud, IsTameRow, Opens, Owes, fails, ignores, kind_of, question_answers, retried_still, row_tame, still}

-- ---- plans that are done

still_done : (base : Node) (earlier : List Store) (node : Node) (plan : Plan) (failed : Option ℕ) → AreTame base earlier node plan → kind_of (done plan failed).reply ≡ still
    → ((done plan failed).node ≡ base) × ((done plan failed).sent ≡ [])
still_done base earlier node (finished outcome) failed tame is = subst (Owes base node outcome) is tame.owes
still_done base earlier node (storing broken rest) None tame is = still_done base (earlier ++ tame.0 ∷ []) node rest None tame.2 is
still_done base earlier node (storing broken rest) (Some zero) tame is = absurd (cc is)
still_done base earlier node (storing broken rest) (Some (suc number)) tame is = still_done base (earlier ++ tame.0 ∷ []) node rest (Some number) tame.2 is

ignored_done : (base : Node) (earlier : List Store) (node : Node) (plan : Plan) (failed : Option ℕ) → AreTame base earlier node plan → kind_of (done plan failed).reply ≡ ignores
    → ((done plan failed).node ≡ node) × ((done plan failed).sent ≡ [])
ignored_done base earlier node (finished outcome) failed tame is = subst (Owes base node outcome) is tame.owes
ignored_done base earlier node (storing broken rest) None tame is = ignored_done base (earlier ++ tame.0 ∷ []) node rest None tame.2 is
ignored_done base earlier node (storing broken rest) (Some zero) tame is = absurd (cc is)
ignored_done base earlier node (storing broken rest) (Some (suc number)) tame is = ignored_done base (earlier ++ tame.0 ∷ []) node rest (Some number) tame.2 is

-- ---- a store that fails

-- all that is stored
record IsStored (base : Node) (earlier : List Store) (new : Node) : Type 0 where
  later : List Store
  records : new.records ≡ (with_stores base (earlier ++ later)).records
  stable : new.stable ≡ (with_stores base (earlier ++ later)).stable

all_stored : (base : Node) (earlier : List Store) (node : Node) (plan : Plan) → AreTame base earlier node plan → IsStored base earlier (done plan None).node
all_stored base earlier node (finished outcome) tame = record {
  later = [];
  records = tame.records ∙ ap (λ (l : List Store). (with_stores base l).records) (sym (append-nil earlier));
  stable = tame.stable ∙ ap (λ (l : List Store). (with_stores base l).stable) (sym (append-nil earlier));
}
all_stored base earlier node (storing broken rest) tame =
    let store : Store = tame.0 in
    let more : IsStored base (earlier ++ store ∷ []) (done rest None).node = all_stored base (earlier ++ store ∷ []) node rest tame.2 in
    record {
      later = store ∷ more.later;
      records = more.records ∙ ap (λ (l : List Store). (with_stores base l).records) (append_assoc earlier (store ∷ []) more.later);
      stable = more.stable ∙ ap (λ (l : List Store). (with_stores base l).stable) (append_assoc earlier (store ∷ []) more.later);
    }

record IsCut (base : Node) (earlier : List Store) (plan : Plan) (failed : Option ℕ) : Type 0 where
  number : ℕ
  failed_is : failed ≡ Some number
  before : List Store
  failing : Store
  later : List Store
  count : length before ≡ number
  node_is : (done plan failed).node ≡ in_doubt (with_stores base (earlier ++ before)) failing
  sent : (done plan failed).sent ≡ []
  records : (done plan None).node.records ≡ (with_stores base (earlier ++ (before ++ failing ∷ later))).records
  stable : (done plan None).node.stable ≡ (with_stores base (earlier ++ (before ++ failing ∷ later))).stable

fails_done : (base : Node) (earlier : List Store) (node : Node) (plan : Plan) (failed : Option ℕ) → AreTame base earlier node plan → kind_of (done plan failed).reply ≡ fails → IsCut base earlier plan failed
fails_done base earlier node (finished outcome) failed tame is = absurd (subst (Owes base node outcome) is tame.owes)
fails_done base earlier node (storing broken rest) None tame is =
    absurd (none (fails_done base (earlier ++ tame.0 ∷ []) node rest None tame.2 is))
  where
    none : IsCut base (earlier ++ tame.0 ∷ []) rest None → ⊥
    none cut = cc cut.failed_is
fails_done base earlier node (storing broken rest) (Some zero) tame is =
    let store : Store = tame.0 in
    let all : IsStored base (earlier ++ store ∷ []) (done rest None).node = all_stored base (earlier ++ store ∷ []) node rest tame.2 in
    record {
      number = 0;
      failed_is = refl;
      before = [];
      failing = store;
      later = all.later;
      count = refl;
      node_is = tame.1 ∙ ap (λ (l : List Store). in_doubt (with_stores base l) store) (sym (append-nil earlier));
      sent = refl;
      records = all.records ∙ ap (λ (l : List Store). (with_stores base l).records) (append_assoc earlier (store ∷ []) all.later);
      stable = all.stable ∙ ap (λ (l : List Store). (with_stores base l).stable) (append_assoc earlier (store ∷ []) all.later);
    }
fails_done base earlier node (storing broken rest) (Some (suc number)) tame is =
    let store : Store = tame.0 in
    let cut : IsCut base (earlier ++ store ∷ []) rest (Some number) = fails_done base (earlier ++ store ∷ []) node rest (Some number) tame.2 is in
    record {
      number = suc cut.number;
      failed_is = ap (λ (n : ℕ). Some (suc n)) (same_Some number cut.number cut.failed_is);
      before = store ∷ cut.before;
      failing = cut.failing;
      later = cut.later;
      count = ap suc cut.count;
      node_is = cut.node_is ∙ ap (λ (l : List Store). in_doubt (with_stores base l) cut.failing) (append_assoc earlier (store ∷ []) cut.before);
      sent = cut.sent;
      records = cut.records ∙ ap (λ (l : List Store). (with_stores base l).records) (append_assoc earlier (store ∷ []) (cut.before ++ cut.failing ∷ cut.later));
      stable = cut.stable ∙ ap (λ (l : List Store). (with_stores base l).stable) (append_assoc earlier (store ∷ []) (cut.before ++ cut.failing ∷ cut.later));
    }

cut_off : (base : Node) (plan : Plan) (failed : Option ℕ) (cut : IsCut base [] plan failed) → IsCutOff cut.number base (done plan failed).node (done plan None).node
cut_off base plan failed cut = record {
  earlier = cut.before;
  failing = cut.failing;
  later = cut.later;
  count = cut.count;
  new_is = cut.node_is;
  records = cut.records;
  stable = cut.stable;
}

-- ---- what an event came to

set_same : {A : Type 0} (xs : List A) (n : ℕ) (x : A) → slice_get xs n ≡ Some x → slice_set xs n x ≡ xs
set_same [] n x there = absurd (cc there)
set_same (y ∷ xs) zero x there = ap (λ z. z ∷ xs) (sym (same_Some y x there))
set_same (y ∷ xs) (suc n) x there = ap (λ l. y ∷ l) (set_same xs n x there)

-- nothing is sent
world_with : (world : World) (number : ℕ) (outcome : Outcome) (new : Node) → outcome.node ≡ new → outcome.sent ≡ []
    → (with_outcome world number outcome).world ≡ record world { nodes = slice_set world.nodes number new }
world_with world number outcome new node_is sent = ap₂ left node_is sent ∙ ap (λ (l : List Message). World_of l) (append-nil world.messages)
  where
    left : Node → List Message → World
    left node sent = record { nodes = slice_set world.nodes number node; messages = world.messages ++ sent }

    World_of : List Message → World
    World_of messages = record { nodes = slice_set world.nodes number new; messages = messages }

-- and the node is as it was
world_same : (world : World) (number : ℕ) (outcome : Outcome) (node : Node) → slice_get world.nodes number ≡ Some node → outcome.node ≡ node → outcome.sent ≡ []
    → (with_outcome world number outcome).world ≡ world
world_same world number outcome node there node_is sent =
    world_with world number outcome node node_is sent ∙ ap (λ (l : List Node). record world { nodes = l }) (set_same world.nodes number node there)

module _ (world : World) (event : Event) where
  abbrev place : ℕ
  place = touched_node world event.command

  abbrev IsNothing : Type 0
  IsNothing = step world event ≡ record { reply = reply.Refused NoSuchMessage; world = world }

  record IsDone : Type 0 where
    node : Node
    there : slice_get world.nodes place ≡ Some node
    plan : Plan
    plan_is : plan_of world event (task world event.command) node ≡ Some plan
    step_is : step world event ≡ with_outcome world place (done plan event.failed)
    whole_is : step world (unfailed event) ≡ with_outcome world place (done plan None)

  done_or_none : IsNothing ⊎ IsDone
  done_or_none = at_node (slice_get world.nodes place) refl
    where
      by : Node → Option Plan
      by node = plan_of world event (task world event.command) node

      by_whole : Node → Option Plan
      by_whole node = plan_of world (unfailed event) (task world event.command) node

      same_plan : (what : Task) (node : Node) → plan_of world (unfailed event) what node ≡ plan_of world event what node
      same_plan (acts number) node = refl
      same_plan (takes message) node = refl
      same_plan nothing node = refl

      at_plan : (node : Node) → slice_get world.nodes place ≡ Some node → (found : Option Plan) → by node ≡ found → IsNothing ⊎ IsDone
      at_plan node there None is = inl (ap (λ (o : Option Node). by_plan world event (option_and_then by o)) there ∙ ap (by_plan world event) is)
      at_plan node there (Some plan) is = inr (record {
        node = node;
        there = there;
        plan = plan;
        plan_is = is;
        step_is = ap (λ (o : Option Node). by_plan world event (option_and_then by o)) there ∙ ap (by_plan world event) is;
        whole_is = ap (λ (o : Option Node). by_plan world (unfailed event) (option_and_then by_whole o)) there ∙ ap (by_plan world (unfailed event)) (same_plan (task world event.command) node ∙ is);
      })

      at_node : (found : Option Node) → slice_get world.nodes place ≡ found → IsNothing ⊎ IsDone
      at_node None is = inl (ap (λ (o : Option Node). by_plan world event (option_and_then by o)) is)
      at_node (Some node) is = at_plan node is (by node) refl

  -- which node, and of which row
  abbrev IsOfRow : Node → Plan → Type 0
  IsOfRow node plan = IsTameRow (is_restart event.command) event.kept node plan ⊎ ((last : Node) × (is_restart event.command ≡ false) × AreTame node [] last plan)

  no_restart : (message : Message) (command : Command) → task world command ≡ takes message → is_restart command ≡ false
  no_restart message (Command.Deliver number) is = refl
  no_restart message (Command.DeliverLatest from to) is = refl
  no_restart message command is = absurd (cc is)

  row_of : (node : Node) (plan : Plan) → plan_of world event (task world event.command) node ≡ Some plan → IsOfRow node plan
  row_of node plan is = by_task (task world event.command) refl is
    where
      by_task : (what : Task) → task world event.command ≡ what → plan_of world event what node ≡ Some plan → IsOfRow node plan
      by_task (acts number) what is =
          inl (subst (λ (p : Plan). IsTameRow (is_restart event.command) event.kept node p) (same_Some _ plan is) (row_tame (length world.nodes) (length world.messages) event.kept node event.command))
      by_task (takes message) what is =
          inr (
            with_term_of message node,
            no_restart message event.command what,
            subst (λ (p : Plan). AreTame node [] (with_term_of message node) p) (same_Some _ plan is) (deliver_tame (length world.messages) node message),
          )
      by_task nothing what is = absurd (cc is)

  stays_of : (at : IsDone) → ((done at.plan event.failed).node ≡ at.node) × ((done at.plan event.failed).sent ≡ []) → Stays world event
  stays_of at same = ap (λ (s : Step). s.world) at.step_is ∙ world_same world place (done at.plan event.failed) at.node at.there same.0 same.1

  reply_of : (at : IsDone) (P : Reply → Type 0) → P (step world event).reply → P (done at.plan event.failed).reply
  reply_of at P holds = subst (λ (s : Step). P s.reply) at.step_is holds

  -- ---- a quiet reply

  still_row : (node : Node) (plan : Plan) → kind_of (done plan event.failed).reply ≡ still → IsOfRow node plan → ((done plan event.failed).node ≡ node) × ((done plan event.failed).sent ≡ [])
  still_row node plan is (inr (last, none, tame)) = still_done node [] last plan event.failed tame is
  still_row node plan is (inl row) = by (is_restart event.command) row
    where
      opened : Opens event.kept node plan → ⊥
      opened opens = by_failed event.failed (subst (λ (p : Plan). kind_of (done p event.failed).reply ≡ still) opens.plan_is is)
        where
          by_failed : (failed : Option ℕ) → kind_of (done (storing node opens.rest) failed).reply ≡ still → ⊥
          by_failed None is = subst IsLoud is (opens.tells None)
          by_failed (Some zero) is = cc is
          by_failed (Some (suc number)) is = subst IsLoud is (opens.tells (Some number))

      by : (restart : Bool) → IsTameRow restart event.kept node plan → ((done plan event.failed).node ≡ node) × ((done plan event.failed).sent ≡ [])
      by false tame = still_done node [] node plan event.failed tame is
      by true (inl up) = subst (λ (p : Plan). ((done p event.failed).node ≡ node) × ((done p event.failed).sent ≡ [])) (sym up) (refl, refl)
      by true (inr opens) = absurd (opened opens)

  -- ---- a store that failed

  breaks : (at : IsDone) (number : ℕ) → event.failed ≡ Some number → (done at.plan event.failed).sent ≡ [] → (done at.plan event.failed).node.up ≡ false
      → IsStopped (is_restart event.command) number event.kept at.node (done at.plan event.failed).node (done at.plan None).node → BreaksOff world event
  breaks at number failed_is sent down stopped = record {
    number = number;
    fails = failed_is;
    old = at.node;
    there = at.there;
    new = (done at.plan event.failed).node;
    whole = (done at.plan None).node;
    whole_is = ap (λ (s : Step). s.world.nodes) at.whole_is;
    down = down;
    stopped = stopped;
    left = ap (λ (s : Step). s.world) at.step_is ∙ world_with world place (done at.plan event.failed) (done at.plan event.failed).node refl sent;
  }

  cut_breaks : (at : IsDone) → is_restart event.command ≡ false → IsCut at.node [] at.plan event.failed → BreaksOff world event
  cut_breaks at none cut = breaks at cut.number cut.failed_is cut.sent (ap (λ (n : Node). n.up) cut.node_is)
      (subst (λ (b : Bool). IsStopped b cut.number event.kept at.node (done at.plan event.failed).node (done at.plan None).node) (sym none) (cut_off at.node at.plan event.failed cut))

  -- a restart of a node that is down
  opened_breaks : (at : IsDone) → is_restart event.command ≡ true → Opens event.kept at.node at.plan → kind_of (done at.plan event.failed).reply ≡ fails → BreaksOff world event
  opened_breaks at restart opens is = by_failed event.failed refl
    where
      before : Node
      before = settled_doubt at.node at.node.doubt event.kept

      after : (failed : Option ℕ) → event.failed ≡ failed → done at.plan event.failed ≡ done (storing at.node opens.rest) failed
      after failed failed_is = ap (λ (p : Plan). done p event.failed) opens.plan_is ∙ ap (done (storing at.node opens.rest)) failed_is

      none : IsCut before [] opens.rest None → ⊥
      none cut = cc cut.failed_is

      whole_is : (done at.plan None).node ≡ (done opens.rest None).node
      whole_is = ap (λ (p : Plan). (done p None).node) opens.plan_is

      by_failed : (failed : Option ℕ) → event.failed ≡ failed → BreaksOff world event
      by_failed None failed_is =
          absurd (none (fails_done before [] before opens.rest None opens.tame (subst (λ (o : Outcome). kind_of o.reply ≡ fails) (after None failed_is) is)))
      by_failed (Some zero) failed_is =
          let same : done at.plan event.failed ≡ refused DiskFailed at.node = after (Some zero) failed_is in
          breaks at 0 failed_is (ap (λ (o : Outcome). o.sent) same) (ap (λ (o : Outcome). o.node.up) same ∙ opens.down)
          (subst (λ (b : Bool). IsStopped b 0 event.kept at.node (done at.plan event.failed).node (done at.plan None).node) (sym restart) (ap (λ (o : Outcome). o.node) same))
      by_failed (Some (suc number)) failed_is =
          let same : done at.plan event.failed ≡ done opens.rest (Some number) = after (Some (suc number)) failed_is in
          let cut : IsCut before [] opens.rest (Some number) = fails_done before [] before opens.rest (Some number) opens.tame (subst (λ (o : Outcome). kind_of o.reply ≡ fails) same is) in
          let count : cut.number ≡ number = sym (same_Some number cut.number cut.failed_is) in
          breaks at (suc number) failed_is (ap (λ (o : Outcome). o.sent) same ∙ cut.sent) (ap (λ (o : Outcome). o.node.up) same ∙ ap (λ (n : Node). n.up) cut.node_is)
          (subst (λ (b : Bool). IsStopped b (suc number) event.kept at.node (done at.plan event.failed).node (done at.plan None).node) (sym restart)
          (subst (λ (n : ℕ). IsCutOff n before (done at.plan event.failed).node (done at.plan None).node) count
          (subst (λ (whole : Node). IsCutOff cut.number before (done at.plan event.failed).node whole) (sym whole_is)
          (subst (λ (o : Outcome). IsCutOff cut.number before o.node (done opens.rest None).node) (sym same) (cut_off before opens.rest (Some number) cut)))))

  broken_row : (at : IsDone) → kind_of (done at.plan event.failed).reply ≡ fails → IsOfRow at.node at.plan → BreaksOff world event
  broken_row at is (inr (last, none, tame)) = cut_breaks at none (fails_done at.node [] last at.plan event.failed tame is)
  broken_row at is (inl row) = by (is_restart event.command) refl row
    where
      by : (restart : Bool) → is_restart event.command ≡ restart → IsTameRow restart event.kept at.node at.plan → BreaksOff world event
      by false none tame = cut_breaks at none (fails_done at.node [] at.node at.plan event.failed tame is)
      by true restart (inl up) = absurd (no_failure (subst (λ (p : Plan). kind_of (done p event.failed).reply ≡ fails) up is))
        where
          no_failure : still ≡ fails → ⊥
          no_failure is = cc is
      by true restart (inr opens) = opened_breaks at restart opens is

-- ---- the laws

still_of : (answer : Reply) → is_quiet answer ≡ true → kind_of answer ≡ still
still_of (reply.Refused reason) is = by (is_disk_failure reason) is
  where
    by : (b : Bool) → not b ≡ true → (if b then fails else still) ≡ still
    by true is = absurd (cc is)
    by false is = refl
still_of (reply.Acked at) is = refl
still_of (reply.Found document) is = refl
still_of reply.Missing is = refl
still_of (reply.Documents documents) is = refl
still_of (reply.Rolled documents) is = refl
still_of (reply.Entries entries) is = refl
still_of (reply.State role term vote last durable applied commit config rollback) is = refl
still_of reply.NoMatch is = refl
still_of reply.Unchanged is = refl
still_of (reply.VoteRefused reason) is = refl
still_of reply.Armed is = refl
still_of answer is = absurd (cc is)

pub quiet_law : QuietRepliesChangeNothing
quiet_law world event quiet = ⊎_elim
    (λ none. ap (λ (s : Step). s.world) none)
    (λ at. stays_of world event at (still_row world event at.node at.plan
    (reply_of world event at (λ answer. kind_of answer ≡ still) (still_of (step world event).reply quiet)) (row_of world event at.node at.plan at.plan_is)))
    (done_or_none world event)

asks_itself : (world : World) (command : Command) → is_question command ≡ true → (number : ℕ) × (task world command ≡ acts number)
asks_itself world (Command.Ack number target concern) is = (number, refl)
asks_itself world (Command.Read number level collection id) is = (number, refl)
asks_itself world (Command.Dump number level) is = (number, refl)
asks_itself world (Command.Log number) is = (number, refl)
asks_itself world (Command.State number) is = (number, refl)
asks_itself world (Command.Rolled number) is = (number, refl)
asks_itself world command is = absurd (cc is)

-- the plan of a command of the node's own
own_plan : (world : World) (event : Event) (node : Node) (plan : Plan) (number : ℕ) → plan_of world event (task world event.command) node ≡ Some plan → task world event.command ≡ acts number
    → row (length world.nodes) (length world.messages) event.kept node event.command ≡ plan
own_plan world event node plan number is what = same_Some _ plan (subst (λ (t : Task). plan_of world event t node ≡ Some plan) what is)

answers_done : (node : Node) (plan : Plan) (failed : Option ℕ) → AreAnswers node plan → ((done plan failed).node ≡ node) × ((done plan failed).sent ≡ [])
answers_done node (finished outcome) failed answer = (answer.node_is, answer.sent)
answers_done node (storing broken rest) failed answer = absurd answer

pub question_law : QuestionsChangeNothing
question_law world event asks = ⊎_elim
    (λ none. ap (λ (s : Step). s.world) none)
    (λ at.
    let own : (number : ℕ) × (task world event.command ≡ acts number) = asks_itself world event.command asks in
    stays_of world event at (answers_done at.node at.plan event.failed
    (subst (λ (p : Plan). AreAnswers at.node p) (own_plan world event at.node at.plan own.0 at.plan_is own.1)
    (question_answers (length world.nodes) (length world.messages) event.kept at.node event.command asks))))
    (done_or_none world event)

up_same : (node : Node) (outcome : Outcome) (failed : Option ℕ) → (outcome.node ≡ node) × (outcome.sent ≡ [])
    → ((done (if_up node (finished outcome)) failed).node ≡ node) × ((done (if_up node (finished outcome)) failed).sent ≡ [])
up_same node outcome failed same = by node.up
  where
    by : (up : Bool) → ((done (if up then finished outcome else finished (refused NodeDown node)) failed).node ≡ node) × ((done (if up then finished outcome else finished (refused NodeDown node)) failed).sent ≡ [])
    by true = same
    by false = (refl, refl)

pub retry_law : RetriesChangeNothing
retry_law world event number session op node last command_is there has within = ⊎_elim
    (λ none. ap (λ (s : Step). s.world) none)
    (λ at.
    let what : task world event.command ≡ acts number = ap (task world) command_is in
    let same : at.node ≡ node = same_Some at.node node (sym at.there ∙ ap (slice_get world.nodes) (ap actor what) ∙ there) in
    let plan_is : if_up at.node (finished (retry at.node session op)) ≡ at.plan =
    ap (λ (c : Command). row (length world.nodes) (length world.messages) event.kept at.node c) (sym command_is)
    ∙ own_plan world event at.node at.plan number at.plan_is what in
    stays_of world event at (subst (λ (p : Plan). ((done p event.failed).node ≡ at.node) × ((done p event.failed).sent ≡ [])) plan_is
    (up_same at.node (retry at.node session op) event.failed
    (retried_still at.node session op last (ap (λ (n : Node). last_write session.id n.log) same ∙ has) within))))
    (done_or_none world event)

-- ---- messages

-- the node that a message is handed to, and its plan
record IsTaken (world : World) (event : Event) (message : Message) (node : Node) (at : IsDone world event) : Type 0 where
  place_is : touched_node world event.command ≡ message.to
  same : at.node ≡ node
  plan_is : deliver (length world.messages) node message ≡ at.plan

taken_of : (world : World) (event : Event) (message : Message) (node : Node) → IsHanded world event message node → (at : IsDone world event) → IsTaken world event message node at
taken_of world event message node handed at = record {
  place_is = place_is;
  same = same;
  plan_is = subst (λ (n : Node). deliver (length world.messages) n message ≡ at.plan) same
      (same_Some _ at.plan (subst (λ (t : Task). plan_of world event t at.node ≡ Some at.plan) handed.takes_it at.plan_is));
}
  where
    place_is : touched_node world event.command ≡ message.to
    place_is = ap actor handed.takes_it

    same : at.node ≡ node
    same = same_Some at.node node (sym at.there ∙ ap (slice_get world.nodes) place_is ∙ handed.there)

not_told : (world : World) (event : Event) (reason : Ignored) → IsNothing world event → (step world event).reply ≡ reply.Ignored reason → ⊥
not_told world event reason none is = cc (sym (ap (λ (s : Step). s.reply) none) ∙ is)

ignored_term : (world : World) (event : Event) (message : Message) (node : Node) (reason : Ignored) → IsHanded world event message node → (step world event).reply ≡ reply.Ignored reason
    → (step world event).world ≡ record world { nodes = slice_set world.nodes message.to (with_term_of message node) }
ignored_term world event message node reason handed is = ⊎_elim
    (λ none. absurd (not_told world event reason none is))
    (λ at.
    let taken : IsTaken world event message node at = taken_of world event message node handed at in
    let tame : AreTame node [] (with_term_of message node) at.plan = subst (λ (p : Plan). AreTame node [] (with_term_of message node) p) taken.plan_is (deliver_tame (length world.messages) node message) in
    let ends = ignored_done node [] (with_term_of message node) at.plan event.failed tame (ap kind_of (reply_of world event at (λ answer. answer ≡ reply.Ignored reason) is)) in
    ap (λ (s : Step). s.world) at.step_is
    ∙ world_with world (touched_node world event.command) (done at.plan event.failed) (with_term_of message node) ends.0 ends.1
    ∙ ap (λ (n : ℕ). record world { nodes = slice_set world.nodes n (with_term_of message node) }) taken.place_is)
    (done_or_none world event)

no_higher : (message : Message) (node : Node) → message.term ≤ node.term → with_term_of message node ≡ node
no_higher message node within = by (brings_term message.body) (nat_lt node.term message.term) refl
  where
    by : (brings higher : Bool) → nat_lt node.term message.term ≡ higher → (if brings && higher then in_new_term (stored node (vote_record message.term None)) message.term None else node) ≡ node
    by true false is = refl
    by false higher is = refl
    by true true is = let less : node.term < message.term = ltb-true node.term message.term is in absurd (omega (arith, less, within))

pub ignored_law : IgnoredMessagesBringTerms
ignored_law = record {
  term = ignored_term;
  nothing = λ world event message node reason handed is within.
      ignored_term world event message node reason handed is
      ∙ ap (λ (n : Node). record world { nodes = slice_set world.nodes message.to n }) (no_higher message node within)
      ∙ ap (λ (l : List Node). record world { nodes = l }) (set_same world.nodes message.to node handed.there);
}

pub vote_law : RefusedVotesChangeNoNode
vote_law world event message node ask reason handed body_is refused_is within = ⊎_elim
    (λ none. ap (λ (s : Step). s.world.nodes) none)
    (λ at.
    let taken : IsTaken world event message node at = taken_of world event message node handed at in
    let stays : (done at.plan event.failed).node ≡ node = subst (λ (p : Plan). (done p event.failed).node ≡ node) taken.plan_is
    (unvoted_stays (length world.messages) node message ask reason event.failed body_is refused_is within) in
    ap (λ (s : Step). s.world.nodes) at.step_is
    ∙ ap₂ (λ (n : ℕ) (new : Node). slice_set world.nodes n new) taken.place_is stays
    ∙ set_same world.nodes message.to node handed.there)
    (done_or_none world event)

-- ---- a disk that failed

pub failed_law : FailedStoresStop
failed_law world event is = ⊎_elim
    (λ none. absurd (cc (sym (ap (λ (s : Step). s.reply) none) ∙ is)))
    (λ at. broken_row world event at (ap kind_of (reply_of world event at (λ answer. answer ≡ reply.Refused DiskFailed) is)) (row_of world event at.node at.plan at.plan_is))
    (done_or_none world event)
