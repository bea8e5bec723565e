-- What a node did is the model's step of the event.
use Rattle.std.proofs.Common.{◌≡◌, ◌∙◌, ap, sym, subst, refl, append-nil, is_none, ℕ, true, false, not, ◌&&◌, ◌||◌, Option, None, Some, Result, Ok, Err, length, List, [], ◌++◌, slice_get, slice_set}
use Rattle.std.specs.Prelude.{IfOk, OnErr, option_and_then}
use Rattle.std.specs.declared.alloc.AllocError.{AllocError}
use Rattle.std.specs.Option.{option_map_or}
use Rattle.repl_msg.specs.declared.message.Message.{Message}
use Rattle.set_model.specs.declared.command.Command.{Command}
use Rattle.set_model.specs.declared.command.Event.{Event}
use Rattle.set_model.specs.declared.reply.Refusal.TheVariants.{NoSuchMessage}
use Rattle.set_model.specs.declared.reply.Reply.{Reply}
use Rattle.set_model.specs.declared.reply.Reply.TheVariants.{Refused}
use Rattle.set_model.specs.Limits.{plan_reaches, is_restart, passes_first, is_in_doubt, settles_doubt}
use Rattle.set_model.specs.Node.{Node}
use Rattle.set_model.specs.Rows.{row}
use Rattle.set_model.specs.Deliver.{deliver}
use Rattle.set_model.specs.Stores.{Plan, done}
use Rattle.set_model.specs.World.{World, Step, Task, acts, takes, nothing, actor, is_delivery, task, plan_of, event_plan, with_outcome, by_plan, step}
use Rattle.node_core.specs.declared.done.Done.{Done}
use Rattle.node_core.specs.Acting.{AreSame, DidToDisks, DisksLeft, Follows}
use Rattle.rs_disk.specs.State.{State}
use Rattle.set_world.specs.Acting.{ChangesAt, NodeDisks, NodeActed, NodeTook, NodeUnchanged}
use Rattle.set_world.specs.Disks.{AtTouchedNode, DisksTouched}
use Rattle.set_world.specs.World.{Acts, event_of, nodes_in}
use Rattle.set_world.proofs.DiskLemmas.{TouchesSo, delivered_so, undelivered}
use Rattle.set_world.proofs.NodesLemmas.{get_in, nodes_set, nodes_long, same_nodes}

-- an event's plan, by its task
pub plan_is : (world : World) (event : Event) (what : Task) (node : Node) → task world event.command ≡ what → slice_get world.nodes (actor what) ≡ Some node
    → event_plan world event ≡ plan_of world event what node
plan_is world event what node is there =
    ap (λ t. option_and_then (plan_of world event t) (slice_get world.nodes (actor t))) is ∙ ap (λ found. option_and_then (plan_of world event what) found) there

-- the step of an event that has a plan
pub step_is : (world : World) (event : Event) (what : Task) (plan : Plan) → task world event.command ≡ what → event_plan world event ≡ Some plan
    → step world event ≡ with_outcome world (actor what) (done plan event.failed)
step_is world event what plan is has = ap (by_plan world event) has ∙ ap (λ t. with_outcome world (actor t) (done plan event.failed)) is

-- a node that followed a plan
followed : (world : World) (command : Command) (what : Task) (plan : Plan) (after : Node) (came : Done) → ((line : ℕ) → event_plan world (event_of line command came) ≡ Some plan) → task world command ≡ what
    → Follows plan after came → ((line : ℕ) → (not came.kept || settles_doubt world (event_of line command came)) ≡ true) → Acts world command (slice_set world.nodes (actor what) after) came
followed world command what plan after came has is follows settles = record {
  stepped = λ line. step_is world (event_of line command came) what plan is (has line) ∙ ap (with_outcome world (actor what)) follows.outcome;
  reached = λ line. ap (λ p. plan_reaches p came.failed) (has line) ∙ follows.reached;
  settled = settles;
}

pub acts_of : {D : Type 0} (state : D → State) (number : ℕ) (messages : List Message) (command : Command) (old new : List (Node × D × D)) (came : Done)
    → task (record { nodes = nodes_in old; messages = messages }) command ≡ acts number → ChangesAt number (NodeActed state (length old) (length messages) command came) old new
    → Acts (record { nodes = nodes_in old; messages = messages }) command (nodes_in new) came
acts_of state number messages command old new came is acted =
    subst (λ nodes. Acts world command nodes came) (sym (ap nodes_in acted.list ∙ nodes_set old number acted.after))
    (followed world command (acts number) (row (length old) (length messages) came.kept acted.before.0 command) acted.after.0 came
    (λ line. plan_is world (event_of line command came) (acts number) acted.before.0 is there
    ∙ ap (λ size. Some (row size (length messages) came.kept acted.before.0 command)) (nodes_long old)) is acted.so.follows settles)
  where
    world : World
    world = record { nodes = nodes_in old; messages = messages }

    there : slice_get (nodes_in old) number ≡ Some acted.before.0
    there = get_in old number acted.before acted.there

    settles : (line : ℕ) → (not came.kept || settles_doubt world (event_of line command came)) ≡ true
    settles line = ap (λ t. not came.kept || (is_restart command && passes_first came.failed && option_map_or is_in_doubt (slice_get world.nodes (actor t)) false)) is
        ∙ ap (λ found. not came.kept || (is_restart command && passes_first came.failed && option_map_or is_in_doubt found false)) there ∙ acted.so.settles

pub acts_taken : {D : Type 0} (state : D → State) (messages : List Message) (message : Message) (command : Command) (old new : List (Node × D × D)) (came : Done)
    → task (record { nodes = nodes_in old; messages = messages }) command ≡ takes message → came.kept ≡ false → ChangesAt message.to (NodeTook state (length messages) message came) old new
    → Acts (record { nodes = nodes_in old; messages = messages }) command (nodes_in new) came
acts_taken state messages message command old new came is kept took =
    subst (λ nodes. Acts world command nodes came) (sym (ap nodes_in took.list ∙ nodes_set old message.to took.after))
    (followed world command (takes message) (deliver (length messages) took.before.0 message) took.after.0 came
    (λ line. plan_is world (event_of line command came) (takes message) took.before.0 is (get_in old message.to took.before took.there)) is took.so.follows
    (λ line. ap (λ b. not b || settles_doubt world (event_of line command came)) kept))
  where
    world : World
    world = record { nodes = nodes_in old; messages = messages }

pub acts_nothing : (world : World) (command : Command) (came : Done) → task world command ≡ nothing → came.reply ≡ Refused NoSuchMessage → came.sent.items ≡ [] → came.failed ≡ None → came.kept ≡ false → Acts world command world.nodes came
acts_nothing world command came is reply sent failed kept = record {
  stepped = λ line. ap (by_plan world (event_of line command came)) (none line) ∙ (λ i. record { reply = sym reply i; world = record { nodes = world.nodes; messages = same i } });
  reached = λ line. ap (λ p. plan_reaches p came.failed) (none line) ∙ ap is_none failed;
  settled = λ line. ap (λ b. not b || settles_doubt world (event_of line command came)) kept;
}
  where
    none_at : (event : Event) (found : Option Node) → option_and_then (plan_of world event nothing) found ≡ None
    none_at event None = refl
    none_at event (Some node) = refl

    none : (line : ℕ) → event_plan world (event_of line command came) ≡ None
    none line = ap (λ t. option_and_then (plan_of world (event_of line command came) t) (slice_get world.nodes (actor t))) is ∙ none_at (event_of line command came) (slice_get world.nodes 0)

    same : world.messages ≡ world.messages ++ came.sent.items
    same = sym (append-nil world.messages) ∙ ap (λ l. world.messages ++ l) (sym sent)

-- ---- what the disks of that node came to

module _ {D : Type 0} (state : D → State) (messages : List Message) (command : Command) (old new : List (Node × D × D)) (came : Done) where
  abbrev met : World
  met = record { nodes = nodes_in old; messages = messages }

  answered : Acts met command (nodes_in new) came → (line : ℕ) → came.reply ≡ (step met (event_of line command came)).reply
  answered did line = ap (λ (s : Step). s.reply) (sym (did.stepped line))

  pub touched_acted : (number : ℕ) → task met command ≡ acts number → ChangesAt number (NodeActed state (length old) (length messages) command came) old new
      → (line : ℕ) → ChangesAt number (NodeDisks state (DisksTouched met (event_of line command came))) old new
  touched_acted number is one line = record {
    before = one.before;
    after = one.after;
    there = one.there;
    list = one.list;
    so = record {
      node = one.before.0;
      plan = row (length old) (length messages) came.kept one.before.0 command;
      node_is = ap (λ t. slice_get (nodes_in old) (actor t)) is ∙ get_in old number one.before one.there;
      plan_is = plan_is met (event_of line command came) (acts number) one.before.0 is (get_in old number one.before one.there)
          ∙ ap (λ size. Some (row size (length messages) came.kept one.before.0 command)) (nodes_long old);
      did = subst (λ (r : Reply). DidToDisks one.before.0 (row (length old) (length messages) came.kept one.before.0 command) command r came.failed came.kept (state one.before.1) (state one.after.1) (state one.before.2) (state one.after.2))
          (answered (acts_of state number messages command old new came is one) line) one.so.disks;
    };
  }

  pub touched_took : (message : Message) → task met command ≡ takes message → is_delivery command ≡ true → ChangesAt message.to (NodeTook state (length messages) message came) old new
      → (line : ℕ) → ChangesAt message.to (NodeDisks state (DisksTouched met (event_of line command came))) old new
  touched_took message is none one line = record {
    before = one.before;
    after = one.after;
    there = one.there;
    list = one.list;
    so = record {
      node = one.before.0;
      plan = deliver (length messages) one.before.0 message;
      node_is = ap (λ t. slice_get (nodes_in old) (actor t)) is ∙ get_in old message.to one.before one.there;
      plan_is = plan_is met (event_of line command came) (takes message) one.before.0 is (get_in old message.to one.before one.there);
      did = delivered_so one.before.0 (deliver (length messages) one.before.0 message) command (step met (event_of line command came)).reply came.failed came.kept
          (state one.before.1) (state one.after.1) (state one.before.2) (state one.after.2) none one.so.runs one.so.unstored;
    };
  }

-- ---- what a call of a node answers

pub own_acts : {D : Type 0} (state : D → State) (number next : ℕ) (messages : List Message) (command : Command) (old new : List (Node × D × D)) (result : Result Done AllocError)
    → task (record { nodes = nodes_in old; messages = messages }) command ≡ acts number → next ≡ length messages → IfOk result (λ done. ChangesAt number (NodeActed state (length old) next command done) old new)
    → IfOk result (λ done. Acts (record { nodes = nodes_in old; messages = messages }) command (nodes_in new) done)
own_acts state number next messages command old new (Err why) is long acted = tt
own_acts state number next messages command old new (Ok done) is long acted =
    acts_of state number messages command old new done is (subst (λ n. ChangesAt number (NodeActed state (length old) n command done) old new) long acted)

pub own_disks : {D : Type 0} (state : D → State) (number next : ℕ) (messages : List Message) (command : Command) (old new : List (Node × D × D)) (result : Result Done AllocError)
    → task (record { nodes = nodes_in old; messages = messages }) command ≡ acts number → next ≡ length messages → IfOk result (λ done. ChangesAt number (NodeActed state (length old) next command done) old new)
    → IfOk result (λ done. TouchesSo state (record { nodes = nodes_in old; messages = messages }) command done old new)
own_disks state number next messages command old new (Err why) is long acted = tt
own_disks state number next messages command old new (Ok done) is long acted = λ line.
    subst (λ t. AtTouchedNode t done.failed old new (λ n. ChangesAt n (NodeDisks state (DisksTouched (record { nodes = nodes_in old; messages = messages }) (event_of line command done))) old new)) (sym is)
    (touched_acted state messages command old new done number is (subst (λ n. ChangesAt number (NodeActed state (length old) n command done) old new) long acted) line)

pub taken_acts : {D : Type 0} (state : D → State) (next : ℕ) (messages : List Message) (message : Message) (command : Command) (old new : List (Node × D × D)) (result : Result Done AllocError)
    → task (record { nodes = nodes_in old; messages = messages }) command ≡ takes message → next ≡ length messages → IfOk result (λ done. done.kept ≡ false)
    → IfOk result (λ done. ChangesAt message.to (NodeTook state next message done) old new)
    → IfOk result (λ done. Acts (record { nodes = nodes_in old; messages = messages }) command (nodes_in new) done)
taken_acts state next messages message command old new (Err why) is long kept took = tt
taken_acts state next messages message command old new (Ok done) is long kept took =
    acts_taken state messages message command old new done is kept (subst (λ n. ChangesAt message.to (NodeTook state n message done) old new) long took)

pub taken_disks : {D : Type 0} (state : D → State) (next : ℕ) (messages : List Message) (message : Message) (command : Command) (old new : List (Node × D × D)) (result : Result Done AllocError)
    → task (record { nodes = nodes_in old; messages = messages }) command ≡ takes message → next ≡ length messages → is_delivery command ≡ true
    → IfOk result (λ done. ChangesAt message.to (NodeTook state next message done) old new)
    → IfOk result (λ done. TouchesSo state (record { nodes = nodes_in old; messages = messages }) command done old new)
taken_disks state next messages message command old new (Err why) is long none took = tt
taken_disks state next messages message command old new (Ok done) is long none took = λ line.
    subst (λ t. AtTouchedNode t done.failed old new (λ n. ChangesAt n (NodeDisks state (DisksTouched (record { nodes = nodes_in old; messages = messages }) (event_of line command done))) old new)) (sym is)
    (touched_took state messages command old new done message is none (subst (λ n. ChangesAt message.to (NodeTook state n message done) old new) long took) line)

-- no such message was sent
pub nobody_disks : {A : Type 0} (world : World) (command : Command) (came : Done) (old : List A) (At : ℕ → Type 0) → task world command ≡ nothing → came.failed ≡ None → AtTouchedNode (task world command) came.failed old old At
nobody_disks world command came old At is failed = subst (λ t. AtTouchedNode t came.failed old old At) (sym is) (failed, refl)

-- memory ran out
pub own_undone : {D : Type 0} (state : D → State) (world : World) (number : ℕ) (command : Command) (old new : List (Node × D × D)) (result : Result Done AllocError)
    → task world command ≡ acts number → OnErr result (ChangesAt number (NodeUnchanged state (DisksLeft command)) old new)
    → OnErr result (AtTouchedNode (task world command) None old new (λ n. ChangesAt n (NodeUnchanged state (DisksLeft command)) old new))
own_undone state world number command old new (Ok done) is undone = tt
own_undone state world number command old new (Err why) is undone =
    subst (λ t. AtTouchedNode t None old new (λ n. ChangesAt n (NodeUnchanged state (DisksLeft command)) old new)) (sym is) undone

pub taken_undone : {D : Type 0} (state : D → State) (world : World) (message : Message) (command : Command) (old new : List (Node × D × D)) (result : Result Done AllocError)
    → task world command ≡ takes message → is_delivery command ≡ true → OnErr result (ChangesAt message.to (NodeUnchanged state AreSame) old new)
    → OnErr result (AtTouchedNode (task world command) None old new (λ n. ChangesAt n (NodeUnchanged state (DisksLeft command)) old new))
taken_undone state world message command old new (Ok done) is none undone = tt
taken_undone state world message command old new (Err why) is none undone =
    subst (λ t. AtTouchedNode t None old new (λ n. ChangesAt n (NodeUnchanged state (DisksLeft command)) old new)) (sym is)
    (undelivered state message.to command old new none undone)

-- the nodes are as they were
pub nodes_still : {D : Type 0} (state : D → State) (Disks : State → State → State → State → Type 0) (what : Task) (nodes new : List (Node × D × D))
    → AtTouchedNode what None nodes new (λ n. ChangesAt n (NodeUnchanged state Disks) nodes new) → nodes_in new ≡ nodes_in nodes
nodes_still state Disks (acts number) nodes new one = ap nodes_in one.list ∙ same_nodes nodes number one.before one.after one.there one.so.node
nodes_still state Disks (takes message) nodes new one = ap nodes_in one.list ∙ same_nodes nodes message.to one.before one.after one.there one.so.node
nodes_still state Disks nothing nodes new (none, same) = ap nodes_in same
