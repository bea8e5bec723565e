-- The disks of nodes, two for each, in order of number.
use Rattle.std.proofs.Common.{◌≡◌, ◌∙◌, ◌<◌, ◌+◌, ◌*◌, inl, inr, ap, sym, subst, refl, arith, ℕ, zero, suc, Bool, true, false, Option, None, Some, Result, Ok, Err, length, List, [], ◌∷◌, ◌++◌, slice_get, slice_set, slice_index_or}
use Rattle.std.specs.Prelude.{IfOk, OnErr, IsSome}
use Rattle.std.specs.declared.alloc.AllocError.{AllocError}
use Rattle.std.proofs.lemmas.Option.{slice_get-get_or, same_Some}
use Rattle.rs_disk.specs.State.{State}
use Rattle.rs_disk.specs.Orders.{Orders}
use Rattle.set_model.specs.declared.command.Command.{Command}
use Rattle.set_model.specs.declared.command.Command.TheVariants as commands
use Rattle.set_model.specs.declared.command.DiskName.TheVariants as names
use Rattle.set_model.specs.declared.reply.Reply.{Reply}
use Rattle.set_model.specs.declared.command.Event.{Event}
use Rattle.set_model.specs.Limits.{is_restart}
use Rattle.set_model.specs.Node.{Node}
use Rattle.set_model.specs.Run.{Sizes, run}
use Rattle.set_model.specs.Stores.{Plan}
use Rattle.set_model.specs.World.{World, Task, acts, takes, nothing, is_delivery, step, task}
use Rattle.repl_msg.specs.declared.message.Message.{Message}
use Rattle.node_core.specs.declared.done.Done.{Done}
use Rattle.node_core.specs.Acting.{AreSame, DidToDisks, DisksActed, DisksLeft, IsFinished, RunsWithoutOrders, UnstoredBy, orders_after}
use Rattle.set_world.specs.Acting.{ChangesAt, NodeDisks, NodeActed, NodeTook, NodeUnchanged, NodeStands, EachNodeStands}
use Rattle.set_world.specs.Disks.{OneChanged, AtTouchedNode, DisksStep, DisksTouched, IsStep, NothingDone, StandsAtNumber, AllStand}
use Rattle.set_world.specs.World.{Set, disks_in, nodes_in, event_of}

two_more : (k : ℕ) → 2 * suc k ≡ suc (suc (2 * k))
two_more k = omega arith

one_more : (k : ℕ) → 2 * suc k + 1 ≡ suc (suc (2 * k + 1))
one_more k = omega arith

pub journal_of : {D : Type 0} (nodes : List (Node × D × D)) (idle : List D) (k : ℕ) (node : Node × D × D) → slice_get nodes k ≡ Some node → slice_get (disks_in nodes ++ idle) (2 * k) ≡ Some node.1
journal_of [] idle k node there = absurd (cc there)
journal_of (first ∷ nodes) idle zero node there = ap (λ (n : _). Some n.1) (same_Some first node there)
journal_of (first ∷ nodes) idle (suc k) node there = ap (λ n. slice_get (disks_in (first ∷ nodes) ++ idle) n) (two_more k) ∙ journal_of nodes idle k node there

pub checkpoints_of : {D : Type 0} (nodes : List (Node × D × D)) (idle : List D) (k : ℕ) (node : Node × D × D) → slice_get nodes k ≡ Some node → slice_get (disks_in nodes ++ idle) (2 * k + 1) ≡ Some node.2
checkpoints_of [] idle k node there = absurd (cc there)
checkpoints_of (first ∷ nodes) idle zero node there = ap (λ (n : _). Some n.2) (same_Some first node there)
checkpoints_of (first ∷ nodes) idle (suc k) node there = ap (λ n. slice_get (disks_in (first ∷ nodes) ++ idle) n) (one_more k) ∙ checkpoints_of nodes idle k node there

set_disks : {D : Type 0} (nodes : List (Node × D × D)) (idle : List D) (k : ℕ) (before after : Node × D × D) → slice_get nodes k ≡ Some before
    → disks_in (slice_set nodes k after) ++ idle ≡ slice_set (slice_set (disks_in nodes ++ idle) (2 * k) after.1) (2 * k + 1) after.2
set_disks [] idle k before after there = absurd (cc there)
set_disks (first ∷ nodes) idle zero before after there = refl
set_disks (first ∷ nodes) idle (suc k) before after there =
    ap (λ l. first.1 ∷ first.2 ∷ l) (set_disks nodes idle k before after there)
    ∙ ap (λ n. slice_set (slice_set (disks_in (first ∷ nodes) ++ idle) n after.1) (suc (suc (2 * k + 1))) after.2) (sym (two_more k))
    ∙ ap (λ n. slice_set (slice_set (disks_in (first ∷ nodes) ++ idle) (2 * suc k) after.1) n after.2) (sym (one_more k))

pub one_changed : {D : Type 0} (state : D → State) (Changed : State → State → State → State → Type 0) (number : ℕ) (old new : List (Node × D × D)) (idle : List D) → ChangesAt number (NodeDisks state Changed) old new
    → OneChanged state Changed number (disks_in old ++ idle) (disks_in new ++ idle)
one_changed state Changed number old new idle one = record {
  journal = one.before.1;
  journal' = one.after.1;
  checkpoints = one.before.2;
  checkpoints' = one.after.2;
  journal_at = journal_of old idle number one.before one.there;
  checkpoints_at = checkpoints_of old idle number one.before one.there;
  disks = ap (λ l. disks_in l ++ idle) one.list ∙ set_disks old idle number one.before one.after one.there;
  changed = one.so;
}

-- the disks of the set, where those of its nodes are so
all_touched : {D : Type 0} (state : D → State) (Changed : State → State → State → State → Type 0) (what : Task) (failed : Option ℕ) (old new : List (Node × D × D)) (idle : List D)
    → AtTouchedNode what failed old new (λ n. ChangesAt n (NodeDisks state Changed) old new)
    → AtTouchedNode what failed (disks_in old ++ idle) (disks_in new ++ idle) (λ n. OneChanged state Changed n (disks_in old ++ idle) (disks_in new ++ idle))
all_touched state Changed (acts number) failed old new idle one = one_changed state Changed number old new idle one
all_touched state Changed (takes message) failed old new idle one = one_changed state Changed message.to old new idle one
all_touched state Changed nothing failed old new idle (none, same) = (none, ap (λ l. disks_in l ++ idle) same)

-- the same of what is known of it there
pub touched_so : {A : Type 0} (what : Task) (failed : Option ℕ) (old new : List A) (At Other : ℕ → Type 0) → ((number : ℕ) → At number → Other number) → AtTouchedNode what failed old new At
    → AtTouchedNode what failed old new Other
touched_so (acts number) failed old new At Other then one = then number one
touched_so (takes message) failed old new At Other then one = then message.to one
touched_so nothing failed old new At Other then none = none

-- ---- one of a list

pub one_of : {A : Type 0} (So : A → A → Type 0) (list : List A) (k : ℕ) (d after : A) → k < length list → So (slice_index_or list k d) after → ChangesAt k So list (slice_set list k after)
one_of So list k d after within so = record {
  before = slice_index_or list k d;
  after = after;
  there = slice_get-get_or list k d within;
  list = refl;
  so = so;
}

pub done_at : {A : Type 0} (So : Done → A → A → Type 0) (list : List A) (k : ℕ) (d after : A) (result : Result Done AllocError) → k < length list
    → IfOk result (λ done. So done (slice_index_or list k d) after) → IfOk result (λ done. ChangesAt k (So done) list (slice_set list k after))
done_at So list k d after (Err why) within so = tt
done_at So list k d after (Ok done) within so = one_of (So done) list k d after within so

pub undone_at : {A : Type 0} (So : A → A → Type 0) (list : List A) (k : ℕ) (d after : A) (result : Result Done AllocError) → k < length list
    → OnErr result (So (slice_index_or list k d) after) → OnErr result (ChangesAt k So list (slice_set list k after))
undone_at So list k d after (Ok done) within so = tt
undone_at So list k d after (Err why) within so = one_of So list k d after within so

changed_so : {A : Type 0} (So Other : A → A → Type 0) (number : ℕ) (old new : List A) → ((before after : A) → So before after → Other before after) → ChangesAt number So old new → ChangesAt number Other old new
changed_so So Other number old new then one = record { before = one.before; after = one.after; there = one.there; list = one.list; so = then one.before one.after one.so }

-- ---- on the disks of each node stands what it is

set_each : {A : Type 0} (P : A → Type 0) (xs : List A) (k : ℕ) (x : A) → ((n : ℕ) (y : A) → slice_get xs n ≡ Some y → P y) → P x → (n : ℕ) (y : A) → slice_get (slice_set xs k x) n ≡ Some y → P y
set_each P [] k x each is n y there = absurd (cc there)
set_each P (first ∷ xs) zero x each is zero y there = subst P (same_Some x y there) is
set_each P (first ∷ xs) zero x each is (suc n) y there = each (suc n) y there
set_each P (first ∷ xs) (suc k) x each is zero y there = each zero y there
set_each P (first ∷ xs) (suc k) x each is (suc n) y there = set_each P xs k x (λ m z at. each (suc m) z at) is n y there

still_stand : {D : Type 0} (state : D → State) (So : Node × D × D → Node × D × D → Type 0) (number : ℕ) (old new : List (Node × D × D)) → ((before after : Node × D × D) → So before after → NodeStands state after)
    → ChangesAt number So old new → EachNodeStands state old → EachNodeStands state new
still_stand state So number old new stands one each n node there =
    set_each (NodeStands state) old number one.after each (stands one.before one.after one.so) n node (ap (λ l. slice_get l n) (sym one.list) ∙ there)

pub stand_acted : {D : Type 0} (state : D → State) (number size next : ℕ) (command : Command) (old new : List (Node × D × D)) (result : Result Done AllocError)
    → IfOk result (λ done. ChangesAt number (NodeActed state size next command done) old new) → OnErr result (ChangesAt number (NodeUnchanged state (DisksLeft command)) old new) → EachNodeStands state old
    → EachNodeStands state new
stand_acted state number size next command old new (Ok done) ok err = still_stand state (NodeActed state size next command done) number old new (λ before after so. so.stands) ok
stand_acted state number size next command old new (Err why) ok err = still_stand state (NodeUnchanged state (DisksLeft command)) number old new (λ before after so. so.stands) err

pub stand_took : {D : Type 0} (state : D → State) (number next : ℕ) (message : Message) (old new : List (Node × D × D)) (result : Result Done AllocError)
    → IfOk result (λ done. ChangesAt number (NodeTook state next message done) old new) → OnErr result (ChangesAt number (NodeUnchanged state AreSame) old new) → EachNodeStands state old → EachNodeStands state new
stand_took state number next message old new (Ok done) ok err = still_stand state (NodeTook state next message done) number old new (λ before after so. so.stands) ok
stand_took state number next message old new (Err why) ok err = still_stand state (NodeUnchanged state AreSame) number old new (λ before after so. so.stands) err

-- the node of a number, among those with their disks
found : {D : Type 0} (nodes : List (Node × D × D)) (k : ℕ) (node : Node) → slice_get (nodes_in nodes) k ≡ Some node → (item : Node × D × D) × (slice_get nodes k ≡ Some item) × (item.0 ≡ node)
found [] k node there = absurd (cc there)
found (first ∷ nodes) zero node there = (first, refl, same_Some first.0 node there)
found (first ∷ nodes) (suc k) node there = found nodes k node there

pub all_stand : {D : Type 0} (state : D → State) (sizes : Sizes) (history : List Event) (items : List (Node × D × D)) (idle opened : List D) (kept : Bool) (messages : List Message)
    → (run sizes history).world ≡ record { nodes = nodes_in items; messages = messages } → EachNodeStands state items → AllStand state (record { sizes = sizes; history = history; disks = disks_in items ++ idle; opened = opened; whole = kept })
all_stand {D} state sizes history items idle opened kept messages is each number node there =
    let item = found items number node (ap (λ (w : World). slice_get w.nodes number) (sym is) ∙ there) in
    subst (λ n. StandsAtNumber state number n (disks_in items ++ idle)) item.2 (record {
      journal = item.0.1;
      checkpoints = item.0.2;
      journal_at = journal_of items idle number item.0 item.1;
      checkpoints_at = checkpoints_of items idle number item.0 item.1;
      stands = each number item.0 item.1;
    })

-- ---- what a message does to disks is what its delivery does

journal_quiet : (command : Command) (reply : Reply) (orders : Orders) → is_delivery command ≡ true → orders_after names.Journal command reply orders ≡ orders
journal_quiet (commands.Deliver message) reply orders none = refl
journal_quiet (commands.DeliverLatest from to) reply orders none = refl
journal_quiet command reply orders none = absurd (cc none)

checkpoint_quiet : (command : Command) (reply : Reply) (orders : Orders) → is_delivery command ≡ true → orders_after names.Checkpoint command reply orders ≡ orders
checkpoint_quiet (commands.Deliver message) reply orders none = refl
checkpoint_quiet (commands.DeliverLatest from to) reply orders none = refl
checkpoint_quiet command reply orders none = absurd (cc none)

quiet_unstored : (command : Command) (reply : Reply) (j j' c c' : State) → is_delivery command ≡ true → AreSame j j' c c' → UnstoredBy command reply j j' c c'
quiet_unstored (commands.Deliver message) reply j j' c c' none same = same
quiet_unstored (commands.DeliverLatest from to) reply j j' c c' none same = same
quiet_unstored command reply j j' c c' none same = absurd (cc none)

no_restart : (command : Command) → is_delivery command ≡ true → is_restart command ≡ true → ⊥
no_restart (commands.Deliver message) none is = cc is
no_restart (commands.DeliverLatest from to) none is = cc is
no_restart command none is = cc none

pub delivered_disks : (command : Command) (reply : Reply) (Fault : Type 0) (j j' c c' : State) → is_delivery command ≡ true → RunsWithoutOrders Fault j j' c c' → DisksActed command reply Fault j j' c c'
delivered_disks command reply Fault j j' c c' none runs = record {
  fails = runs.fails;
  journal_armed = λ other. runs.journal_armed;
  checkpoints_armed = λ other. runs.checkpoints_armed;
  journal_orders = runs.journal_orders ∙ sym (journal_quiet command reply j.orders none);
  checkpoints_orders = runs.checkpoints_orders ∙ sym (checkpoint_quiet command reply c.orders none);
}

pub delivered_so : (node : Node) (plan : Plan) (command : Command) (reply : Reply) (failed : Option ℕ) (kept : Bool) (j j' c c' : State) → is_delivery command ≡ true → RunsWithoutOrders (IsSome failed) j j' c c'
    → (IsFinished plan → AreSame j j' c c') → DidToDisks node plan command reply failed kept j j' c c'
delivered_so node plan command reply failed kept j j' c c' none runs unstored = record {
  acted = delivered_disks command reply (IsSome failed) j j' c c' none runs;
  unstored = λ finished. quiet_unstored command reply j j' c c' none (unstored finished);
  opening = λ is. absurd (no_restart command none is);
  found = λ is. absurd (no_restart command none is);
}

left_delivered : (command : Command) (j j' c c' : State) → is_delivery command ≡ true → AreSame j j' c c' → DisksLeft command j j' c c'
left_delivered (commands.Deliver message) j j' c c' none same = same
left_delivered (commands.DeliverLatest from to) j j' c c' none same = same
left_delivered command j j' c c' none same = absurd (cc none)

pub undelivered : {D : Type 0} (state : D → State) (number : ℕ) (command : Command) (old new : List (Node × D × D)) → is_delivery command ≡ true → ChangesAt number (NodeUnchanged state AreSame) old new
    → ChangesAt number (NodeUnchanged state (DisksLeft command)) old new
undelivered state number command old new none one =
    changed_so (NodeUnchanged state AreSame) (NodeUnchanged state (DisksLeft command)) number old new
    (λ before after so. record {
      node = so.node;
      stands = so.stands;
      disks = left_delivered command (state before.1) (state after.1) (state before.2) (state after.2) none so.disks;
    }) one

-- ---- the disks of the set

-- a command that came to this did so to the disks of its node, whatever its line
abbrev pub TouchesSo : {D : Type 0} → (D → State) → World → Command → Done → List (Node × D × D) → List (Node × D × D) → Type 0
TouchesSo state world command came old new =
    (line : ℕ) → AtTouchedNode (task world command) came.failed old new (λ n. ChangesAt n (NodeDisks state (DisksTouched world (event_of line command came))) old new)

module _ {D : Type 0} (state : D → State) (sizes : Sizes) (history : List Event) (items new : List (Node × D × D)) (idle opened : List D) (kept : Bool) (messages : List Message) (command : Command)
    (is : (run sizes history).world ≡ record { nodes = nodes_in items; messages = messages }) where
  -- by the node that the command touches
  touched : (failed : Option ℕ) (Changed : State → State → State → State → Type 0)
      → AtTouchedNode (task (record { nodes = nodes_in items; messages = messages }) command) failed items new (λ n. ChangesAt n (NodeDisks state Changed) items new)
      → AtTouchedNode (task (run sizes history).world command) failed (disks_in items ++ idle) (disks_in new ++ idle)
      (λ n. OneChanged state Changed n (disks_in items ++ idle) (disks_in new ++ idle))
  touched failed Changed changed =
      subst (λ w. AtTouchedNode (task w command) failed (disks_in items ++ idle) (disks_in new ++ idle) (λ n. OneChanged state Changed n (disks_in items ++ idle) (disks_in new ++ idle))) (sym is)
      (all_touched state Changed (task (record { nodes = nodes_in items; messages = messages }) command) failed items new idle changed)

  pub is_step : (later : List Event) (line : ℕ) (came : Done) → later ≡ history ++ event_of line command came ∷ [] → came.reply ≡ (step (run sizes history).world (event_of line command came)).reply
      → TouchesSo state (record { nodes = nodes_in items; messages = messages }) command came items new
      → IsStep state (record { sizes = sizes; history = history; disks = disks_in items ++ idle; opened = opened; whole = kept }) (record { sizes = sizes; history = later; disks = disks_in new ++ idle; opened = opened; whole = kept }) line command came.reply
  is_step later line came more reply changed = record {
    event = event_of line command came;
    line_is = refl;
    command_is = refl;
    history = more;
    reply_is = reply;
    disks = subst (λ w. DisksStep state w (event_of line command came) (disks_in items ++ idle) (disks_in new ++ idle)) (sym is)
        (all_touched state (DisksTouched (record { nodes = nodes_in items; messages = messages }) (event_of line command came)) (task (record { nodes = nodes_in items; messages = messages }) command) came.failed items new idle
        (changed line));
  }

  pub is_undone : (later : List Event) → later ≡ history
      → AtTouchedNode (task (record { nodes = nodes_in items; messages = messages }) command) None items new (λ n. ChangesAt n (NodeUnchanged state (DisksLeft command)) items new)
      → NothingDone state (record { sizes = sizes; history = history; disks = disks_in items ++ idle; opened = opened; whole = kept }) (record { sizes = sizes; history = later; disks = disks_in new ++ idle; opened = opened; whole = false }) command
  is_undone later same one = record {
    history = same;
    disks = inr (touched None (DisksLeft command)
        (touched_so (task (record { nodes = nodes_in items; messages = messages }) command) None items new (λ n. ChangesAt n (NodeUnchanged state (DisksLeft command)) items new)
        (λ n. ChangesAt n (NodeDisks state (DisksLeft command)) items new)
        (λ n. changed_so (NodeUnchanged state (DisksLeft command)) (NodeDisks state (DisksLeft command)) n items new (λ before after so. so.disks)) one));
  }

-- ---- the same, of the nodes and the messages as a step finds them

module _ {D : Type 0} (state : D → State) (sizes : Sizes) (history : List Event) (items nodes new : List (Node × D × D)) (idle opened : List D) (kept : Bool) (messages now : List Message) (command : Command)
    (is : (run sizes history).world ≡ record { nodes = nodes_in items; messages = messages }) (same : nodes ≡ items) (same_messages : now ≡ messages) where
  world_is : (run sizes history).world ≡ record { nodes = nodes_in nodes; messages = now }
  world_is = is ∙ (λ i. record { nodes = nodes_in (sym same i); messages = sym same_messages i })

  pub stepped : (later : List Event) (line : ℕ) (came : Done) → later ≡ history ++ event_of line command came ∷ [] → came.reply ≡ (step (run sizes history).world (event_of line command came)).reply
      → TouchesSo state (record { nodes = nodes_in nodes; messages = now }) command came nodes new
      → IsStep state (record { sizes = sizes; history = history; disks = disks_in items ++ idle; opened = opened; whole = kept }) (record { sizes = sizes; history = later; disks = disks_in new ++ idle; opened = opened; whole = kept }) line command came.reply
  stepped later line came more reply changed =
      subst (λ (l : List (Node × D × D)). IsStep state (record { sizes = sizes; history = history; disks = disks_in l ++ idle; opened = opened; whole = kept }) (record { sizes = sizes; history = later; disks = disks_in new ++ idle; opened = opened; whole = kept }) line command came.reply) same
      (is_step state sizes history nodes new idle opened kept now command world_is later line came more reply changed)

  pub undone : (later : List Event) → later ≡ history
      → AtTouchedNode (task (record { nodes = nodes_in nodes; messages = now }) command) None nodes new (λ n. ChangesAt n (NodeUnchanged state (DisksLeft command)) nodes new)
      → NothingDone state (record { sizes = sizes; history = history; disks = disks_in items ++ idle; opened = opened; whole = kept }) (record { sizes = sizes; history = later; disks = disks_in new ++ idle; opened = opened; whole = false }) command
  undone later still one =
      subst (λ (l : List (Node × D × D)). NothingDone state (record { sizes = sizes; history = history; disks = disks_in l ++ idle; opened = opened; whole = kept }) (record { sizes = sizes; history = later; disks = disks_in new ++ idle; opened = opened; whole = false }) command) same
      (is_undone state sizes history nodes new idle opened kept now command world_is later still one)

-- nothing was done, and no disk was touched
pub untouched : {D : Type 0} (state : D → State) (old new : Set D) (command : Command) → new.history ≡ old.history → new.disks ≡ old.disks → NothingDone state old new command
untouched state old new command history disks = record { history = history; disks = inl disks }
