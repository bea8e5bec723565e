-- What a command or a message does at a node on its disks, by what was done in memory and on the disks.
use Rattle.std.proofs.Common.{◌≡◌, ◌∙◌, inl, ap, sym, subst, refl, ℕ, Bool, true, false, not, ◌&&◌, ◌||◌, [], Option, None, Some, if◌then◌else◌}
use Rattle.std.specs.Prelude.{IsSome, IfOk, OnErr, Result, Ok, Err}
use Rattle.rs_disk.specs.Orders.{Orders}
use Rattle.rs_disk.specs.State.{State}
use Rattle.node_journal.proofs.DiskLemmas.{rest_only}
use Rattle.checkpoint_store.proofs.OnceLemmas.{rest_has}
use Rattle.set_model.specs.declared.command.Command.{Command}
use Rattle.set_model.specs.declared.command.Command.TheVariants.{Deliver, DeliverLatest, Crash, Restart, DiskFail, Clock}
use Rattle.set_model.specs.declared.command.DiskName.{DiskName}
use Rattle.set_model.specs.declared.command.DiskName.TheVariants as disks
use Rattle.set_model.specs.declared.reply.Reply.{Reply}
use Rattle.set_model.specs.declared.reply.Reply.TheVariants as reply
use Rattle.set_model.specs.declared.reply.Refusal.TheVariants.{NodeDown}
use Rattle.set_model.specs.Outcome.{replied, refused}
use Rattle.set_model.specs.Rows.{row}
use Rattle.node_core.proofs.PuttingLemmas.{runs_as, runs_none, same_none}
use Rattle.set_model.specs.Limits.{is_restart, passes_first, is_in_doubt}
use Rattle.set_model.specs.Node.{Node}
use Rattle.set_model.specs.Stores.{Plan, finished, done as comes_to, reaches, if_up}
use Rattle.set_model.specs.World.{is_delivery}
use Rattle.node_core.specs.Acting.{Acted, AreSame, DisksLeft, Follows, RunsWithoutOrders, Took, Unchanged, UnstoredBy, orders_after}
use Rattle.node_state.specs.Bounds.{is_own}
use Rattle.node_core.specs.Down.{DownState, down_node, seen_node}
use Rattle.node_core.specs.OnDisks.{IsOnDisks, UpOnDisks}
use Rattle.node_core.specs.Stands.{Stands, documents_at}
use Rattle.node_core.specs.declared.done.Done.{Done}

-- ---- what stands on the disks

pub rests_stand : (node : Node) (count : ℕ) (j c : State) → UpOnDisks node count j c → Stands node j c
rests_stand node count j c rests = record {
  records = λ image left. inl (rest_only j node.records rests.records image left);
  documents = λ image left. inl (rest_has c (documents_at node node.stable) rests.documents image left);
}

pub resting_stands : (up : Bool) (node : Node) (left : DownState) (count : ℕ) (j c : State) → IsOnDisks up node left count j c → Stands (seen_node up node left) j c
resting_stands true node left count j c rests = rests_stand node count j c rests
resting_stands false node left count j c lies = lies.stands

-- ---- commands that give no orders

own_not : false ≡ true → ⊥
own_not h = cc

own_orders : (name : DiskName) (command : Command) (answer : Reply) (orders : Orders) → is_own command ≡ true → orders_after name command answer orders ≡ orders
own_orders name (Deliver message) answer orders own = absurd (own_not own)
own_orders name (DeliverLatest from to) answer orders own = absurd (own_not own)
own_orders name (Crash node pick) answer orders own = absurd (own_not own)
own_orders name (Restart node) answer orders own = absurd (own_not own)
own_orders name (DiskFail node disk call pick) answer orders own = absurd (own_not own)
own_orders name _ answer orders own = refl

own_unstored : (command : Command) (answer : Reply) (j j' c c' : State) → is_own command ≡ true → AreSame j j' c c' → UnstoredBy command answer j j' c c'
own_unstored (Crash node pick) answer j j' c c' own same = absurd (own_not own)
own_unstored (DiskFail node disk call pick) answer j j' c c' own same = absurd (own_not own)
own_unstored _ answer j j' c c' own same = same

own_stays : (command : Command) → is_own command ≡ true → is_restart command ≡ true → ⊥
own_stays (Deliver message) own is = absurd (own_not own)
own_stays (DeliverLatest from to) own is = absurd (own_not own)
own_stays (Crash node pick) own is = absurd (own_not own)
own_stays (Restart node) own is = absurd (own_not own)
own_stays (DiskFail node disk call pick) own is = absurd (own_not own)
own_stays _ own is = absurd (own_not is)

-- a restart that got past its first store didn't fail at it
pub past_first : (failed : Option ℕ) → passes_first failed ≡ true → failed ≡ Some 0 → ⊥
past_first failed passes is = own_not (sym (ap passes_first is) ∙ passes)

-- no store failed, and so not the first
pub first_not : (failed : Option ℕ) → failed ≡ None → failed ≡ Some 0 → ⊥
first_not failed none is = past_first failed (ap passes_first none) is

-- nothing was in doubt
pub unkept : (old : Node) (command : Command) (done : Done) → done.kept ≡ false
    → (not done.kept || (is_restart command && passes_first done.failed && is_in_doubt old)) ≡ true
unkept old command done kept = ap (λ (k : Bool). not k || (is_restart command && passes_first done.failed && is_in_doubt old)) kept

-- a command of a node in memory, by what it came to there
pub acted_own : (plan : Plan) (command : Command) (old new : Node) (j j' c c' : State) (done : Done) → is_own command ≡ true → done.kept ≡ false
    → Took plan new j j' c c' done → Acted plan command old new j j' c c' done
acted_own plan command old new j j' c c' done own kept took = record {
  follows = took.follows;
  settles = unkept old command done kept;
  stands = took.stands;
  disks = record {
    acted = record {
      fails = took.runs.fails;
      journal_armed = λ _. took.runs.journal_armed;
      checkpoints_armed = λ _. took.runs.checkpoints_armed;
      journal_orders = took.runs.journal_orders ∙ sym (own_orders disks.Journal command done.reply j.orders own);
      checkpoints_orders = took.runs.checkpoints_orders ∙ sym (own_orders disks.Checkpoint command done.reply c.orders own);
    };
    unstored = λ none. own_unstored command done.reply j j' c c' own (took.unstored none);
    opening = λ is. absurd (own_stays command own is);
    found = λ is. absurd (own_stays command own is);
  };
}

-- as a result where memory may have run out
pub own_acted : {E : Type 0} (result : Result Done E) (nodes next : ℕ) (command : Command) (old new : Node) (j j' c c' : State) → is_own command ≡ true
    → IfOk result (λ done. Took (row nodes next false old command) new j j' c c' done) → IfOk result (λ done. done.kept ≡ false)
    → IfOk result (λ done. Acted (row nodes next done.kept old command) command old new j j' c c' done)
own_acted (Err error) nodes next command old new j j' c c' own took kept = tt
own_acted (Ok done) nodes next command old new j j' c c' own took kept =
    subst (λ (k : Bool). Acted (row nodes next k old command) command old new j j' c c' done) (sym kept)
    (acted_own (row nodes next false old command) command old new j j' c c' done own kept took)

left_own : (command : Command) (j j' c c' : State) → is_own command ≡ true → AreSame j j' c c' → DisksLeft command j j' c c'
left_own (Restart node) j j' c c' own same = absurd (own_not own)
left_own _ j j' c c' own same = same

pub own_unchanged : {T E : Type 0} (result : Result T E) (command : Command) (old new : Node) (j j' c c' : State) → is_own command ≡ true
    → OnErr result (Unchanged AreSame old new j j' c c') → OnErr result (Unchanged (DisksLeft command) old new j j' c c')
own_unchanged (Ok value) command old new j j' c c' own undone = tt
own_unchanged (Err error) command old new j j' c c' own undone =
    record { node = undone.node; stands = undone.stands; disks = left_own command j j' c c' own undone.disks }

-- which commands those are
pub own_here : (command : Command) → is_delivery command ≡ false → ((n pick : ℕ) → command ≡ Crash n pick → ⊥) → ((n : ℕ) → command ≡ Restart n → ⊥)
    → ((n : ℕ) (disk : DiskName) (call : ℕ) (pick : Option ℕ) → command ≡ DiskFail n disk call pick → ⊥) → is_own command ≡ true
own_here (Deliver message) here crash restart fail = absurd (own_not (sym here))
own_here (DeliverLatest from to) here crash restart fail = absurd (own_not (sym here))
own_here (Crash n pick) here crash restart fail = absurd (crash n pick refl)
own_here (Restart n) here crash restart fail = absurd (restart n refl)
own_here (DiskFail n disk call pick) here crash restart fail = absurd (fail n disk call pick refl)
own_here _ here crash restart fail = refl

-- ---- commands that store nothing

-- a reply with no messages
pub answered_follows : (plan : Plan) (node : Node) (answer : Reply) (done : Done) → plan ≡ finished (replied answer node) → done.reply ≡ answer → done.sent.items ≡ []
    → done.failed ≡ None → Follows plan node done
answered_follows plan node answer done is reply sent failed = record {
  outcome = ap (λ (p : Plan). comes_to p done.failed) is ∙ (λ i. record { reply = sym reply i; node = node; sent = sym sent i });
  reached = ap (λ (f : Option ℕ). reaches plan f) failed;
}

-- no store failed
pub unfailed : (failed : Option ℕ) → failed ≡ None → ¬ IsSome failed
unfailed failed none some = own_not (subst (λ (f : Option ℕ). IsSome f) none some)

pub answered_runs : (j c : State) (done : Done) → done.failed ≡ None → RunsWithoutOrders (IsSome done.failed) j j c c
answered_runs j c done failed = runs_as j j c c (unfailed done.failed failed) (runs_none j c)

-- a node that is down
pub while_down : (node : Node) (plan : Plan) → node.up ≡ false → if_up node plan ≡ finished (refused NodeDown node)
while_down node plan down = ap (λ (b : Bool). if b then plan else finished (refused NodeDown node)) down

-- a command that is not for a node that is down
pub down_row : (nodes next : ℕ) (node : Node) (command : Command) → is_own command ≡ true → ((n seconds : ℕ) → command ≡ Clock n seconds → ⊥) → node.up ≡ false
    → row nodes next false node command ≡ finished (refused NodeDown node)
down_row nodes next node (Clock n seconds) own not down = absurd (not n seconds refl)
down_row nodes next node (Deliver message) own not down = absurd (own_not own)
down_row nodes next node (DeliverLatest from to) own not down = absurd (own_not own)
down_row nodes next node (Crash n pick) own not down = absurd (own_not own)
down_row nodes next node (Restart n) own not down = absurd (own_not own)
down_row nodes next node (DiskFail n disk call pick) own not down = absurd (own_not own)
down_row nodes next node _ own not down = while_down node _ down

module _ (node : Node) (left : DownState) (count : ℕ) (j c : State) (done : Done) (failed : done.failed ≡ None) (sent : done.sent.items ≡ []) where
  -- it answers that it is down
  pub took_down : (up : Bool) → IsOnDisks up node left count j c → (nodes next : ℕ) (command : Command) → is_own command ≡ true
      → ((n seconds : ℕ) → command ≡ Clock n seconds → ⊥) → (seen_node up node left).up ≡ false → done.reply ≡ reply.Refused NodeDown
      → Took (row nodes next false (seen_node up node left) command) (seen_node up node left) j j c c done
  took_down up resting nodes next command own not down answer =
      let seen = seen_node up node left in
      record {
        follows = answered_follows (row nodes next false seen command) seen (reply.Refused NodeDown) done (down_row nodes next seen command own not down) answer sent failed;
        stands = resting_stands up node left count j c resting;
        runs = answered_runs j c done failed;
        unstored = λ _. same_none j c;
      }

  -- only its clock is set
  pub took_clock : (up : Bool) → IsOnDisks up node left count j c → node.up ≡ true → (seen_node up node left).up ≡ false → (nodes next : ℕ) (command : Command) (n seconds : ℕ)
      → command ≡ Clock n seconds → done.reply ≡ reply.Clock seconds
      → Took (row nodes next false (seen_node up node left) command) (seen_node up node (record left { clock = seconds })) j j c c done
  took_clock true resting is_up down nodes next command n seconds is answer = absurd (own_not (sym down ∙ is_up))
  took_clock false lies is_up down nodes next command n seconds is answer =
      let seen = down_node node left in
      let new = down_node node (record left { clock = seconds }) in
      record {
        follows = answered_follows (row nodes next false seen command) new (reply.Clock seconds) done (ap (λ (x : Command). row nodes next false seen x) is) answer sent failed;
        stands = record { records = lies.stands.records; documents = lies.stands.documents };
        runs = answered_runs j c done failed;
        unstored = λ _. same_none j c;
      }
