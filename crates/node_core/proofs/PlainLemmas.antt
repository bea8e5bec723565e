-- What a command that stores and sends nothing does at a node that is up: it is answered, and its disks
-- are left alone.
use Rattle.std.proofs.Common.{◌≡◌, ◌∙◌, subst, refl, ℕ, Bool, true, false, []}
use Rattle.rs_disk.specs.State.{State}
use Rattle.set_model.specs.declared.command.Command.{Command}
use Rattle.set_model.specs.declared.command.Command.TheVariants.{Insert, Replace, Update, Delete, Retry, Note, Begin, Commit, Abort, Read, Dump, Log, State as Show, Rolled, Clock, Deliver, DeliverLatest, Crash, Restart, DiskFail}
use Rattle.set_model.specs.declared.reply.Reply.{Reply}
use Rattle.set_model.specs.Node.{Node}
use Rattle.set_model.specs.Outcome.{replied}
use Rattle.set_model.specs.Rows.{row}
use Rattle.set_model.specs.Stores.{Plan, finished}
use Rattle.std.specs.Prelude.{None}
use Rattle.node_state.specs.Bounds.{is_own, is_plain}
use Rattle.node_answers.specs.Plain.{plain_row}
use Rattle.node_core.specs.Acting.{Took}
use Rattle.node_core.specs.Down.{DownState, seen_node}
use Rattle.node_core.specs.OnDisks.{IsOnDisks, UpOnDisks}
use Rattle.node_core.specs.declared.done.Done.{Done}
use Rattle.node_core.proofs.ActingLemmas.{answered_follows, answered_runs, rests_stand}
use Rattle.node_core.proofs.DoesLemmas.{Does, MayPut, row_does}
use Rattle.node_core.proofs.PuttingLemmas.{rests_same, same_none}

not_so : false ≡ true → ⊥
not_so h = cc

plain_own : (command : Command) → is_plain command ≡ true → is_own command ≡ true
plain_own (Deliver message) plain = absurd (not_so plain)
plain_own (DeliverLatest from to) plain = absurd (not_so plain)
plain_own (Crash n pick) plain = absurd (not_so plain)
plain_own (Restart n) plain = absurd (not_so plain)
plain_own (DiskFail n disk call pick) plain = absurd (not_so plain)
plain_own _ plain = refl

-- the size of the set and the number of its next message don't matter
its_plain_row : (nodes next : ℕ) (node : Node) (command : Command) → is_plain command ≡ true → row nodes next false node command ≡ plain_row node command
its_plain_row nodes next node (Insert n collection document) plain = refl
its_plain_row nodes next node (Replace n collection id document) plain = refl
its_plain_row nodes next node (Update n collection id operators) plain = refl
its_plain_row nodes next node (Delete n collection id) plain = refl
its_plain_row nodes next node (Retry n session op) plain = refl
its_plain_row nodes next node (Note n) plain = refl
its_plain_row nodes next node (Begin n writer op) plain = refl
its_plain_row nodes next node (Commit n writer) plain = refl
its_plain_row nodes next node (Abort n writer) plain = refl
its_plain_row nodes next node (Read n level collection id) plain = refl
its_plain_row nodes next node (Dump n level) plain = refl
its_plain_row nodes next node (Log n) plain = refl
its_plain_row nodes next node (Show n) plain = refl
its_plain_row nodes next node (Rolled n) plain = refl
its_plain_row nodes next node (Clock n seconds) plain = refl
its_plain_row nodes next node _ plain = absurd (not_so plain)

module _ (nodes next : ℕ) (node new : Node) (command : Command) (answer : Reply) (plain : is_plain command ≡ true)
    (means : plain_row node command ≡ finished (replied answer new)) where
  its_row : row nodes next false node command ≡ finished (replied answer new)
  its_row = its_plain_row nodes next node command plain ∙ means

  -- its records and its stable point stay
  kept : (new.records ≡ node.records) × (new.stable ≡ node.stable)
  kept = subst (λ (p : Plan). Does (MayPut command) 1 node.records node.stable p) its_row (row_does nodes next node command (plain_own command plain))

  rests_on : (count : ℕ) (j c : State) → UpOnDisks node count j c → UpOnDisks new count j c
  rests_on count j c rests = rests_same node new count j c kept.0 kept.1 rests

  pub plain_rests : (up : Bool) (left : DownState) (count : ℕ) (j c : State) → up ≡ true → IsOnDisks up node left count j c → IsOnDisks up new left count j c
  plain_rests false left count j c is_up rests = absurd (not_so is_up)
  plain_rests true left count j c is_up rests = rests_on count j c rests

  pub took_plain : (up : Bool) (left : DownState) (count : ℕ) (j c : State) (done : Done) → up ≡ true → IsOnDisks up node left count j c
      → done.reply ≡ answer → done.sent.items ≡ [] → done.failed ≡ None
      → Took (row nodes next false (seen_node up node left) command) (seen_node up new left) j j c c done
  took_plain false left count j c done is_up rests reply sent failed = absurd (not_so is_up)
  took_plain true left count j c done is_up rests reply sent failed = record {
    follows = answered_follows (row nodes next false node command) new answer done its_row reply sent failed;
    stands = rests_stand new count j c (rests_on count j c rests);
    runs = answered_runs j c done failed;
    unstored = λ _. same_none j c;
  }

pub up_rests : (up : Bool) (node : Node) (left : DownState) (count : ℕ) (j c : State) → up ≡ true → IsOnDisks up node left count j c → UpOnDisks node count j c
up_rests false node left count j c is_up rests = absurd (not_so is_up)
up_rests true node left count j c is_up rests = rests

-- a node that is up is seen as it is in memory
pub seen_up : (up : Bool) (node : Node) (left : DownState) → (seen_node up node left).up ≡ true → seen_node up node left ≡ node
seen_up false node left is_up = absurd (not_so is_up)
seen_up true node left is_up = refl
