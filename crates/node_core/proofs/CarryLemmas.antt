-- How a turn ends, by how the rest of it after its first store ends.
use Rattle.std.proofs.Common.{◌≡◌, sym, subst, refl, ℕ, suc, ◌+◌, true, Option, None, Some, List, arith, length}
use Rattle.std.specs.Prelude.{IfOk, OnErr, ◌≤◌, Result, Ok, Err}
use Rattle.std.proofs.lemmas.Bool.{ltb-true, lt-ltb}
use Rattle.rs_disk.specs.State.{State}
use Rattle.rs_optime.specs.declared.optime.OpTime.{OpTime}
use Rattle.repl_msg.specs.declared.record.Record.{Record}
use Rattle.oplog_entry.specs.declared.entry.Entry.{Entry}
use Rattle.vote_store.specs.declared.vote.Vote.{Vote}
use Rattle.repl_msg.specs.declared.record.Record.TheVariants as records
use Rattle.set_model.specs.declared.command.Command.{Command}
use Rattle.set_model.specs.declared.command.Command.TheVariants.{Flush, Checkpoint}
use Rattle.set_model.specs.declared.store.Store.{Store}
use Rattle.set_model.specs.declared.store.Store.TheVariants as stores
use Rattle.node_state.specs.Bounds.{is_long}
use Rattle.node_state.specs.Ready.{IsReady}
use Rattle.node_state.specs.StateView.{StateView}
use Rattle.node_state.specs.declared.turn.Continuation.TheVariants as continuations
use Rattle.set_model.specs.Node.{Node}
use Rattle.set_model.specs.Stores.{Plan, finished, storing, stored, in_doubt, store_count}
use Rattle.node_core.specs.Acting.{IsFinished}
use Rattle.node_core.specs.Putting.{EndsFrom, StoresFewShort, IsStoreFailed, IsEnd, BeginsUnreserved, IsShortStore, IsShortDoubt, LeavesOnDisks, NeedsRoom, SHORT, plan_of}
use Rattle.node_core.specs.OnDisks.{UpOnDisks, IsWellKeptWith}
use Rattle.node_core.specs.Stands.{Stands}
use Rattle.node_state.specs.Turns.{Means, rest_of}
use Rattle.node_state.specs.WellKept.{IsWellKept}
use Rattle.node_core.specs.declared.storing.Ended.{Ended}
use Rattle.node_core.specs.declared.storing.Ended.TheVariants.{WithReply, StoreFailed}
use Rattle.node_state.specs.declared.turn.Continuation.{Continuation}
use Rattle.node_state.specs.declared.turn.Turn.{Turn}
use Rattle.node_state.specs.declared.turn.Turn.TheVariants.{Finished, Storing}
use Rattle.node_core.proofs.DoesLemmas.{Does, MayPut, rest_does, turn_kept, turn_stores}
use Rattle.node_core.proofs.PuttingLemmas.{rests_same}

-- a turn is its plan
pub means_plan : (turn : Turn) (node : Node) (plan : Plan) → Means turn node plan → plan ≡ plan_of turn node
means_plan (Finished answer sent) node plan means = means
means_plan (Storing item then) node plan means = means

-- one store more before it
pub ends_later : (first : ℕ) (broken : Node) (rest : Plan) (node : Node) (ended : Ended) → EndsFrom (first + 1) rest node ended → EndsFrom first (storing broken rest) node ended
ends_later first broken rest node (WithReply answer sent) ends = ends
ends_later first broken rest node (StoreFailed item number) (later, is, comes, reached) =
    (suc later, omega (arith, is), comes, lt-ltb (suc later) (store_count rest + 1) (omega (arith, ltb-true later (store_count rest) reached)))

-- the store itself failed
pub ends_here : (first : ℕ) (item : Store) (then : Continuation) (node : Node) → EndsFrom first (plan_of (Storing item then) node) node (StoreFailed item first)
ends_here first item then node = (0, omega arith, refl, lt-ltb 0 (store_count (rest_of then (stored node item)) + 1) (omega arith))

pub leaves_whole : (ended : Ended) (node : Node) (count : ℕ) (j c : State) → ¬ IsStoreFailed ended → UpOnDisks node count j c → LeavesOnDisks ended node count j c
leaves_whole (WithReply answer sent) node count j c whole rests = rests
leaves_whole (StoreFailed item number) node count j c whole rests = absurd (whole tt)

pub leaves_broken : (item : Store) (number : ℕ) (node : Node) (count : ℕ) (j c : State) → count ≡ length node.records → Stands (in_doubt node item) j c → IsWellKept node.records node.stable → IsWellKeptWith node item
    → LeavesOnDisks (StoreFailed item number) node count j c
leaves_broken item number node count j c counted stands well with_it =
    record { counted = counted; stands = stands; well = well; doubtful = with_it }

-- ---- how a turn goes on once its store stands

module _ (item : Store) (then : Continuation) (old new : Node) (next : Turn) (means : Means next new (rest_of then (stored old item))) where
  -- the plan of the turn, by the plan of what is left of it
  pub goes_on : (first : ℕ) (final : Node) (ended : Ended) → EndsFrom (first + 1) (plan_of next new) final ended → EndsFrom first (plan_of (Storing item then) old) final ended
  goes_on first final ended ends =
      ends_later first (in_doubt old item) (rest_of then (stored old item)) final ended
      (subst (λ (p : Plan). EndsFrom (first + 1) p final ended) (sym (means_plan next new (rest_of then (stored old item)) means)) ends)

  kept_so : (new.records ≡ (stored old item).records) × (new.stable ≡ (stored old item).stable)
  kept_so =
      turn_kept IsShortStore 1 next new (rest_of then (stored old item)) (stored old item).records (stored old item).stable means (rest_does then (stored old item))

  -- the disks as they then are
  pub rests_on : (count : ℕ) (j c : State) → UpOnDisks (stored old item) count j c → UpOnDisks new count j c
  rests_on count j c rests = rests_same (stored old item) new count j c kept_so.0 kept_so.1 rests

  -- at most one short store is left
  pub brief_on : StoresFewShort 1 (plan_of next new)
  brief_on = brief next new (rest_of then (stored old item)) (stored old item).records (stored old item).stable means (rest_does then (stored old item))
    where
      ends : (plan : Plan) (r : List Record) (s : OpTime) → Does IsShortStore 0 r s plan → StoresFewShort 0 plan
      ends (finished outcome) r s does = tt
      ends (storing broken rest) r s does = absurd does

      doubt : (found : Option Store) → Rattle.node_core.proofs.DoesLemmas.IsDoubt IsShortStore found → IsShortDoubt found
      doubt None is = absurd is
      doubt (Some x) is = is

      all : (plan : Plan) (r : List Record) (s : OpTime) → Does IsShortStore 1 r s plan → StoresFewShort 1 plan
      all (finished outcome) r s does = tt
      all (storing broken rest) r s does = (doubt broken.doubt does.2, ends rest _ _ does.3)

      brief : (turn : Turn) (node : Node) (plan : Plan) (r : List Record) (s : OpTime) → Means turn node plan → Does IsShortStore 1 r s plan → StoresFewShort 1 (plan_of turn node)
      brief turn node plan r s means does = subst (λ (p : Plan). StoresFewShort 1 p) (means_plan turn node plan means) (all plan r s does)

  -- and none after that one
  pub ends_on : StoresFewShort 1 (plan_of (Storing item then) old) → IsEnd next
  ends_on brief = go next (subst (λ (p : Plan). StoresFewShort 0 p) (means_plan next new (rest_of then (stored old item)) means) brief.1)
    where
      go : (turn : Turn) → StoresFewShort 0 (plan_of turn new) → IsEnd turn
      go (Finished answer sent) none = tt
      go (Storing more after) none = none

-- ---- memory for what is left

finished_ends : (turn : Turn) (node : Node) (plan : Plan) → IsFinished plan → Means turn node plan → IsEnd turn
finished_ends (Finished answer sent) node plan is means = tt
finished_ends (Storing item then) node plan is means = subst (λ (p : Plan). IsFinished p) means is

ended_room : (turn : Turn) (room : ℕ) → IsEnd turn → NeedsRoom turn room
ended_room (Finished answer sent) room ends = tt
ended_room (Storing item then) room ends = absurd ends

enough_room : (turn : Turn) (room : ℕ) → SHORT ≤ room → NeedsRoom turn room
enough_room (Finished answer sent) room enough = tt
enough_room (Storing item then) room enough = enough

entries_not_vote : (list : List Entry) (point : OpTime) (vote : Vote) → stores.Record (records.Entries list point) ≡ stores.Record (records.Vote vote) → ⊥
entries_not_vote list point vote is = cc

checkpoint_not_record : (at : OpTime) (item : Record) → stores.Checkpoint at ≡ stores.Record item → ⊥
checkpoint_not_record at item is = cc

module _ (standing : StateView) (next : Turn) (node new : Node) (room left : ℕ) (enough : SHORT + SHORT ≤ room) where
  short_room : room ≤ left + SHORT → NeedsRoom next left
  short_room spare = enough_room next left (omega (arith, enough, spare))

  ends_by : (item : Store) (then : Continuation) → IsFinished (rest_of then (stored node item)) → Means next new (rest_of then (stored node item)) → NeedsRoom next left
  ends_by item then is means = ended_room next left (finished_ends next new (rest_of then (stored node item)) is means)

  -- a long store is the only one of its turn
  entries_room : (list : List Entry) (point : OpTime) (then : Continuation) → IsReady (stores.Record (records.Entries list point)) then standing
      → Means next new (rest_of then (stored node (stores.Record (records.Entries list point)))) → NeedsRoom next left
  entries_room list point (continuations.Flush count at) ready means = ends_by (stores.Record (records.Entries list point)) (continuations.Flush count at) tt means
  entries_room list point (continuations.Campaign n tally sent) ready means = ends_by (stores.Record (records.Entries list point)) (continuations.Campaign n tally sent) tt means
  entries_room list point (continuations.Drain config) ready means = ends_by (stores.Record (records.Entries list point)) (continuations.Drain config) tt means
  entries_room list point (continuations.Checkpoint at) ready means = ends_by (stores.Record (records.Entries list point)) (continuations.Checkpoint at) tt means
  entries_room list point (continuations.Reconfig config) ready means = ends_by (stores.Record (records.Entries list point)) (continuations.Reconfig config) tt means
  entries_room list point (continuations.VoteInTerm n from ask why sent) ready means = ends_by (stores.Record (records.Entries list point)) (continuations.VoteInTerm n from ask why sent) tt means
  entries_room list point (continuations.VoteGiven n from ask why sent) ready means = ends_by (stores.Record (records.Entries list point)) (continuations.VoteGiven n from ask why sent) tt means
  entries_room list point (continuations.TookTerm term told) ready means = absurd (entries_not_vote list point _ ready.item_is)
  entries_room list point (continuations.Installed config hearing) ready means = ends_by (stores.Record (records.Entries list point)) (continuations.Installed config hearing) tt means
  entries_room list point (continuations.Cut at removed lost) ready means = ends_by (stores.Record (records.Entries list point)) (continuations.Cut at removed lost) tt means

  checkpoint_room : (at : OpTime) (then : Continuation) → IsReady (stores.Checkpoint at) then standing
      → Means next new (rest_of then (stored node (stores.Checkpoint at))) → NeedsRoom next left
  checkpoint_room at (continuations.Flush count point) ready means = ends_by (stores.Checkpoint at) (continuations.Flush count point) tt means
  checkpoint_room at (continuations.Campaign n tally sent) ready means = ends_by (stores.Checkpoint at) (continuations.Campaign n tally sent) tt means
  checkpoint_room at (continuations.Drain config) ready means = ends_by (stores.Checkpoint at) (continuations.Drain config) tt means
  checkpoint_room at (continuations.Checkpoint o) ready means = ends_by (stores.Checkpoint at) (continuations.Checkpoint o) tt means
  checkpoint_room at (continuations.Reconfig config) ready means = ends_by (stores.Checkpoint at) (continuations.Reconfig config) tt means
  checkpoint_room at (continuations.VoteInTerm n from ask why sent) ready means = ends_by (stores.Checkpoint at) (continuations.VoteInTerm n from ask why sent) tt means
  checkpoint_room at (continuations.VoteGiven n from ask why sent) ready means = ends_by (stores.Checkpoint at) (continuations.VoteGiven n from ask why sent) tt means
  checkpoint_room at (continuations.TookTerm term told) ready means = absurd (checkpoint_not_record at _ ready.item_is)
  checkpoint_room at (continuations.Installed config hearing) ready means = ends_by (stores.Checkpoint at) (continuations.Installed config hearing) tt means
  checkpoint_room at (continuations.Cut o removed lost) ready means = ends_by (stores.Checkpoint at) (continuations.Cut o removed lost) tt means

  -- there is room for what is left of a turn
  pub room_on : (item : Store) (then : Continuation) → IsReady item then standing → (IsShortStore item → room ≤ left + SHORT)
      → Means next new (rest_of then (stored node item)) → NeedsRoom next left
  room_on (stores.Record (records.Vote vote)) then ready spare means = short_room (spare tt)
  room_on (stores.Record (records.Config config)) then ready spare means = short_room (spare tt)
  room_on (stores.Record (records.Entries list point)) then ready spare means = entries_room list point then ready means
  room_on (stores.Record (records.Cut at)) then ready spare means = short_room (spare tt)
  room_on (stores.Record (records.Form form)) then ready spare means = short_room (spare tt)
  room_on (stores.Checkpoint at) then ready spare means = checkpoint_room at then ready means

-- ---- turns that never need memory

-- a turn whose stores are short doesn't begin with a long one
pub not_long : (m : ℕ) (turn : Turn) (new : Node) (plan : Plan) (r : List Record) (s : OpTime) → Means turn new plan → Does IsShortStore (suc m) r s plan → ¬ BeginsUnreserved turn
not_long m (Finished answer sent) new plan r s means does long = long
not_long m (Storing item then) new plan r s means does long = long (turn_stores IsShortStore m item then new plan r s means does)

-- only a long command begins with a long store
pub long_only : (command : Command) (turn : Turn) (new : Node) (plan : Plan) (r : List Record) (s : OpTime) → Means turn new plan → Does (MayPut command) 1 r s plan → BeginsUnreserved turn
    → is_long command ≡ true
long_only command (Finished answer sent) new plan r s means does long = absurd long
long_only command (Storing item then) new plan r s means does long =
    by_command command (turn_stores (MayPut command) 0 item then new plan r s means does)
  where
    by_command : (command : Command) → MayPut command item → is_long command ≡ true
    by_command (Flush number) may = refl
    by_command (Checkpoint number) may = refl
    by_command _ may = absurd (long may)

-- a turn whose plan stores nothing is at its end
pub at_end : (turn : Turn) (new : Node) (plan : Plan) → Means turn new plan → IsFinished plan → IsEnd turn
at_end (Finished answer sent) new plan means none = tt
at_end (Storing item then) new plan means none = subst IsFinished means none

pub ok_on : {T E : Type 0} (result : Result T E) (A B : Type 0) → IfOk result (λ _. A) → (A → B) → IfOk result (λ _. B)
ok_on (Ok value) A B one then = then one
ok_on (Err error) A B one then = tt

pub err_on : {T E : Type 0} (result : Result T E) (A B : Type 0) → OnErr result A → (A → B) → OnErr result B
err_on (Ok value) A B one then = tt
err_on (Err error) A B one then = then one

pub err_both : {T E : Type 0} (result : Result T E) (A B C : Type 0) → OnErr result A → OnErr result B → (A → B → C) → OnErr result C
err_both (Ok value) A B C one two both = tt
err_both (Err error) A B C one two both = both one two

pub never_err : {T E : Type 0} (result : Result T E) (A B : Type 0) → OnErr result A → ¬ A → OnErr result B
never_err (Ok value) A B on never = tt
never_err (Err error) A B on never = absurd (never on)
