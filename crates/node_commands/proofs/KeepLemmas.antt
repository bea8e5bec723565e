-- The steps by which a node's disks get more.
use Rattle.std.proofs.Common.{◌≡◌, ◌∙◌, ◌≤◌, ap, sym, subst, arith, ℕ, zero, suc, false, take, drop, map, length, Option, List, [], ◌∷◌, cond}
use Rattle.std.specs.List.{All}
use Rattle.rs_optime.specs.declared.optime.OpTime.{OpTime}
use Rattle.rs_optime.proofs.MembershipLemmas.{in_filter, all_in, in_all, in_take}
use Rattle.rs_optime.proofs.Optimes.{earlier_by, earlier_left, earlier_right}
use Rattle.oplog_entry.specs.declared.entry.Entry.{Entry}
use Rattle.oplog_store.specs.Log.{IsOplog}
use Rattle.entry_bytes.specs.Sizes.{IsWithinEntry}
use Rattle.election_core.specs.Counting.{Tallied}
use Rattle.repl_msg.specs.declared.record.Record.TheVariants as records
use Rattle.set_model.specs.Disk.{next_entries, next_durable, next_stable, unjournaled, next_batch, batch_applied, apply}
use Rattle.set_model.specs.Outcome.{replied, refused}
use Rattle.set_model.specs.Roles.{is_primary}
use Rattle.set_model.specs.declared.reply.Reply.TheVariants as reply
use Rattle.set_model.specs.declared.reply.Refusal.TheVariants.{NothingToDo}
use Rattle.set_model.specs.Node.{Node}
use Rattle.set_model.specs.Points.{applied_point}
use Rattle.set_model.specs.Safety.{AtMost}
use Rattle.set_model.specs.Stores.{records_after}
use Rattle.set_model.specs.declared.store.Store.{Store}
use Rattle.set_model.specs.declared.store.Store.TheVariants as stores
use Rattle.node_state.specs.Coherent.{IsCoherent}
use Rattle.node_data.specs.NodeData.{NodeData, applied_with}
use Rattle.node_state.specs.Ready.{IsFlush, IsCheckpoint, IsReadyTurn}
use Rattle.node_state.specs.Seen.{BesideData, seen_node}
use Rattle.node_state.specs.StateView.{StateView}
use Rattle.node_state.specs.declared.turn.Continuation.TheVariants as continuations
use Rattle.node_state.specs.declared.turn.Turn.TheVariants as turns
use Rattle.node_state.proofs.FlushLemmas.{coherent-flushed}
use Rattle.node_state.proofs.CoherentLemmas.{coherent-stable}

-- ---- a flush

pub flush-coherent : (n m : Node) (item : Store) (count : ℕ) (point : OpTime) (tally : Option Tallied) (optimes left : List OpTime) → n ≡ m → IsFlush item count point m → IsOplog n.log
    → left ≡ drop count optimes → IsCoherent n tally optimes → IsCoherent (record n { records = records_after n.records item; durable = point }) tally left
flush-coherent n m item count point tally optimes left same ready oplog left_is old =
    subst (λ (xs : List OpTime). IsCoherent (record n { records = records_after n.records item; durable = point }) tally xs) (sym (left_is ∙ ap (λ k. drop k optimes) (ready.count_is ∙ ap (λ (k : Node). length (next_entries k)) (sym same))))
    (subst (λ (s : Store). IsCoherent (record n { records = records_after n.records s; durable = point }) tally (drop (length (next_entries n)) optimes)) (sym (ready.item_is ∙ ap (λ (k : Node). stores.Record (records.Entries (next_entries k) (next_durable k))) (sym same)))
    (subst (λ (at : OpTime). IsCoherent (record n { records = records_after n.records (stores.Record (records.Entries (next_entries n) (next_durable n))); durable = at }) tally (drop (length (next_entries n)) optimes))
    (sym (ready.point_is ∙ ap (λ (k : Node). next_durable k) (sym same))) (coherent-flushed n tally optimes oplog old)))

length-taken : (f : Entry → OpTime) (many : ℕ) (xs : List Entry) → length (take many xs) ≤ length (map f xs)
length-taken f zero xs = omega arith
length-taken f (suc many) [] = omega arith
length-taken f (suc many) (x ∷ xs) = let rest : length (take many xs) ≤ length (map f xs) = length-taken f many xs in omega (arith, rest)

pub flush-count : (n m : Node) (item : Store) (count : ℕ) (point : OpTime) (tally : Option Tallied) (optimes : List OpTime) → n ≡ m → IsFlush item count point m → IsCoherent n tally optimes → count ≤ length optimes
flush-count n m item count point tally optimes same ready old =
    let is : count ≡ length (next_entries n) = ready.count_is ∙ ap (λ (k : Node). length (next_entries k)) (sym same) in
    let long : length optimes ≡ length (map (λ (e : Entry). e.optime) (unjournaled n)) = ap length old.unjournaled in
    let less : length (next_entries n) ≤ length (map (λ (e : Entry). e.optime) (unjournaled n)) = length-taken (λ (e : Entry). e.optime) 2000 (unjournaled n) in
    omega (arith, is, long, less)

-- ---- a checkpoint

pub checkpoint-coherent : (n m : Node) (item : Store) (at : OpTime) (tally : Option Tallied) (optimes : List OpTime) → n ≡ m → IsCheckpoint item at m → IsCoherent n tally optimes
    → IsCoherent (record n { records = records_after n.records item; stable = at }) tally optimes
checkpoint-coherent n m item at tally optimes same ready old =
    subst (λ (s : Store). IsCoherent (record n { records = records_after n.records s; stable = at }) tally optimes) (sym ready.item_is)
    (coherent-stable n tally optimes at (subst (λ o. AtMost o n.commit) (sym (ready.at_is ∙ ap (λ (k : Node). next_stable k) (sym same))) (earlier_left n.commit (applied_point n))) old)

pub checkpoint-later : (n m : Node) (item : Store) (at : OpTime) → n ≡ m → IsCheckpoint item at m → AtMost n.stable n.commit → AtMost n.stable (applied_point n) → AtMost n.stable at
checkpoint-later n m item at same ready commit applied =
    subst (λ o. AtMost n.stable o) (sym (ready.at_is ∙ ap (λ (k : Node). next_stable k) (sym same))) (earlier_by (λ o. AtMost n.stable o) n.commit (applied_point n) commit applied)

pub checkpoint-applied : (n m : Node) (item : Store) (at : OpTime) → n ≡ m → IsCheckpoint item at m → AtMost at (applied_point n)
checkpoint-applied n m item at same ready =
    subst (λ o. AtMost o (applied_point n)) (sym (ready.at_is ∙ ap (λ (k : Node). next_stable k) (sym same))) (earlier_right n.commit (applied_point n))

-- ---- a batch

pub apply-done : (old new : NodeData) (rest : BesideData) (count : ℕ) (to : OpTime) → is_primary rest.role ≡ false → new ≡ applied_with old (next_batch old.node) → count ≡ length (next_batch old.node)
    → (count ≡ 0 → ⊥) → to ≡ new.node.applied → apply (seen_node old.node rest) ≡ replied (reply.Applied count to) (seen_node new.node rest)
apply-done old new rest count to not new_is count_is some to_is =
    ap (λ b. cond b (refused NothingToDo (seen_node old.node rest)) (batch_applied (seen_node old.node rest) (next_batch old.node))) not
    ∙ go (next_batch old.node) new_is count_is
  where
    go : (batch : List Entry) → new ≡ applied_with old batch → count ≡ length batch → batch_applied (seen_node old.node rest) batch ≡ replied (reply.Applied count to) (seen_node new.node rest)
    go [] is long = absurd (some long)
    go (entry ∷ entries) is long =
        sym (ap (λ (l : NodeData). replied (reply.Applied (length (entry ∷ entries)) l.node.applied) (seen_node l.node rest)) is)
        ∙ sym (ap (λ n. replied (reply.Applied n new.node.applied) (seen_node new.node rest)) long)
        ∙ sym (ap (λ o. replied (reply.Applied count o) (seen_node new.node rest)) to_is)

-- ---- what a flush stores

take_few : (k : ℕ) (xs : List Entry) → length (take k xs) ≤ k
take_few zero xs = omega arith
take_few (suc k) [] = omega arith
take_few (suc k) (x ∷ xs) = let rest : length (take k xs) ≤ k = take_few k xs in omega (arith, rest)

pub flush_ready : (standing : StateView) (list : List Entry) (count : ℕ) (point : OpTime) → All IsWithinEntry standing.node.log → list ≡ next_entries standing.node → count ≡ length list → point ≡ next_durable standing.node
    → IsReadyTurn (turns.Storing (stores.Record (records.Entries list point)) (continuations.Flush count point)) standing
flush_ready standing list count point within list_is count_is point_is = (
  record {
    item_is = ap (λ (es : List Entry). stores.Record (records.Entries es point)) list_is ∙ ap (λ (at : OpTime). stores.Record (records.Entries (next_entries standing.node) at)) point_is;
    count_is = count_is ∙ ap (λ (es : List Entry). length es) list_is;
    point_is = point_is;
  },
  (
    subst (λ (es : List Entry). length es ≤ 2000) (sym list_is) (take_few 2000 (unjournaled standing.node)),
    subst (All IsWithinEntry) (sym list_is)
        (in_all IsWithinEntry (next_entries standing.node) (λ x there. all_in IsWithinEntry standing.node.log x within (in_filter _ standing.node.log x (in_take 2000 x (unjournaled standing.node) there)).0)),
  ),
)
