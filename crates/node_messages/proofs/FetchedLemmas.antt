-- Appending fetched entries to a node's log keeps it coherent.
use Rattle.std.proofs.Common.{◌≡◌, ◌∙◌, ◌<◌, ◌≤◌, inl, inr, ap, sym, subst, refl, arith, zero, max, Bool, true, false, List, [], ◌∷◌, ◌++◌, Option, map, fold}
use Rattle.std.specs.List.{All, AllPairs}
use Rattle.std.proofs.lemmas.List.Elements.{All-append, All-tail}
use Rattle.std.proofs.lemmas.List.Kept.{AllPairs-cons}
use Rattle.std.specs.FinSet as sets
use Rattle.rs_optime.specs.declared.optime.OpTime.{OpTime}
use Rattle.rs_optime.proofs.Optimes.{at_most_trans, before_both}
use Rattle.rs_optime.specs.Membership.{In}
use Rattle.rs_optime.proofs.MembershipLemmas.{all_in, in_all}
use Rattle.oplog_entry.specs.Lawful.{IsLawful}
use Rattle.oplog_entry.specs.Visible.{is_before, last_of}
use Rattle.oplog_entry.specs.declared.entry.Entry.{Entry}
use Rattle.oplog_entry.proofs.LogLemmas.{in_with}
use Rattle.oplog_store.proofs.Keeps.{pairs_head, pairs_tail, with_last}
use Rattle.oplog_store.specs.Log.{IsOplog, StandsBefore, with_entry}
use Rattle.oplog_store.proofs.PlaceLemmas.{oplog_front}
use Rattle.election_core.specs.Counting.{Tallied}
use Rattle.oplog_store.specs.Unjournaled.{with_optime}
use Rattle.set_model.specs.Fetched.{Follows}
use Rattle.set_model.specs.Fetching.{seen_after, with_fetched}
use Rattle.set_model.specs.Node.{Node}
use Rattle.set_model.specs.Safety.{AtMost}
use Rattle.node_data.specs.Kept.{FitsBeside}
use Rattle.node_state.specs.Coherent.{IsCoherent}
use Rattle.node_state.proofs.SlotLemmas.{visible_grows}
use Rattle.node_state.proofs.CoherentLemmas.{coherent-written, touched}

in_front : {X : Type 0} (xs ys : List X) (x : X) → In x xs → In x (xs ++ ys)
in_front [] ys x there = absurd there
in_front (y ∷ xs) ys x (inl same) = inl same
in_front (y ∷ xs) ys x (inr there) = inr (in_front xs ys x there)

in_middle : {X : Type 0} (xs : List X) (y : X) (ys : List X) → In y (xs ++ y ∷ ys)
in_middle [] y ys = inl refl
in_middle (x ∷ xs) y ys = inr (in_middle xs y ys)

-- what stands in a log stands before what follows
pub stands_before : (log : List Entry) (entry : Entry) (rest : List Entry) → AllPairs StandsBefore (log ++ entry ∷ rest) → (other : Entry) → In other log → StandsBefore other entry
stands_before [] entry rest order other there = absurd there
stands_before (first ∷ log) entry rest order other (inl same) =
    subst (λ (o : Entry). StandsBefore o entry) same (all_in (StandsBefore first) (log ++ entry ∷ rest) entry (pairs_head StandsBefore first (log ++ entry ∷ rest) order) (in_middle log entry rest))
stands_before (first ∷ log) entry rest order other (inr there) = stands_before log entry rest (pairs_tail StandsBefore first (log ++ entry ∷ rest) order) other there

front_pairs : (log more : List Entry) → AllPairs StandsBefore (log ++ more) → AllPairs StandsBefore log
front_pairs [] more order = λ i j d less within. absurd (omega arith)
front_pairs (first ∷ log) more order =
    AllPairs-cons StandsBefore first log
    (in_all (StandsBefore first) log (λ x there. all_in (StandsBefore first) (log ++ more) x (pairs_head StandsBefore first (log ++ more) order) (in_front log more x there)))
    (front_pairs log more (pairs_tail StandsBefore first (log ++ more) order))

pub joined : (log : List Entry) (entry : Entry) (rest : List Entry) → (log ++ entry ∷ []) ++ rest ≡ log ++ entry ∷ rest
joined [] entry rest = refl
joined (first ∷ log) entry rest = ap (λ l. first ∷ l) (joined log entry rest)

append_none : (log : List Entry) → log ++ [] ≡ log
append_none [] = refl
append_none (first ∷ log) = ap (λ l. first ∷ l) (append_none log)

pub coherent-fetched : (entries : List Entry) (node : Node) (tally : Option Tallied) (optimes : List OpTime)
    → IsOplog (node.log ++ entries) → All (λ entry. is_before node.durable entry.optime ≡ true) entries
    → IsCoherent node tally optimes → IsCoherent (with_fetched node entries) tally (fold with_optime optimes (map (λ (e : Entry). e.optime) entries))
coherent-fetched [] node tally optimes oplog after old = subst (λ (l : List Entry). IsCoherent (record node { log = l }) tally optimes) (sym (append_none node.log)) old
coherent-fetched (entry ∷ rest) node tally optimes oplog after old =
    let first : (other : Entry) → In other node.log → StandsBefore other entry = stands_before node.log entry rest oplog.order in
    let with_is : with_entry node.log entry ≡ node.log ++ entry ∷ [] =
    with_last node.log entry (in_all (λ (other : Entry). other.optime.ts < entry.optime.ts) node.log (λ other there. (first other there).earlier)) in
    let log_is : with_entry node.log entry ++ rest ≡ node.log ++ entry ∷ rest = ap (λ (l : List Entry). l ++ rest) with_is ∙ joined node.log entry rest in
    let more : IsOplog (with_entry node.log entry) =
    subst IsOplog (sym with_is) (oplog_front (node.log ++ entry ∷ []) rest (subst IsOplog (sym (joined node.log entry rest)) oplog)) in
    subst (λ (l : List Entry). IsCoherent (record node { log = l; seen = seen_after node.seen (entry ∷ rest) }) tally (fold with_optime optimes (map (λ (e : Entry). e.optime) (entry ∷ rest)))) log_is
    (coherent-fetched rest (touched node (with_entry node.log entry) node.slots node.writers (max node.seen entry.optime.ts)) tally (with_optime optimes entry.optime)
    (subst IsOplog (sym log_is) oplog) (All-tail (λ (e : Entry). is_before node.durable e.optime ≡ true) entry rest after)
    (coherent-written node entry node.slots node.writers (max node.seen entry.optime.ts) tally optimes (oplog_front node.log (entry ∷ rest) oplog)
    (record {
      after = after zero entry (omega arith);
      fits = in_all (FitsBeside entry) node.log (λ other there. inl (first other there));
      grows = visible_grows (sets.items node.slots) (sets.items node.slots) node.log (with_entry node.log entry) more (in_with node.log entry) (λ slot listed. inl listed);
    })
    old))

-- ---- entries that go on where a log ends

reaches_last : (first : Entry) (log : List Entry) → AllPairs StandsBefore (first ∷ log)
    → (first.optime.ts ≤ (last_of (first ∷ log)).ts) × (first.optime.term ≤ (last_of (first ∷ log)).term)
reaches_last first [] order = (omega arith, omega arith)
reaches_last first (next ∷ log) order =
    let before : StandsBefore first next = pairs_head StandsBefore first (next ∷ log) order zero next (omega arith) in
    let further : (next.optime.ts ≤ (last_of (next ∷ log)).ts) × (next.optime.term ≤ (last_of (next ∷ log)).term) = reaches_last next log (pairs_tail StandsBefore first (next ∷ log) order) in
    (omega (arith, before.earlier, further.0), omega (arith, before.term, further.1))

follows_stands : (first : Entry) (last : OpTime) (entries : List Entry) → first.optime.ts ≤ last.ts → first.optime.term ≤ last.term → All (Follows last) entries → All (StandsBefore first) entries
follows_stands first last entries ts term follow k e within =
    record { earlier = omega (arith, ts, (follow k e within).later); term = omega (arith, term, (follow k e within).term) }

joined_pairs : (log entries : List Entry) → AllPairs StandsBefore log → AllPairs StandsBefore entries → All (Follows (last_of log)) entries → AllPairs StandsBefore (log ++ entries)
joined_pairs [] entries order more follow = more
joined_pairs (first ∷ []) entries order more follow =
    AllPairs-cons StandsBefore first entries (follows_stands first first.optime entries (omega arith) (omega arith) follow) more
joined_pairs (first ∷ next ∷ log) entries order more follow =
    let reached : (first.optime.ts ≤ (last_of (next ∷ log)).ts) × (first.optime.term ≤ (last_of (next ∷ log)).term) = reaches_last first (next ∷ log) order in
    AllPairs-cons StandsBefore first ((next ∷ log) ++ entries)
    (All-append (StandsBefore first) (next ∷ log) entries (pairs_head StandsBefore first (next ∷ log) order) (follows_stands first (last_of (next ∷ log)) entries reached.0 reached.1 follow))
    (joined_pairs (next ∷ log) entries (pairs_tail StandsBefore first (next ∷ log) order) more follow)

pub joined_oplog : (log entries : List Entry) → IsOplog log → IsOplog entries → All (Follows (last_of log)) entries → IsOplog (log ++ entries)
joined_oplog log entries oplog more follow = record {
  order = joined_pairs log entries oplog.order more.order follow;
  lawful = All-append IsLawful log entries oplog.lawful more.lawful;
}

most_then_before : (a b c : OpTime) → AtMost a b → is_before b c ≡ true → is_before a c ≡ true
most_then_before a b c most before = go (is_before a c) refl
  where
    go : (d : Bool) → is_before a c ≡ d → is_before a c ≡ true
    go true is = is
    go false is = let late : is_before b c ≡ false = at_most_trans c a b is most in absurd (cc (late, before))

-- they are after all that is at or before the last optime
pub follow_after : (at last : OpTime) (entries : List Entry) → AtMost at last → All (Follows last) entries → All (λ entry. is_before at entry.optime ≡ true) entries
follow_after at last entries most follow k e within =
    most_then_before at last _ most (before_both last _ (follow k e within).term (follow k e within).later)
