-- Which changes of a node in memory keep it coherent.
use Rattle.std.proofs.Common.{◌≡◌, ◌≢◌, ◌∙◌, ◌<◌, arith, inl, inr, ap, sym, subst, refl, ℕ, Bool, true, false, not, filter, map, Option, List}
use Rattle.std.proofs.lemmas.List.Elements.{All-filter}
use Rattle.std.specs.List.{All}
use Rattle.std.specs.Ordering.{nat_cmp}
use Rattle.std.specs.FinMap as maps
use Rattle.std.specs.FinSet as sets
use Rattle.rs_optime.specs.Order.{optime_cmp}
use Rattle.rs_optime.specs.declared.optime.OpTime.{OpTime}
use Rattle.rs_optime.specs.Membership.{In}
use Rattle.rs_optime.proofs.Optimes.{at_most_trans}
use Rattle.rs_optime.proofs.MembershipLemmas.{in_filter, all_in, in_all}
use Rattle.oplog_entry.specs.declared.entry.Entry.{Entry}
use Rattle.oplog_entry.specs.Visible.{is_before}
use Rattle.oplog_entry.proofs.LogLemmas.{filter-without, in_with, with_in}
use Rattle.oplog_store.specs.Log.{IsOplog, with_entry}
use Rattle.election_core.specs.Counting.{Tallied}
use Rattle.repl_msg.specs.Kept.{kept}
use Rattle.repl_msg.specs.Logs.{has_entry}
use Rattle.set_model.specs.Disk.{unjournaled}
use Rattle.set_model.specs.Node.{Node}
use Rattle.set_model.specs.Points.{visible_point}
use Rattle.set_model.specs.Safety.{AtMost, Has}
use Rattle.set_model.specs.declared.writer.Writer.{Writer}
use Rattle.oplog_store.specs.Unjournaled.{with_optime}
use Rattle.oplog_store.proofs.OptimeLemmas.{map-with_entry}
use Rattle.node_data.specs.Kept.{FitsBeside}
use Rattle.node_state.specs.Coherent.{IsCoherent, IsRecorded, IsState, is_kept}
use Rattle.node_state.specs.Seen.{BesideData, seen_node}
use Rattle.node_state.proofs.EntryLemmas.{has_in, in_has, filter-with}

-- ---- another clock, and another place up to which the log is applied

-- a node with these fields
abbrev pub touched : Node → List Entry → sets.FinSet optime_cmp → maps.FinMap nat_cmp Writer → ℕ → Node
touched node log slots writers seen = record node { log = log; slots = slots; writers = writers; seen = seen }

pub coherent-clock : (node : Node) (tally : Option Tallied) (optimes : List OpTime) (seconds : ℕ) → IsCoherent node tally optimes → IsCoherent (record node { clock = seconds }) tally optimes
coherent-clock node tally optimes seconds old = record {
  number = old.number;
  vote = old.vote;
  config = old.config;
  first = old.first;
  points = record { stable = old.points.stable; commit = old.points.commit; durable = old.points.durable; there = old.points.there };
  recorded = record { vote = old.recorded.vote; config = old.recorded.config; entries = old.recorded.entries; early = old.recorded.early; point = old.recorded.point };
  unjournaled = old.unjournaled;
  counts = old.counts;
}

pub coherent-applied : (node : Node) (tally : Option Tallied) (optimes : List OpTime) (at : OpTime) → IsCoherent node tally optimes → IsCoherent (record node { applied = at }) tally optimes
coherent-applied node tally optimes at old = record {
  number = old.number;
  vote = old.vote;
  config = old.config;
  first = old.first;
  points = record { stable = old.points.stable; commit = old.points.commit; durable = old.points.durable; there = old.points.there };
  recorded = record { vote = old.recorded.vote; config = old.recorded.config; entries = old.recorded.entries; early = old.recorded.early; point = old.recorded.point };
  unjournaled = old.unjournaled;
  counts = old.counts;
}

pub state-clock : (n : Node) (rest : BesideData) (optimes : List OpTime) (seconds : ℕ) → IsState n rest optimes → IsState n (record rest { clock = seconds }) optimes
state-clock n rest optimes seconds old =
    record { writable = old.writable; of_term = old.of_term; coherent = coherent-clock (seen_node n rest) rest.tally optimes seconds old.coherent }

pub state-applied : (n : Node) (rest : BesideData) (optimes : List OpTime) (at : OpTime) → IsState n rest optimes → IsState (record n { applied = at }) rest optimes
state-applied n rest optimes at old =
    record { writable = old.writable; of_term = old.of_term; coherent = coherent-applied (seen_node n rest) rest.tally optimes at old.coherent }

-- ---- a slot more or less

-- The log stays, and what is visible goes no less far.
pub coherent-slots : (node : Node) (slots : sets.FinSet optime_cmp) (writers : maps.FinMap nat_cmp Writer) (seen : ℕ) (tally : Option Tallied) (optimes : List OpTime)
    → AtMost (visible_point node) (visible_point (touched node node.log slots writers seen))
    → IsCoherent node tally optimes → IsCoherent (touched node node.log slots writers seen) tally optimes
coherent-slots node slots writers seen tally optimes grows old = record {
  number = old.number;
  vote = old.vote;
  config = old.config;
  first = old.first;
  points = record {
    stable = old.points.stable;
    commit = old.points.commit;
    durable = at_most_trans node.durable (visible_point node) (visible_point (touched node node.log slots writers seen)) old.points.durable grows;
    there = old.points.there;
  };
  recorded = record { vote = old.recorded.vote; config = old.recorded.config; entries = old.recorded.entries; early = old.recorded.early; point = old.recorded.point };
  unjournaled = old.unjournaled;
  counts = old.counts;
}

-- ---- an entry more

-- the entry is after what is durable, has a place in the log, and what is visible goes no less far
pub record IsFresh (node : Node) (entry : Entry) (more : Node) : Type 0 where
  pub after : is_before node.durable entry.optime ≡ true
  pub fits : All (FitsBeside entry) node.log
  pub grows : AtMost (visible_point node) (visible_point more)

same_ts_apart : (entry other : Entry) → FitsBeside entry other → other.optime ≢ entry.optime
same_ts_apart entry other (inl before) same =
    let earlier : other.optime.ts < entry.optime.ts = before.earlier in let ts : other.optime.ts ≡ entry.optime.ts = ap (λ (o : OpTime). o.ts) same in omega (arith, earlier, ts)
same_ts_apart entry other (inr after) same =
    let earlier : entry.optime.ts < other.optime.ts = after.earlier in let ts : other.optime.ts ≡ entry.optime.ts = ap (λ (o : OpTime). o.ts) same in omega (arith, earlier, ts)

not_kept : (node : Node) (entry : Entry) → IsRecorded node → ((other : Entry) → In other node.log → other.optime ≢ entry.optime) → is_kept node entry ≡ false
not_kept node entry recorded apart = go (has_entry (kept node.records).entries entry.optime) refl
  where
    go : (b : Bool) → has_entry (kept node.records).entries entry.optime ≡ b → has_entry (kept node.records).entries entry.optime ≡ false
    go false is = is
    go true is =
        let found : (one : Entry) × In one (kept node.records).entries × (one.optime ≡ entry.optime) = has_in (kept node.records).entries entry.optime is in
        let there : In found.0 (filter (is_kept node) node.log) = subst (In found.0) recorded.entries found.1 in
        absurd (apart found.0 (in_filter (is_kept node) node.log found.0 there).0 found.2)

has_more : (log : List Entry) (entry : Entry) (at : OpTime) → Has log at → Has (with_entry log entry) at
has_more log entry at has =
    let found : (one : Entry) × In one log × (one.optime ≡ at) = has_in log at has in in_has (with_entry log entry) at found.0 (in_with log entry found.0 found.1) found.2

pub coherent-written : (node : Node) (entry : Entry) (slots : sets.FinSet optime_cmp) (writers : maps.FinMap nat_cmp Writer) (seen : ℕ) (tally : Option Tallied) (optimes : List OpTime)
    → IsOplog node.log → IsFresh node entry (touched node (with_entry node.log entry) slots writers seen)
    → IsCoherent node tally optimes → IsCoherent (touched node (with_entry node.log entry) slots writers seen) tally (with_optime optimes entry.optime)
coherent-written node entry slots writers seen tally optimes oplog fresh old = record {
  number = old.number;
  vote = old.vote;
  config = old.config;
  first = old.first;
  points = record {
    stable = old.points.stable;
    commit = old.points.commit;
    durable = at_most_trans node.durable (visible_point node) (visible_point (touched node (with_entry node.log entry) slots writers seen)) old.points.durable fresh.grows;
    there = elim old.points.there [ inl none ↦ inl none | inr has ↦ inr (has_more node.log entry node.durable has) ];
  };
  recorded = record {
    vote = old.recorded.vote;
    config = old.recorded.config;
    entries = old.recorded.entries ∙ sym (filter-without (is_kept node) node.log entry other);
    early = in_all (λ (e : Entry). is_before node.durable e.optime ≡ false → is_kept node e ≡ true) (with_entry node.log entry) early;
    point = old.recorded.point;
  };
  unjournaled =
      ap (λ list. with_optime list entry.optime) old.unjournaled ∙ sym (map-with_entry (unjournaled node) entry (All-filter (λ (e : Entry). not (is_kept node e)) (FitsBeside entry) node.log fresh.fits))
      ∙ ap (map (λ (e : Entry). e.optime)) (sym (filter-with (λ (e : Entry). not (has_entry (kept node.records).entries e.optime)) node.log entry oplog.order (ap not other)));
  counts = old.counts;
}
  where
    other : is_kept node entry ≡ false
    other = not_kept node entry old.recorded (λ one there. same_ts_apart entry one (all_in (FitsBeside entry) node.log one fresh.fits there))

    early : (e : Entry) → In e (with_entry node.log entry) → is_before node.durable e.optime ≡ false → is_kept node e ≡ true
    early e there late = elim (with_in node.log entry e there) [
      | inl before ↦ all_in (λ (one : Entry). is_before node.durable one.optime ≡ false → is_kept node one ≡ true) node.log e old.recorded.early before late
      | inr new ↦ let after : is_before node.durable e.optime ≡ true = subst (λ (one : Entry). is_before node.durable one.optime ≡ true) new fresh.after in absurd (cc (after, late))
    ]

-- ---- what the disks have

pub coherent-stable : (node : Node) (tally : Option Tallied) (optimes : List OpTime) (at : OpTime) → AtMost at node.commit → IsCoherent node tally optimes → IsCoherent (record node { stable = at }) tally optimes
coherent-stable node tally optimes at commit old = record {
  number = old.number;
  vote = old.vote;
  config = old.config;
  first = old.first;
  points = record { stable = commit; commit = old.points.commit; durable = old.points.durable; there = old.points.there };
  recorded = record { vote = old.recorded.vote; config = old.recorded.config; entries = old.recorded.entries; early = old.recorded.early; point = old.recorded.point };
  unjournaled = old.unjournaled;
  counts = old.counts;
}
