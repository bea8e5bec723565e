-- A log that is cut after a point keeps a node coherent.
use Rattle.std.proofs.Common.{◌≡◌, ◌∙◌, ◌⊎◌, ◌+◌, ◌++◌, ◌&&◌, inl, inr, ap, sym, subst, refl, Bool, true, false, not, cond, filter, map, Option, List, [], ◌∷◌}
use Rattle.std.specs.Prelude.{unwrap_or}
use Rattle.std.specs.List.{All}
use Rattle.std.specs.FinSet as sets
use Rattle.bson_doc.specs.Place.{Place}
use Rattle.bson_doc.specs.Tree.{Fields}
use Rattle.rs_optime.specs.Order.{optime_cmp}
use Rattle.rs_optime.specs.declared.optime.OpTime.{OpTime}
use Rattle.rs_optime.specs.Membership.{In}
use Rattle.rs_optime.proofs.Optimes.{at_most_trans, earlier_by, earlier_left, earlier_right}
use Rattle.rs_optime.proofs.MembershipLemmas.{in_filter, filter-same, all_in, in_all}
use Rattle.oplog_entry.specs.Visible.{ZERO, is_before, last_of, least, entries_before, log_up_to}
use Rattle.oplog_entry.specs.declared.entry.Entry.{Entry}
use Rattle.oplog_store.proofs.LogLemmas.{oplog_filter}
use Rattle.visibility_point.proofs.Least.{none_listed, items_again}
use Rattle.election_core.specs.Counting.{Tallied}
use Rattle.repl_msg.specs.Kept.{kept, with_record}
use Rattle.repl_msg.specs.Logs.{earlier_of, has_entry}
use Rattle.repl_msg.proofs.HasLemmas.{has_filter}
use Rattle.repl_msg.specs.declared.record.Kept.{Kept}
use Rattle.repl_msg.specs.declared.record.Record.{Record}
use Rattle.repl_msg.specs.declared.record.Record.TheVariants as records
use Rattle.repl_msg.proofs.KeptLemmas.{kept_more}
use Rattle.set_model.specs.Disk.{unjournaled}
use Rattle.set_model.specs.Node.{Node}
use Rattle.set_model.specs.Roles.{is_primary}
use Rattle.set_model.specs.Safety.{AtMost, Has}
use Rattle.oplog_store.specs.Unjournaled.{up_to}
use Rattle.node_state.specs.Coherent.{IsCoherent, IsOfTerm, IsState, is_kept}
use Rattle.node_state.specs.Ready.{IsCut}
use Rattle.node_state.specs.Seen.{BesideData, seen_node}
use Rattle.node_data.specs.Sound.{IsSound}
use Rattle.node_data.proofs.LogLemmas.{filter-swap}
use Rattle.node_state.proofs.RestartLemmas.{no_further}
use Rattle.node_state.proofs.StateLemmas.{of_term-filtered}
use Rattle.node_state.proofs.StoredLemmas.{sound_seen}
use Rattle.node_state.proofs.WellKeptLemmas.{has_up_to}

-- ---- lists

optimes_up_to : (point : OpTime) (log : List Entry) → up_to point (map (λ (e : Entry). e.optime) log) ≡ map (λ (e : Entry). e.optime) (log_up_to point log)
optimes_up_to point [] = refl
optimes_up_to point (entry ∷ log) = go (not (is_before point entry.optime)) (optimes_up_to point log)
  where
    go : (b : Bool) → up_to point (map (λ (e : Entry). e.optime) log) ≡ map (λ (e : Entry). e.optime) (log_up_to point log)
        → cond b (entry.optime ∷ up_to point (map (λ (e : Entry). e.optime) log)) (up_to point (map (λ (e : Entry). e.optime) log)) ≡ map (λ (e : Entry). e.optime) (cond b (entry ∷ log_up_to point log) (log_up_to point log))
    go true rest = ap (λ l. entry.optime ∷ l) rest
    go false rest = rest

-- ---- the node once its log is cut

-- what is kept of a log that is cut
record KeepsCut (node : Node) (point : OpTime) (optimes : List OpTime) (found : Kept) : Type 0 where
  vote_is : found.vote ≡ record { term = node.term; candidate = node.vote }
  config_is : unwrap_or found.config node.first ≡ node.config
  entries_are : found.entries ≡ filter (λ (e : Entry). has_entry found.entries e.optime) (log_up_to point node.log)
  early : All (λ (e : Entry). is_before (earlier_of node.durable point) e.optime ≡ false → has_entry found.entries e.optime ≡ true) (log_up_to point node.log)
  point_is : found.point ≡ earlier_of node.durable point
  unkept_are : up_to point optimes ≡ map (λ (e : Entry). e.optime) (filter (λ (e : Entry). not (has_entry found.entries e.optime)) (log_up_to point node.log))

abbrev pub cut_node : Node → OpTime → List (Place × Option Fields) → Node
cut_node node point lost =
    record node {
      records = node.records ++ records.Cut point ∷ [];
      log = log_up_to point node.log;
      applied = point;
      durable = earlier_of node.durable point;
      lost = lost;
      rollback = node.rollback + 1;
    }

module _ (node : Node) (point : OpTime) (lost : List (Place × Option Fields)) (tally : Option Tallied) (optimes : List OpTime)
    (sound : IsSound node) (can : IsCut point node) (old : IsCoherent node tally optimes) where
  more : kept (node.records ++ records.Cut point ∷ []) ≡ with_record (kept node.records) (records.Cut point)
  more = kept_more node.records (records.Cut point)

  -- of the entries that stay the same ones are kept
  same_kept : (entry : Entry) → In entry (log_up_to point node.log) → has_entry (log_up_to point (kept node.records).entries) entry.optime ≡ is_kept node entry
  same_kept entry there =
      has_filter (λ o. not (is_before point o)) (kept node.records).entries entry.optime
      ∙ ap (λ b. b && is_kept node entry) (in_filter (λ (e : Entry). not (is_before point e.optime)) node.log entry there).1

  entries_are : log_up_to point (kept node.records).entries ≡ filter (λ (e : Entry). has_entry (log_up_to point (kept node.records).entries) e.optime) (log_up_to point node.log)
  entries_are =
      ap (log_up_to point) old.recorded.entries
      ∙ filter-swap (λ (e : Entry). not (is_before point e.optime)) (is_kept node) node.log
      ∙ sym (filter-same (λ (e : Entry). has_entry (log_up_to point (kept node.records).entries) e.optime) (is_kept node) (log_up_to point node.log) same_kept)

  unkept_are : up_to point optimes ≡ map (λ (e : Entry). e.optime) (filter (λ (e : Entry). not (has_entry (log_up_to point (kept node.records).entries) e.optime)) (log_up_to point node.log))
  unkept_are =
      ap (up_to point) old.unjournaled
      ∙ optimes_up_to point (unjournaled node)
      ∙ ap (map (λ (e : Entry). e.optime))
      (filter-swap (λ (e : Entry). not (is_before point e.optime)) (λ (e : Entry). not (is_kept node e)) node.log
      ∙ sym (filter-same (λ (e : Entry). not (has_entry (log_up_to point (kept node.records).entries) e.optime)) (λ (e : Entry). not (is_kept node e)) (log_up_to point node.log)
      (λ entry there. ap not (same_kept entry there))))

  kept_early : (entry : Entry) → In entry (log_up_to point node.log) → is_before (earlier_of node.durable point) entry.optime ≡ false
      → has_entry (log_up_to point (kept node.records).entries) entry.optime ≡ true
  kept_early entry there early =
      same_kept entry there
      ∙ all_in (λ (e : Entry). is_before node.durable e.optime ≡ false → is_kept node e ≡ true) node.log entry old.recorded.early
      (in_filter (λ (e : Entry). not (is_before point e.optime)) node.log entry there).0
      (at_most_trans entry.optime (earlier_of node.durable point) node.durable early (earlier_left node.durable point))

  durable_there : (earlier_of node.durable point ≡ ZERO) ⊎ Has (log_up_to point node.log) (earlier_of node.durable point)
  durable_there = elim whole [ inl none ↦ inl none | inr has ↦ inr (has_up_to node.log (earlier_of node.durable point) point has (earlier_right node.durable point)) ]
    where
      whole : (earlier_of node.durable point ≡ ZERO) ⊎ Has node.log (earlier_of node.durable point)
      whole = earlier_by (λ o. (o ≡ ZERO) ⊎ Has node.log o) node.durable point old.points.there can.there

  -- a secondary has no slots
  all_shown : last_of (entries_before (least (sets.items node.slots)) (log_up_to point node.log)) ≡ last_of (log_up_to point node.log)
  all_shown =
      ap (λ slots. last_of (entries_before (least (sets.items slots)) (log_up_to point node.log))) (sound.idle (ap is_primary can.role)).slots
      ∙ ap (λ (slots : List OpTime). last_of (entries_before (least slots) (log_up_to point node.log)))
      (none_listed (sets.items (sets.empty {R = optime_cmp})) (items_again (sets.empty {R = optime_cmp})))

  recorded_cut : KeepsCut node point optimes (kept (node.records ++ records.Cut point ∷ []))
  recorded_cut = subst (KeepsCut node point optimes) (sym more) (record {
    vote_is = old.recorded.vote;
    config_is = old.recorded.config;
    entries_are = entries_are;
    early = in_all (λ (e : Entry). is_before (earlier_of node.durable point) e.optime ≡ false → has_entry (log_up_to point (kept node.records).entries) e.optime ≡ true) (log_up_to point node.log) kept_early;
    point_is = ap (λ o. earlier_of o point) old.recorded.point;
    unkept_are = unkept_are;
  })

  pub coherent-cut : IsCoherent (cut_node node point lost) tally (up_to point optimes)
  coherent-cut = record {
    number = old.number;
    vote = old.vote;
    config = old.config;
    first = old.first;
    points = record {
      stable = old.points.stable;
      commit = earlier_by (AtMost node.commit) node.durable point old.points.commit can.commit;
      durable = subst (AtMost (earlier_of node.durable point)) (sym all_shown)
          (no_further (log_up_to point node.log) (earlier_of node.durable point) (oplog_filter (λ (e : Entry). not (is_before point e.optime)) node.log sound.oplog) durable_there);
      there = durable_there;
    };
    recorded = record { vote = recorded_cut.vote_is; config = recorded_cut.config_is; entries = recorded_cut.entries_are; early = recorded_cut.early; point = recorded_cut.point_is };
    unjournaled = recorded_cut.unkept_are;
    counts = old.counts;
  }

-- the same of a node's parts in memory
pub coherent-rolled : (n m : Node) (rest : BesideData) (items : List Record) (point durable : OpTime) (lost : List (Place × Option Fields)) (optimes fewer : List OpTime)
    → m ≡ record n { log = log_up_to point n.log; applied = point } → items ≡ rest.records ++ records.Cut point ∷ [] → durable ≡ earlier_of rest.durable point → fewer ≡ up_to point optimes
    → IsSound (seen_node n rest) → IsCut point (seen_node n rest) → IsCoherent (seen_node n rest) rest.tally optimes
    → IsCoherent (seen_node m (record rest { records = items; durable = durable; lost = lost; rollback = rest.rollback + 1 })) rest.tally fewer
coherent-rolled n m rest items point durable lost optimes fewer log_is items_are durable_is fewer_are sound can old =
    subst (λ (k : Node × (List Record × (OpTime × List OpTime))). IsCoherent (seen_node k.0 (record rest { records = k.1.0; durable = k.1.1.0; lost = lost; rollback = rest.rollback + 1 })) rest.tally k.1.1.1)
    (λ i. (sym log_is i, (sym items_are i, (sym durable_is i, sym fewer_are i))))
    (coherent-cut (seen_node n rest) point lost rest.tally optimes sound can old)

-- the same of a state
pub state-rolled : (n m : Node) (rest : BesideData) (items : List Record) (point durable : OpTime) (lost : List (Place × Option Fields)) (optimes fewer : List OpTime)
    → m ≡ record n { log = log_up_to point n.log; applied = point } → items ≡ rest.records ++ records.Cut point ∷ [] → durable ≡ earlier_of rest.durable point → fewer ≡ up_to point optimes
    → IsSound n → IsCut point (seen_node n rest) → IsState n rest optimes
    → IsState m (record rest { records = items; durable = durable; lost = lost; rollback = rest.rollback + 1 }) fewer
state-rolled n m rest items point durable lost optimes fewer log_is items_are durable_is fewer_are sound can old = record {
  writable = ap (λ (k : Node). k.role) log_is ∙ old.writable;
  of_term = subst (λ (k : Node). IsOfTerm rest.term k.log k.slots) (sym log_is)
      (of_term-filtered rest.term n.log n.slots (λ (e : Entry). not (is_before point e.optime)) old.of_term);
  coherent = coherent-rolled n m rest items point durable lost optimes fewer log_is items_are durable_is fewer_are
      (sound_seen n rest old.writable sound) can old.coherent;
}
