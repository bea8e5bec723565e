-- Whatever a turn stores, the node can come back with it, and the documents of the other disk stay those of its records.
use Rattle.std.proofs.Common.{◌≡◌, ◌∙◌, ◌⊎◌, ◌≤◌, ◌<◌, ◌+◌, ◌^◌, inl, inr, ap, sym, subst, refl, arith, ℕ, Bool, true, false, cond, drop, length, Option, None, Some, IfSome, List}
use Rattle.rs_optime.specs.declared.optime.OpTime.{OpTime}
use Rattle.rs_optime.specs.Membership.{In}
use Rattle.rs_optime.proofs.Optimes.{at_most_refl, at_most_trans, earlier_by, earlier_left, earlier_right}
use Rattle.rs_optime.proofs.MembershipLemmas.{all_in}
use Rattle.oplog_entry.specs.Visible.{ZERO, is_before, log_up_to}
use Rattle.oplog_entry.specs.declared.entry.Entry.{Entry}
use Rattle.member_config.specs.declared.config.Config.{Config}
use Rattle.member_config.specs.Rule.{rule}
use Rattle.election_core.specs.Counting.{Tallied}
use Rattle.vote_store.specs.declared.vote.Vote.{Vote}
use Rattle.repl_msg.specs.Kept.{kept}
use Rattle.repl_msg.specs.Logs.{earlier_of, has_entry}
use Rattle.repl_msg.specs.declared.message.VoteRefusal.{VoteRefusal}
use Rattle.repl_msg.specs.declared.record.Kept.{Kept}
use Rattle.repl_msg.specs.declared.record.Record.{Record}
use Rattle.repl_msg.specs.declared.record.Record.TheVariants as records
use Rattle.repl_msg.proofs.KeptLemmas.{kept_more}
use Rattle.set_model.specs.declared.store.Store.{Store}
use Rattle.set_model.specs.declared.store.Store.TheVariants as stores
use Rattle.set_model.specs.Disk.{next_entries, next_durable, next_stable}
use Rattle.set_model.specs.Node.{Node}
use Rattle.set_model.specs.Points.{applied_point, visible_point, if_primary}
use Rattle.set_model.specs.Roles.{is_primary}
use Rattle.set_model.specs.declared.role.Role.{Role}
use Rattle.set_model.specs.declared.role.Role.TheVariants.{Secondary, Candidate, Draining, Primary}
use Rattle.set_model.specs.Rollback.{cut_record}
use Rattle.set_model.specs.Safety.{AtMost, Has}
use Rattle.set_model.specs.Stores.{records_after, vote_record, config_record}
use Rattle.set_model.specs.Votes.{vote_for}
use Rattle.node_state.specs.Coherent.{IsCoherent, IsOfTerm, IsState, is_kept}
use Rattle.node_state.specs.Ready.{IsReady, IsReadyTurn, CanBeStored, IsCut}
use Rattle.node_data.specs.Sound.{IsIdle, IsSound}
use Rattle.node_state.specs.StateView.{StateView}
use Rattle.node_data.specs.NodeData.{IsReadable, data_role}
use Rattle.node_state.specs.Seen.{BesideData, seen_node}
use Rattle.node_state.specs.WellKept.{IsWellKept, StoresWell}
use Rattle.node_state.specs.declared.turn.Continuation.{Continuation}
use Rattle.node_state.specs.declared.turn.Continuation.TheVariants.{Campaign, Drain, Flush, Checkpoint, Reconfig, VoteInTerm, VoteGiven, TookTerm, Installed, Cut}
use Rattle.node_state.specs.declared.turn.Turn.TheVariants.{Storing}
use Rattle.node_state.proofs.EntryLemmas.{has_in}
use Rattle.node_state.proofs.FlushLemmas.{flushed_node, coherent-flushed}
use Rattle.node_data.proofs.LogLemmas.{up_to-up_to}
use Rattle.node_state.proofs.StateLemmas.{if_seen, primary_seen}
use Rattle.node_state.proofs.WellKeptLemmas.{kept_up_to, well_kept, well_voted, well_configured, well_cut, well_stable}

-- what is true of a node's data is true of the node
pub sound_seen : (node_data : Node) (rest : BesideData) → node_data.role ≡ data_role (is_primary rest.role) → IsSound node_data → IsSound (seen_node node_data rest)
sound_seen node_data rest writable sound = record {
  oplog = sound.oplog;
  entries = sound.entries;
  documents = sound.documents;
  marked = sound.marked;
  idle = λ other.
      let idle : IsIdle node_data = sound.idle (primary_seen node_data.role rest.role writable ∙ other) in record { slots = idle.slots; writers = idle.writers };
  applied = sound.applied;
  stable = subst (AtMost node_data.stable) (if_seen node_data.role rest.role (visible_point node_data) node_data.applied writable) sound.stable;
}

other_point : (role : Role) (a b : OpTime) → is_primary role ≡ false → if_primary role a b ≡ b
other_point Primary a b other = cc other
other_point Secondary a b other = refl
other_point Candidate a b other = refl
other_point Draining a b other = refl

-- what is said of the data doesn't hang on what is kept
sound-kept : (node : Node) (items : List Record) (durable : OpTime) → IsSound node → IsSound (record node { records = items; durable = durable })
sound-kept node items durable sound = record {
  oplog = sound.oplog;
  entries = sound.entries;
  documents = sound.documents;
  marked = sound.marked;
  idle = λ other. record { slots = (sound.idle other).slots; writers = (sound.idle other).writers };
  applied = sound.applied;
  stable = sound.stable;
}

module _ (node : Node) (tally : Option Tallied) (optimes : List OpTime) (sound : IsSound node) (of_term : IsOfTerm node.term node.log node.slots) (coherent : IsCoherent node tally optimes) where
  well : IsWellKept node.records node.stable
  well = well_kept node tally optimes sound of_term coherent

  stable_within : AtMost node.stable node.durable
  stable_within = at_most_trans node.stable node.commit node.durable coherent.points.stable coherent.points.commit

  term_is : (kept node.records).vote.term ≡ node.term
  term_is = ap (λ (v : Vote). v.term) coherent.recorded.vote

  stable_readable : IsReadable node node.stable
  stable_readable = record { kept = at_most_refl node.stable; reached = λ other. subst (AtMost node.stable) (other_point node.role (visible_point node) node.applied other) sound.stable }

  next_within : AtMost (next_stable node) node.durable
  next_within = at_most_trans (next_stable node) node.commit node.durable (earlier_left node.commit (applied_point node)) coherent.points.commit

  -- a vote for a member or for none, in no earlier term
  votes_well : (term : ℕ) (candidate : Option ℕ) → node.term ≤ term → term < 2 ^ 63 → IfSome candidate (λ member. member < 50) → StoresWell node (vote_record term candidate)
  votes_well term candidate later below within = record {
    well = well_voted node.records node.stable (record { term = term; candidate = candidate }) (omega (arith, term_is, later)) below within well;
    same = ap (λ (k : Kept). log_up_to node.stable k.entries) (kept_more node.records (records.Vote (record { term = term; candidate = candidate })));
    shown = kept_up_to node node.stable coherent.recorded stable_within;
    readable = stable_readable;
  }

  configures_well : (config : Config) → rule config ≡ None → StoresWell node (config_record config)
  configures_well config lawful = record {
    well = well_configured node.records node.stable config lawful well;
    same = ap (λ (k : Kept). log_up_to node.stable k.entries) (kept_more node.records (records.Config config));
    shown = kept_up_to node node.stable coherent.recorded stable_within;
    readable = stable_readable;
  }

  flushed_sound : IsSound (flushed_node node)
  flushed_sound = sound-kept node (records_after node.records (stores.Record (records.Entries (next_entries node) (next_durable node)))) (next_durable node) sound

  flushes_well : StoresWell node (stores.Record (records.Entries (next_entries node) (next_durable node)))
  flushes_well =
      let after : IsCoherent (flushed_node node) tally (drop (length (next_entries node)) optimes) = coherent-flushed node tally optimes sound.oplog coherent in
      record {
        well = well_kept (flushed_node node) tally (drop (length (next_entries node)) optimes) flushed_sound of_term after;
        same =
            kept_up_to (flushed_node node) node.stable after.recorded (at_most_trans node.stable node.commit (next_durable node) after.points.stable after.points.commit)
            ∙ sym (kept_up_to node node.stable coherent.recorded stable_within);
        shown = kept_up_to node node.stable coherent.recorded stable_within;
        readable = stable_readable;
      }

  checkpoints_well : StoresWell node (stores.Checkpoint (next_stable node))
  checkpoints_well = record {
    well = well_stable node.records node.stable (next_stable node)
        (subst (AtMost (next_stable node)) (sym coherent.recorded.point) next_within) well;
    same = refl;
    shown = kept_up_to node (next_stable node) coherent.recorded next_within;
    readable = record {
      kept = earlier_by (AtMost node.stable) node.commit (applied_point node) coherent.points.stable sound.stable;
      reached = λ other. subst (AtMost (next_stable node)) (other_point node.role (visible_point node) node.applied other) (earlier_right node.commit (applied_point node));
    };
  }

  -- the earlier of what is durable and an entry's optime is an entry's that is kept
  cut_there : (point : OpTime) → (point ≡ ZERO) ⊎ Has node.log point → (earlier_of node.durable point ≡ ZERO) ⊎ Has (kept node.records).entries (earlier_of node.durable point)
  cut_there point there = go (is_before node.durable point) refl
    where
      go : (b : Bool) → is_before node.durable point ≡ b → (cond b node.durable point ≡ ZERO) ⊎ Has (kept node.records).entries (cond b node.durable point)
      go true is = subst (λ o. (o ≡ ZERO) ⊎ Has (kept node.records).entries o) coherent.recorded.point well.there
      go false is = elim there [
        | inl none ↦ inl none
        | inr has ↦
            let found : (one : Entry) × In one node.log × (one.optime ≡ point) = has_in node.log point has in
            inr (ap (has_entry (kept node.records).entries) (sym found.2)
            ∙ all_in (λ (e : Entry). is_before node.durable e.optime ≡ false → is_kept node e ≡ true) node.log found.0 coherent.recorded.early found.1 (ap (is_before node.durable) found.2 ∙ is))
      ]

  cuts_well : (point : OpTime) → IsCut point node → StoresWell node (cut_record point)
  cuts_well point can =
      let tail : AtMost node.stable point = at_most_trans node.stable node.commit point coherent.points.stable can.commit in
      record {
        well = well_cut node.records node.stable point tail
            (subst (λ o. (earlier_of o point ≡ ZERO) ⊎ Has (kept node.records).entries (earlier_of o point)) (sym coherent.recorded.point) (cut_there point can.there)) well;
        same = ap (λ (k : Kept). log_up_to node.stable k.entries) (kept_more node.records (records.Cut point)) ∙ up_to-up_to node.stable point (kept node.records).entries tail;
        shown = kept_up_to node node.stable coherent.recorded stable_within;
        readable = stable_readable;
      }

vote_within : (from : ℕ) (why : Option VoteRefusal) → from < 50 → IfSome (vote_for from why) (λ member. member < 50)
vote_within from None below = below
vote_within from (Some refusal) below = tt

as_item : (node : Node) (item own : Store) → item ≡ own → StoresWell node own → StoresWell node item
as_item node item own is stores = subst (StoresWell node) (sym is) stores

pub stores_well : (item : Store) (then : Continuation) (standing : StateView) (tally : Option Tallied) (optimes : List OpTime) → IsSound standing.node → IsOfTerm standing.node.term standing.node.log standing.node.slots
    → IsCoherent standing.node tally optimes → IsReady item then standing → CanBeStored item → StoresWell standing.node item
stores_well item (Campaign next votes sent) standing tally optimes sound of_term coherent ready can =
    as_item standing.node item _ ready.item_is
    (votes_well standing.node tally optimes sound of_term coherent (standing.node.term + 1) (Some standing.node.number) (omega arith) (let below = ready.term in omega (arith, below)) coherent.number)
stores_well item (Drain config) standing tally optimes sound of_term coherent ready can =
    as_item standing.node item _ ready.item_is (configures_well standing.node tally optimes sound of_term coherent config (subst CanBeStored ready.item_is can))
stores_well item (Flush count point) standing tally optimes sound of_term coherent ready can =
    as_item standing.node item _ ready.item_is (flushes_well standing.node tally optimes sound of_term coherent)
stores_well item (Checkpoint at) standing tally optimes sound of_term coherent ready can =
    as_item standing.node item _ (ready.item_is ∙ ap (λ o. stores.Checkpoint o) ready.at_is) (checkpoints_well standing.node tally optimes sound of_term coherent)
stores_well item (Reconfig config) standing tally optimes sound of_term coherent ready can =
    as_item standing.node item _ ready.item_is (configures_well standing.node tally optimes sound of_term coherent config ready.lawful)
stores_well item (VoteInTerm next from ask why sent) standing tally optimes sound of_term coherent ready can =
    as_item standing.node item _ ready.item_is
    (votes_well standing.node tally optimes sound of_term coherent ask.asked (vote_for from why) (let above = ready.above in omega (arith, above)) ready.term (vote_within from why ready.from_is))
stores_well item (VoteGiven next from ask why sent) standing tally optimes sound of_term coherent ready can =
    as_item standing.node item _ ready.item_is
    (votes_well standing.node tally optimes sound of_term coherent standing.node.term (Some from) (omega arith) of_term.bound ready.from_is)
stores_well item (TookTerm term told) standing tally optimes sound of_term coherent ready can =
    as_item standing.node item _ ready.item_is
    (votes_well standing.node tally optimes sound of_term coherent term None (let above = ready.above in omega (arith, above)) ready.bound tt)
stores_well item (Installed config hearing) standing tally optimes sound of_term coherent ready can =
    as_item standing.node item _ ready.item_is (configures_well standing.node tally optimes sound of_term coherent config ready.lawful)
stores_well item (Cut point removed lost) standing tally optimes sound of_term coherent ready can =
    as_item standing.node item _ ready.0 (cuts_well standing.node tally optimes sound of_term coherent point ready.1)

-- the same of a node's parts in memory
pub well_in_memory : (node_data : Node) (rest : BesideData) (optimes : List OpTime) → IsSound node_data → IsState node_data rest optimes → IsWellKept rest.records node_data.stable
well_in_memory node_data rest optimes sound state = well_kept (seen_node node_data rest) rest.tally optimes (sound_seen node_data rest state.writable sound) state.of_term state.coherent

pub stores_in_memory : (item : Store) (then : Continuation) (node_data : Node) (rest : BesideData) (spare places : ℕ) (optimes : List OpTime) → IsSound node_data → IsState node_data rest optimes
    → IsReadyTurn (Storing item then) (record { node = seen_node node_data rest; spare = spare; places = places }) → StoresWell (seen_node node_data rest) item
stores_in_memory item then node_data rest spare places optimes sound state ready =
    stores_well item then (record { node = seen_node node_data rest; spare = spare; places = places }) rest.tally optimes (sound_seen node_data rest state.writable sound) state.of_term state.coherent ready.0 ready.1
