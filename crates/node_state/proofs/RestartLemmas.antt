-- What a node comes back with.
use Rattle.std.proofs.Common.{◌≡◌, ◌∙◌, ◌⊎◌, ◌≤◌, ◌<◌, ◌+◌, ◌^◌, inl, inr, ap, sym, subst, refl, ℕ, true, false, not, map, IsTrue, Option, None, Some, IfSome, List, []}
use Rattle.std.specs.Prelude.{unwrap_or}
use Rattle.std.specs.List.{All}
use Rattle.std.specs.FinMap as maps
use Rattle.std.specs.FinSet as sets
use Rattle.rs_optime.specs.Order.{optime_cmp}
use Rattle.rs_optime.specs.declared.optime.OpTime.{OpTime}
use Rattle.rs_optime.specs.Membership.{In}
use Rattle.rs_optime.proofs.Optimes.{at_most_refl, at_most_trans}
use Rattle.rs_optime.proofs.MembershipLemmas.{in_filter, in_all}
use Rattle.oplog_entry.specs.Visible.{ZERO, is_before, last_of, least, entries_before, log_up_to}
use Rattle.oplog_entry.specs.declared.entry.Entry.{Entry}
use Rattle.oplog_entry.proofs.Optimes.{zero_at_most}
use Rattle.oplog_store.specs.Log.{IsOplog}
use Rattle.entry_bytes.specs.Sizes.{IsWithinEntry}
use Rattle.visibility_point.proofs.Least.{none_listed, items_again}
use Rattle.member_config.specs.declared.config.Config.{Config}
use Rattle.member_config.specs.Rule.{rule}
use Rattle.vote_store.specs.declared.vote.Vote.{Vote}
use Rattle.repl_msg.specs.Kept.{kept}
use Rattle.repl_msg.specs.Logs.{has_entry}
use Rattle.repl_msg.specs.declared.record.Kept.{Kept}
use Rattle.repl_msg.specs.declared.record.Record.{Record}
use Rattle.set_model.specs.Disk.{come_back}
use Rattle.set_model.specs.Node.{Node}
use Rattle.set_model.specs.Points.{visible_point}
use Rattle.set_model.specs.Safety.{AtMost, Has}
use Rattle.set_model.specs.declared.role.Role.TheVariants.{Secondary}
use Rattle.node_state.specs.Coherent.{IsCoherent, IsState, is_kept}
use Rattle.node_data.specs.NodeData.{restored}
use Rattle.node_state.specs.Seen.{BesideData, seen_node}
use Rattle.node_data.specs.Versions.{AreSmall}
use Rattle.node_state.specs.WellKept.{IsWellKept, IsReadAs, coming, counted}
use Rattle.node_state.proofs.EntryLemmas.{in_has, has_in, below_last}
use Rattle.node_data.proofs.LogLemmas.{filter-all, filter-none}

-- ---- coming back

no_items : sets.items (sets.empty {R = optime_cmp}) ≡ []
no_items = none_listed (sets.items (sets.empty {R = optime_cmp})) (items_again (sets.empty {R = optime_cmp}))

-- a point that is an entry's, or ZERO, is no further than the last entry
pub no_further : (log : List Entry) (at : OpTime) → IsOplog log → (at ≡ ZERO) ⊎ Has log at → AtMost at (last_of log)
no_further log at oplog (inl none) = subst (λ o. AtMost o (last_of log)) (sym none) (zero_at_most (last_of log))
no_further log at oplog (inr has) =
    let found : (one : Entry) × In one log × (one.optime ≡ at) = has_in log at has in
    subst (λ o. AtMost o (last_of log)) found.2 (below_last log oplog.order found.0 found.1)

config_lawful : (config : Option Config) (first : Config) → IfSome config (λ c. rule c ≡ None) → rule first ≡ None → rule (unwrap_or config first) ≡ None
config_lawful None first lawful first_lawful = first_lawful
config_lawful (Some config) first lawful first_lawful = lawful

pub come_back-coherent : (first : Config) (number : ℕ) (records : List Record) (stable : OpTime) (rollback clock : ℕ) → number < 50 → rule first ≡ None
    → IsWellKept records stable → IsCoherent (come_back (coming first number records stable rollback clock) (kept records)) None []
come_back-coherent first number records stable rollback clock below lawful well = record {
  number = below;
  vote = well.vote;
  config = config_lawful (kept records).config first well.config lawful;
  first = lawful;
  points = record {
    stable = at_most_refl stable;
    commit = well.stable_is;
    durable = subst (AtMost (kept records).point) (sym all_shown) (no_further (kept records).entries (kept records).point well.oplog well.there);
    there = well.there;
  };
  recorded = record {
    vote = refl;
    config = refl;
    entries = sym (filter-all (is_kept node) (kept records).entries (in_all (λ (e : Entry). is_kept node e ≡ true) (kept records).entries has));
    early = in_all (λ (entry : Entry). is_before (kept records).point entry.optime ≡ false → is_kept node entry ≡ true) (kept records).entries (λ entry there late. has entry there);
    point = refl;
  };
  unjournaled = sym (ap (map (λ (entry : Entry). entry.optime)) (filter-none (λ (entry : Entry). not (is_kept node entry)) (kept records).entries
      (in_all (λ (e : Entry). not (is_kept node e) ≡ false) (kept records).entries (λ entry there. ap not (has entry there)))));
  counts = λ candidate. absurd (cc candidate);
}
  where
    node : Node
    node = come_back (coming first number records stable rollback clock) (kept records)

    -- no slot is open
    all_shown : visible_point node ≡ last_of (kept records).entries
    all_shown = ap (λ (slots : List OpTime). last_of (entries_before (least slots) (kept records).entries)) no_items

    has : (entry : Entry) → In entry (kept records).entries → has_entry (kept records).entries entry.optime ≡ true
    has entry there = in_has (kept records).entries entry.optime entry there refl

-- beside its log, what a node comes back with that was read
abbrev pub rest_read : Config → ℕ → List Record → OpTime → ℕ → ℕ → Vote → Option Config → OpTime → BesideData
rest_read first number records stable rollback clock vote config point =
    record {
      number = number;
      first = first;
      role = Secondary;
      term = vote.term;
      clock = clock;
      vote = vote.candidate;
      records = records;
      durable = point;
      commit = stable;
      config = unwrap_or config first;
      progress = maps.empty;
      known = maps.empty;
      tally = None;
      dry_tally = None;
      lost = [];
      rollback = rollback + 1;
    }

-- what was read of the records is what they keep
pub restored_is : (first : Config) (number : ℕ) (records : List Record) (stable : OpTime) (rollback clock : ℕ) (found : Kept) → IsReadAs found records
    → seen_node (restored (log_up_to found.point found.entries) stable) (rest_read first number records stable rollback clock found.vote found.config found.point)
    ≡ come_back (coming first number records stable rollback clock) (kept records)
restored_is first number records stable rollback clock found read =
    let made : Vote → Option Config → List Entry → OpTime → Node =
    λ vote config entries point. seen_node (restored entries stable) (rest_read first number records stable rollback clock vote config point) in
    λ i. made (read.vote i) (read.config i) (read.entries i) (read.point i)

-- where nothing was read after the point, nothing is kept after it
pub all_counted : (found : Kept) (records : List Record) → IsReadAs found records → counted records ≡ (kept records).entries
all_counted found records read =
    filter-all (λ (e : Entry). not (is_before (kept records).point e.optime)) (kept records).entries
    (in_all (λ (e : Entry). not (is_before (kept records).point e.optime) ≡ true) (kept records).entries passes)
  where
    passes : (entry : Entry) → In entry (kept records).entries → not (is_before (kept records).point entry.optime) ≡ true
    passes entry there =
        let read_too : In entry (log_up_to found.point found.entries) = subst (In entry) (sym read.entries) there in
        ap (λ o. not (is_before o entry.optime)) (sym read.point) ∙ (in_filter (λ (e : Entry). not (is_before found.point e.optime)) found.entries entry read_too).1

-- the term, entries and optime of the documents that a node is restored with
pub record IsRestorable (term : ℕ) (entries : List Entry) (at : OpTime) : Type 0 where
  pub term_below : term < 2 ^ 63
  pub oplog : IsOplog entries
  pub within : All IsWithinEntry entries
  pub terms : All (λ entry. entry.optime.term ≤ term) entries
  pub small : AreSmall entries
  pub reached : AtMost at (last_of entries)

pub restorable : (found : Kept) (records : List Record) (stable : OpTime) (entries : List Entry) → IsWellKept records stable → IsReadAs found records
    → entries ≡ log_up_to found.point found.entries → IsRestorable found.vote.term entries stable
restorable found records stable entries well read is =
    let same : (kept records).entries ≡ entries = sym (is ∙ read.entries) in
    let term : (kept records).vote.term ≡ found.vote.term = sym (ap (λ (v : Vote). v.term) read.vote) in
    subst (λ t. IsRestorable t entries stable) term (subst (λ l. IsRestorable (kept records).vote.term l stable) same kept_restorable)
  where
    kept_restorable : IsRestorable (kept records).vote.term (kept records).entries stable
    kept_restorable = record {
      term_below = well.term;
      oplog = well.oplog;
      within = subst (All IsWithinEntry) (all_counted found records read) well.entries;
      terms = well.terms;
      small = subst AreSmall (all_counted found records read) well.documents;
      reached = at_most_trans stable (kept records).point (last_of (kept records).entries) well.stable_is (no_further (kept records).entries (kept records).point well.oplog well.there);
    }

no_slot : (slot : OpTime) (term : ℕ) → IsTrue (sets.contains (sets.empty {R = optime_cmp}) slot) → slot.term ≡ term
no_slot slot term there = absurd (cc (sets.contains-empty optime_cmp slot, there))

-- a node that comes back is coherent, and nothing in its log isn't in its records
pub restored-state : (first : Config) (number : ℕ) (records : List Record) (stable : OpTime) (rollback clock : ℕ) (found : Kept) (node_data : Node) (rest : BesideData) (optimes : List OpTime)
    → number < 50 → rule first ≡ None → IsWellKept records stable → IsReadAs found records
    → node_data ≡ restored (log_up_to found.point found.entries) stable
    → rest ≡ rest_read first number records stable rollback clock found.vote found.config found.point → optimes ≡ []
    → IsState node_data rest optimes
restored-state first number records stable rollback clock found node_data rest optimes below lawful well read data_is rest_is none =
    subst (IsState node_data rest) (sym none) (subst (λ (r : BesideData). IsState node_data r []) (sym rest_is) (subst (λ (n : Node). IsState n own []) (sym data_is) (record {
      writable = refl;
      of_term = record { bound = can.term_below; entries = can.terms; open_slots = λ slot there. no_slot slot found.vote.term there };
      coherent = subst (λ (n : Node). IsCoherent n None []) (sym (restored_is first number records stable rollback clock found read)) (come_back-coherent first number records stable rollback clock below lawful well);
    })))
  where
    own : BesideData
    own = rest_read first number records stable rollback clock found.vote found.config found.point

    can : IsRestorable found.vote.term (log_up_to found.point found.entries) stable
    can = restorable found records stable (log_up_to found.point found.entries) well read refl
