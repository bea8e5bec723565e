-- What a node keeps on its disks is always enough to come back with.
use Rattle.std.proofs.Common.{◌≡◌, ◌∙◌, ◌⊎◌, ◌≤◌, ◌<◌, ◌^◌, ◌++◌, ◌||◌, inl, inr, ap, sym, subst, refl, arith, ℕ, Bool, true, false, not, cond, Option, None, Some, IfSome, List, [], ◌∷◌}
use Rattle.std.specs.Prelude.{unwrap_or}
use Rattle.std.specs.List.{All, list_any}
use Rattle.std.proofs.lemmas.List.Elements.{All-filter}
use Rattle.rs_optime.specs.declared.optime.OpTime.{OpTime}
use Rattle.rs_optime.proofs.Optimes.{at_most_refl, at_most_trans, earlier_by, earlier_left, earlier_right}
use Rattle.rs_optime.specs.Membership.{In}
use Rattle.rs_optime.proofs.MembershipLemmas.{in_filter, all_in, in_all}
use Rattle.oplog_entry.specs.Visible.{ZERO, is_before, log_up_to}
use Rattle.oplog_entry.specs.declared.entry.Entry.{Entry}
use Rattle.oplog_store.specs.Log.{IsOplog}
use Rattle.oplog_store.proofs.LogLemmas.{oplog_filter}
use Rattle.entry_bytes.specs.Sizes.{IsWithinEntry}
use Rattle.member_config.specs.declared.config.Config.{Config}
use Rattle.member_config.specs.Rule.{rule}
use Rattle.election_core.specs.Counting.{Tallied}
use Rattle.vote_store.specs.declared.vote.Vote.{Vote}
use Rattle.version_store.specs.declared.history.Version.{Version}
use Rattle.repl_msg.specs.Kept.{kept, with_record}
use Rattle.repl_msg.specs.Logs.{earlier_of, has_entry}
use Rattle.repl_msg.specs.declared.record.Kept.{Kept}
use Rattle.repl_msg.specs.declared.record.Record.{Record}
use Rattle.repl_msg.specs.declared.record.Record.TheVariants as records
use Rattle.repl_msg.proofs.KeptLemmas.{kept_more}
use Rattle.set_model.specs.Disk.{has_more}
use Rattle.set_model.specs.Node.{Node}
use Rattle.set_model.specs.Safety.{AtMost, Has}
use Rattle.node_state.specs.Coherent.{IsCoherent, IsOfTerm, IsRecorded, is_kept}
use Rattle.node_data.specs.Sound.{IsSound}
use Rattle.node_data.specs.Versions.{AreSmall, IsSmall, versions_of}
use Rattle.node_state.specs.WellKept.{IsWellKept, IsReadAs, counted}
use Rattle.node_state.proofs.EntryLemmas.{filter_in, in_has, has_in}
use Rattle.node_data.proofs.LogLemmas.{filter-all, filter-swap, up_to-up_to}
use Rattle.node_data.proofs.VersionLemmas.{up_to-from}

-- ---- optimes and logs

pub earlier_itself : (a : OpTime) → earlier_of a a ≡ a
earlier_itself a = elim (is_before a a) as (λ c. cond c a a ≡ a) [ true ↦ refl | false ↦ refl ]

small_up_to : (at : OpTime) (log : List Entry) → IsOplog log → AreSmall log → AreSmall (log_up_to at log)
small_up_to at log oplog small place =
    subst (λ vs. All (λ (v : Version). IsSmall v.doc) vs) (up_to-from at place None log oplog.order)
    (All-filter (λ (v : Version). not (is_before at v.at)) (λ (v : Version). IsSmall v.doc) (versions_of place log) (small place))

-- an entry up to an optime is in the log up to it
pub has_up_to : (log : List Entry) (at to : OpTime) → Has log at → AtMost at to → Has (log_up_to to log) at
has_up_to log at to has before =
    let found : (one : Entry) × In one log × (one.optime ≡ at) = has_in log at has in
    let passes : not (is_before to found.0.optime) ≡ true = ap (λ o. not (is_before to o)) found.2 ∙ ap not before in
    in_has (log_up_to to log) at found.0 (filter_in (λ (e : Entry). not (is_before to e.optime)) log found.0 found.1 passes) found.2

-- ---- a node in memory

config_found : (config : Option Config) (first own : Config) → unwrap_or config first ≡ own → rule own ≡ None → IfSome config (λ c. rule c ≡ None)
config_found None first own is lawful = tt
config_found (Some config) first own is lawful = ap rule is ∙ lawful

-- up to where the log is durable all of it is kept
pub kept_up_to : (node : Node) (at : OpTime) → IsRecorded node → AtMost at node.durable → log_up_to at (kept node.records).entries ≡ log_up_to at node.log
kept_up_to node at recorded before =
    ap (log_up_to at) recorded.entries
    ∙ filter-swap (λ (e : Entry). not (is_before at e.optime)) (is_kept node) node.log
    ∙ filter-all (is_kept node) (log_up_to at node.log) (in_all (λ (e : Entry). is_kept node e ≡ true) (log_up_to at node.log) each)
  where
    each : (entry : Entry) → In entry (log_up_to at node.log) → is_kept node entry ≡ true
    each entry there =
        let both : In entry node.log × (not (is_before at entry.optime) ≡ true) = in_filter (λ (e : Entry). not (is_before at e.optime)) node.log entry there in
        all_in (λ (e : Entry). is_before node.durable e.optime ≡ false → is_kept node e ≡ true) node.log entry recorded.early both.0
        (at_most_trans entry.optime at node.durable (passed (is_before at entry.optime) both.1) before)
      where
        passed : (b : Bool) → not b ≡ true → b ≡ false
        passed false is = refl
        passed true is = cc is

pub well_kept : (node : Node) (tally : Option Tallied) (optimes : List OpTime) → IsSound node → IsOfTerm node.term node.log node.slots → IsCoherent node tally optimes → IsWellKept node.records node.stable
well_kept node tally optimes sound of_term coherent = record {
  term = subst (λ t. t < 2 ^ 63) (sym term_is) of_term.bound;
  vote = subst (λ (v : Vote). IfSome v.candidate (λ member. member < 50)) (sym coherent.recorded.vote) coherent.vote;
  config = config_found (kept node.records).config node.first node.config coherent.recorded.config coherent.config;
  oplog = subst IsOplog (sym coherent.recorded.entries) (oplog_filter (is_kept node) node.log sound.oplog);
  terms = subst (λ t. All (λ (e : Entry). e.optime.term ≤ t) (kept node.records).entries) (sym term_is)
      (subst (All (λ (e : Entry). e.optime.term ≤ node.term)) (sym coherent.recorded.entries) (All-filter (is_kept node) (λ (e : Entry). e.optime.term ≤ node.term) node.log of_term.entries));
  entries = subst (All IsWithinEntry) (sym counted_is) (All-filter (λ (e : Entry). not (is_before node.durable e.optime)) IsWithinEntry node.log sound.entries);
  documents = subst AreSmall (sym counted_is) (small_up_to node.durable node.log sound.oplog sound.documents);
  there = subst (λ o. (o ≡ ZERO) ⊎ Has (kept node.records).entries o) (sym coherent.recorded.point) (elim coherent.points.there [ inl none ↦ inl none | inr has ↦ inr (has_kept has) ]);
  stable_is = subst (AtMost node.stable) (sym coherent.recorded.point) (at_most_trans node.stable node.commit node.durable coherent.points.stable coherent.points.commit);
}
  where
    term_is : (kept node.records).vote.term ≡ node.term
    term_is = ap (λ (v : Vote). v.term) coherent.recorded.vote

    counted_is : counted node.records ≡ log_up_to node.durable node.log
    counted_is = ap (λ o. log_up_to o (kept node.records).entries) coherent.recorded.point ∙ kept_up_to node node.durable coherent.recorded (at_most_refl node.durable)

    has_kept : Has node.log node.durable → Has (kept node.records).entries node.durable
    has_kept has =
        let found : (one : Entry) × In one node.log × (one.optime ≡ node.durable) = has_in node.log node.durable has in
        ap (has_entry (kept node.records).entries) (sym found.2)
        ∙ all_in (λ (e : Entry). is_before node.durable e.optime ≡ false → is_kept node e ≡ true) node.log found.0 coherent.recorded.early found.1 (ap (is_before node.durable) found.2 ∙ at_most_refl node.durable)

-- none of a list passes a test that not any passes
no_more : (test : Entry → Bool) (log : List Entry) → list_any test log ≡ false → (entry : Entry) → In entry log → test entry ≡ false
no_more test [] none entry there = absurd there
no_more test (other ∷ log) none entry there = go (test other) refl none there (λ rest inside. no_more test log rest entry inside)
  where
    go : (b : Bool) → test other ≡ b → (b || list_any test log) ≡ false → In entry (other ∷ log) → (list_any test log ≡ false → In entry log → test entry ≡ false) → test entry ≡ false
    go true is any there rest = cc any
    go false is any (inl same) rest = ap test (sym same) ∙ is
    go false is any (inr inside) rest = rest any inside

-- ---- one record more

-- what records come to is enough to come back with
record IsWellFound (found : Kept) (stable : OpTime) : Type 0 where
  term : found.vote.term < 2 ^ 63
  vote : IfSome found.vote.candidate (λ member. member < 50)
  config : IfSome found.config (λ c. rule c ≡ None)
  oplog : IsOplog found.entries
  terms : All (λ entry. entry.optime.term ≤ found.vote.term) found.entries
  entries : All IsWithinEntry (log_up_to found.point found.entries)
  documents : AreSmall (log_up_to found.point found.entries)
  there : (found.point ≡ ZERO) ⊎ Has found.entries found.point
  stable_is : AtMost stable found.point

well_found : (items : List Record) (stable : OpTime) (found : Kept) → kept items ≡ found → IsWellFound found stable → IsWellKept items stable
well_found items stable found is well = go (subst (λ (f : Kept). IsWellFound f stable) (sym is) well)
  where
    go : IsWellFound (kept items) stable → IsWellKept items stable
    go here =
        record { term = here.term; vote = here.vote; config = here.config; oplog = here.oplog; terms = here.terms; entries = here.entries; documents = here.documents; there = here.there; stable_is = here.stable_is }

all_more : (log : List Entry) (one two : ℕ) → one ≤ two → All (λ (e : Entry). e.optime.term ≤ one) log → All (λ (e : Entry). e.optime.term ≤ two) log
all_more log one two less all k d inside = let here = all k d inside in omega (arith, here)

-- another vote, in no earlier term
pub well_voted : (items : List Record) (stable : OpTime) (vote : Vote) → (kept items).vote.term ≤ vote.term → vote.term < 2 ^ 63 → IfSome vote.candidate (λ member. member < 50)
    → IsWellKept items stable → IsWellKept (items ++ records.Vote vote ∷ []) stable
well_voted items stable vote later below within old =
    well_found (items ++ records.Vote vote ∷ []) stable (with_record (kept items) (records.Vote vote)) (kept_more items (records.Vote vote)) (record {
      term = below;
      vote = within;
      config = old.config;
      oplog = old.oplog;
      terms = all_more (kept items).entries (kept items).vote.term vote.term later old.terms;
      entries = old.entries;
      documents = old.documents;
      there = old.there;
      stable_is = old.stable_is;
    })

-- another configuration
pub well_configured : (items : List Record) (stable : OpTime) (config : Config) → rule config ≡ None → IsWellKept items stable → IsWellKept (items ++ records.Config config ∷ []) stable
well_configured items stable config lawful old =
    well_found (items ++ records.Config config ∷ []) stable (with_record (kept items) (records.Config config)) (kept_more items (records.Config config)) (record {
      term = old.term;
      vote = old.vote;
      config = lawful;
      oplog = old.oplog;
      terms = old.terms;
      entries = old.entries;
      documents = old.documents;
      there = old.there;
      stable_is = old.stable_is;
    })

-- a cut at ZERO or at an entry, no earlier than the documents of the other disk
pub well_cut : (items : List Record) (stable at : OpTime) → AtMost stable at → (earlier_of (kept items).point at ≡ ZERO) ⊎ Has (kept items).entries (earlier_of (kept items).point at)
    → IsWellKept items stable → IsWellKept (items ++ records.Cut at ∷ []) stable
well_cut items stable at after there old =
    well_found (items ++ records.Cut at ∷ []) stable (with_record (kept items) (records.Cut at)) (kept_more items (records.Cut at)) (record {
      term = old.term;
      vote = old.vote;
      config = old.config;
      oplog = oplog_filter (λ (e : Entry). not (is_before at e.optime)) found.entries old.oplog;
      terms = All-filter (λ (e : Entry). not (is_before at e.optime)) (λ (e : Entry). e.optime.term ≤ found.vote.term) found.entries old.terms;
      entries = subst (All IsWithinEntry) (sym counted_is) (All-filter (λ (e : Entry). not (is_before point e.optime)) IsWithinEntry (counted items) old.entries);
      documents = subst AreSmall (sym counted_is)
          (small_up_to point (counted items) (oplog_filter (λ (e : Entry). not (is_before found.point e.optime)) found.entries old.oplog) old.documents);
      there = elim there [ inl none ↦ inl none | inr has ↦ inr (has_up_to found.entries point at has (earlier_right found.point at)) ];
      stable_is = earlier_by (AtMost stable) found.point at old.stable_is after;
    })
  where
    found : Kept
    found = kept items

    point : OpTime
    point = earlier_of found.point at

    counted_is : log_up_to point (log_up_to at found.entries) ≡ log_up_to point (counted items)
    counted_is =
        up_to-up_to point at found.entries (earlier_right found.point at)
        ∙ sym (up_to-up_to point found.point found.entries (earlier_left found.point at))

-- documents as of another optime
pub well_stable : (items : List Record) (stable at : OpTime) → AtMost at (kept items).point → IsWellKept items stable → IsWellKept items at
well_stable items stable at before old =
    record { term = old.term; vote = old.vote; config = old.config; oplog = old.oplog; terms = old.terms; entries = old.entries; documents = old.documents; there = old.there; stable_is = before }

-- ---- entries after the point

-- A cut at the point itself
pub well_recovered : (items : List Record) (stable : OpTime) → IsWellKept items stable → IsWellKept (items ++ records.Cut (kept items).point ∷ []) stable
well_recovered items stable old =
    well_cut items stable (kept items).point old.stable_is (subst (λ o. (o ≡ ZERO) ⊎ Has (kept items).entries o) (sym (earlier_itself (kept items).point)) old.there) old

-- what was read before a cut at the point
pub read_recovered : (items : List Record) (found : Kept) → found ≡ kept items → IsReadAs found (items ++ records.Cut (kept items).point ∷ [])
read_recovered items found is =
    let more : kept (items ++ records.Cut (kept items).point ∷ []) ≡ with_record (kept items) (records.Cut (kept items).point) = kept_more items (records.Cut (kept items).point) in
    record {
      vote = ap (λ (k : Kept). k.vote) is ∙ sym (ap (λ (k : Kept). k.vote) more);
      config = ap (λ (k : Kept). k.config) is ∙ sym (ap (λ (k : Kept). k.config) more);
      point = ap (λ (k : Kept). k.point) is ∙ sym (earlier_itself (kept items).point) ∙ sym (ap (λ (k : Kept). k.point) more);
      entries = ap (λ (k : Kept). log_up_to k.point k.entries) is ∙ sym (ap (λ (k : Kept). k.entries) more);
    }

-- what was read where nothing comes after the point
pub read_whole : (items : List Record) (found : Kept) → found ≡ kept items → has_more (kept items) ≡ false → IsReadAs found items
read_whole items found is none = record {
  vote = ap (λ (k : Kept). k.vote) is;
  config = ap (λ (k : Kept). k.config) is;
  point = ap (λ (k : Kept). k.point) is;
  entries = ap (λ (k : Kept). log_up_to k.point k.entries) is
      ∙ filter-all (λ (e : Entry). not (is_before (kept items).point e.optime)) (kept items).entries (none_more (λ (e : Entry). is_before (kept items).point e.optime) (kept items).entries none);
}
  where
    none_more : (test : Entry → Bool) (log : List Entry) → list_any test log ≡ false → All (λ e. not (test e) ≡ true) log
    none_more test log none = in_all (λ (e : Entry). not (test e) ≡ true) log (λ e there. ap not (no_more test log none e there))
