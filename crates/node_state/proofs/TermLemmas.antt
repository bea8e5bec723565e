-- A change of role, term, vote or configuration keeps a node coherent.
use Rattle.std.proofs.Common.{◌≡◌, ◌≢◌, ◌∙◌, ◌<◌, ◌≤◌, ◌^◌, arith, ap, sym, subst, ℕ, true, false, not, filter, map, Option, None, Some, IfSome, List, [], ◌∷◌, ◌++◌}
use Rattle.std.specs.Prelude.{unwrap_or}
use Rattle.std.specs.List.{All}
use Rattle.std.specs.Ordering.{nat_cmp}
use Rattle.std.specs.FinMap as maps
use Rattle.std.specs.FinSet as sets
use Rattle.rs_optime.specs.Order.{optime_cmp, is_before}
use Rattle.rs_optime.specs.declared.optime.OpTime.{OpTime}
use Rattle.rs_optime.specs.Membership.{In}
use Rattle.rs_optime.proofs.Optimes.{at_most_refl, at_most_trans}
use Rattle.oplog_entry.specs.declared.entry.Entry.{Entry}
use Rattle.oplog_entry.specs.Visible.{least, last_of, entries_before}
use Rattle.visibility_point.proofs.Least.{none_listed, items_again}
use Rattle.member_config.specs.Config.{in_term}
use Rattle.member_config.specs.Rule.{rule}
use Rattle.member_config.specs.Voters.{voters}
use Rattle.member_config.specs.declared.config.Config.{Config}
use Rattle.election_core.specs.Counting.{Tallied}
use Rattle.repl_msg.specs.Kept.{kept, with_record}
use Rattle.repl_msg.specs.Logs.{has_entry}
use Rattle.repl_msg.specs.declared.record.Kept.{Kept}
use Rattle.repl_msg.specs.declared.record.Record.{Record}
use Rattle.repl_msg.specs.declared.record.Record.TheVariants as records
use Rattle.repl_msg.proofs.KeptLemmas.{kept_more}
use Rattle.set_model.specs.declared.role.Role.{Role}
use Rattle.set_model.specs.declared.role.Role.TheVariants.{Secondary, Candidate, Primary}
use Rattle.set_model.specs.declared.writer.Writer.{Writer}
use Rattle.set_model.specs.Changes.{in_new_term, stepped_down}
use Rattle.set_model.specs.Node.{Node, DryTally, Report}
use Rattle.set_model.specs.Points.{visible_point}
use Rattle.set_model.specs.Roles.{is_primary}
use Rattle.set_model.specs.Safety.{AtMost}
use Rattle.set_model.specs.Stores.{records_after, stored, vote_record}
use Rattle.set_model.specs.declared.store.Store.{Store}
use Rattle.node_data.specs.NodeData.{data_role}
use Rattle.node_state.specs.Coherent.{IsCoherent, IsOfTerm, IsRecorded, IsState, CountsVoters}
use Rattle.node_state.specs.Seen.{BesideData, seen_node}
use Rattle.node_data.specs.Sound.{IsSound}
use Rattle.node_state.proofs.SlotLemmas.{visible_grows}
use Rattle.node_state.proofs.StateLemmas.{of_term-idle, stepped_seen}

-- ---- another role

-- a node with these fields
abbrev pub turned : Node → Role → sets.FinSet optime_cmp → maps.FinMap nat_cmp Writer → OpTime → maps.FinMap nat_cmp Report → List ℕ → Option DryTally → Node
turned node role slots writers applied progress voted dry =
    record node { role = role; slots = slots; writers = writers; applied = applied; progress = progress; tally = voted; dry_tally = dry }

pub coherent-turned : (node : Node) (role : Role) (slots : sets.FinSet optime_cmp) (writers : maps.FinMap nat_cmp Writer) (applied : OpTime) (progress : maps.FinMap nat_cmp Report) (voted : List ℕ) (dry : Option DryTally)
    (tally now : Option Tallied) (optimes : List OpTime)
    → AtMost (visible_point node) (last_of (entries_before (least (sets.items slots)) node.log)) → CountsVoters (record node { role = role }) now
    → IsCoherent node tally optimes → IsCoherent (turned node role slots writers applied progress voted dry) now optimes
coherent-turned node role slots writers applied progress voted dry tally now optimes grows counts old = record {
  number = old.number;
  vote = old.vote;
  config = old.config;
  first = old.first;
  points = record {
    stable = old.points.stable;
    commit = old.points.commit;
    durable = at_most_trans node.durable (visible_point node) (last_of (entries_before (least (sets.items slots)) node.log)) old.points.durable grows;
    there = old.points.there;
  };
  recorded = record { vote = old.recorded.vote; config = old.recorded.config; entries = old.recorded.entries; early = old.recorded.early; point = old.recorded.point };
  unjournaled = old.unjournaled;
  counts = counts;
}

-- ---- one record more, which brings no entry

-- what is kept, with a term and a vote, and a configuration, and the same entries up to the same point
pub record IsKeptWith (found more : Kept) (first : Config) (term : ℕ) (vote : Option ℕ) (config : Config) : Type 0 where
  pub vote_is : more.vote ≡ record { term = term; candidate = vote }
  pub config_is : unwrap_or more.config first ≡ config
  pub entries_are : more.entries ≡ found.entries
  pub point_is : more.point ≡ found.point

pub coherent-kept : (node : Node) (items : List Record) (term : ℕ) (vote : Option ℕ) (config : Config) (tally : Option Tallied) (optimes : List OpTime)
    → IsKeptWith (kept node.records) (kept items) node.first term vote config → IfSome vote (λ voter. voter < 50) → rule config ≡ None
    → CountsVoters (record node { config = config }) tally
    → IsCoherent node tally optimes → IsCoherent (record node { records = items; term = term; vote = vote; config = config }) tally optimes
coherent-kept node items term vote config tally optimes is within lawful counts old = record {
  number = old.number;
  vote = within;
  config = lawful;
  first = old.first;
  points = record { stable = old.points.stable; commit = old.points.commit; durable = old.points.durable; there = old.points.there };
  recorded = record {
    vote = is.vote_is;
    config = is.config_is;
    entries = subst (λ (list : List Entry). list ≡ filter (λ (e : Entry). has_entry list e.optime) node.log) (sym is.entries_are) old.recorded.entries;
    early = subst (λ (list : List Entry). All (λ (e : Entry). is_before node.durable e.optime ≡ false → has_entry list e.optime ≡ true) node.log) (sym is.entries_are) old.recorded.early;
    point = is.point_is ∙ old.recorded.point;
  };
  unjournaled = subst (λ (list : List Entry). optimes ≡ map (λ (e : Entry). e.optime) (filter (λ (e : Entry). not (has_entry list e.optime)) node.log)) (sym is.entries_are) old.unjournaled;
  counts = counts;
}

pub with_vote_kept : (node : Node) (items : List Record) (term : ℕ) (vote : Option ℕ) → IsRecorded node
    → items ≡ node.records ++ records.Vote (record { term = term; candidate = vote }) ∷ [] → IsKeptWith (kept node.records) (kept items) node.first term vote node.config
with_vote_kept node items term vote old are =
    let more : kept items ≡ with_record (kept node.records) (records.Vote (record { term = term; candidate = vote })) =
    ap kept are ∙ kept_more node.records (records.Vote (record { term = term; candidate = vote })) in
    record {
      vote_is = ap (λ (found : Kept). found.vote) more;
      config_is = ap (λ (found : Kept). unwrap_or found.config node.first) more ∙ old.config;
      entries_are = ap (λ (found : Kept). found.entries) more;
      point_is = ap (λ (found : Kept). found.point) more;
    }

pub with_config_kept : (node : Node) (items : List Record) (config : Config) → IsRecorded node
    → items ≡ node.records ++ records.Config config ∷ [] → IsKeptWith (kept node.records) (kept items) node.first node.term node.vote config
with_config_kept node items config old are =
    let more : kept items ≡ with_record (kept node.records) (records.Config config) = ap kept are ∙ kept_more node.records (records.Config config) in
    record {
      vote_is = ap (λ (found : Kept). found.vote) more ∙ old.vote;
      config_is = ap (λ (found : Kept). unwrap_or found.config node.first) more;
      entries_are = ap (λ (found : Kept). found.entries) more;
      point_is = ap (λ (found : Kept). found.point) more;
    }

-- ---- the steps of a node in memory

none_open : (slot : OpTime) → In slot (sets.items (sets.empty {R = optime_cmp})) → ⊥
none_open slot listed = absurd (subst (In slot) (none_listed (sets.items (sets.empty {R = optime_cmp})) (items_again (sets.empty {R = optime_cmp}))) listed)

-- all is visible once no slot is open
all_visible : (n : Node) → IsSound n → AtMost (visible_point n) (last_of (entries_before (least (sets.items (sets.empty {R = optime_cmp}))) n.log))
all_visible n sound =
    visible_grows (sets.items n.slots) (sets.items (sets.empty {R = optime_cmp})) n.log n.log sound.oplog (λ entry there. there) (λ slot listed. absurd (none_open slot listed))

-- beside its data, a secondary that counts nothing
abbrev pub following : BesideData → BesideData
following rest = record rest { role = Secondary; progress = maps.empty; tally = None; dry_tally = None }

-- a secondary counts nothing
pub coherent-secondary : (n m : Node) (rest : BesideData) (tally : Option Tallied) (optimes : List OpTime) → m ≡ stepped_down n → IsSound n
    → IsCoherent (seen_node n rest) tally optimes → IsCoherent (seen_node m (following rest)) None optimes
coherent-secondary n m rest tally optimes is sound old =
    subst (λ (k : Node). IsCoherent (seen_node k (following rest)) None optimes) (sym is)
    (coherent-turned (seen_node n rest) Secondary sets.empty (stepped_down n).writers (stepped_down n).applied maps.empty [] None tally None optimes (all_visible n sound) (λ role. absurd (cc role)) old)

-- a secondary of another term, whose vote is kept
pub coherent-entered : (n m : Node) (rest : BesideData) (items : List Record) (term : ℕ) (vote : Option ℕ) (tally : Option Tallied) (optimes : List OpTime)
    → m ≡ stepped_down n → items ≡ rest.records ++ records.Vote (record { term = term; candidate = vote }) ∷ []
    → IsSound n → IfSome vote (λ voter. voter < 50) → IsCoherent (seen_node n rest) tally optimes
    → IsCoherent (seen_node m (record (following rest) { term = term; vote = vote; records = items })) None optimes
coherent-entered n m rest items term vote tally optimes is are sound within old =
    let second : IsCoherent (seen_node m (following rest)) None optimes = coherent-secondary n m rest tally optimes is sound old in
    coherent-kept (seen_node m (following rest)) items term vote rest.config None optimes
    (with_vote_kept (seen_node m (following rest)) items term vote second.recorded are) within old.config second.counts second

-- a vote in the node's term is kept
pub coherent-voted : (n : Node) (rest : BesideData) (items : List Record) (vote : ℕ) (tally : Option Tallied) (optimes : List OpTime)
    → items ≡ rest.records ++ records.Vote (record { term = rest.term; candidate = Some vote }) ∷ [] → vote < 50 → IsCoherent (seen_node n rest) tally optimes
    → IsCoherent (seen_node n (record rest { vote = Some vote; records = items })) tally optimes
coherent-voted n rest items vote tally optimes are within old =
    coherent-kept (seen_node n rest) items rest.term (Some vote) rest.config tally optimes (with_vote_kept (seen_node n rest) items rest.term (Some vote) old.recorded are) within old.config
    old.counts old

-- a candidate counts the votes of the voters
pub coherent-standing : (n : Node) (rest : BesideData) (counted : Tallied) (tally : Option Tallied) (optimes : List OpTime)
    → counted.voters ≡ voters rest.config → IsCoherent (seen_node n rest) tally optimes
    → IsCoherent (seen_node n (record rest { role = Candidate; tally = Some counted })) (Some counted) optimes
coherent-standing n rest counted tally optimes voters_are old =
    coherent-turned (seen_node n rest) Candidate n.slots n.writers n.applied rest.progress counted.yes rest.dry_tally tally (Some counted) optimes (at_most_refl (visible_point n)) (λ role. (voters_are, λ none. cc none)) old

-- a node in another role, but no candidate
pub coherent-role : (n : Node) (rest : BesideData) (role : Role) (optimes : List OpTime)
    → role ≢ Candidate → IsCoherent (seen_node n rest) rest.tally optimes → IsCoherent (seen_node n (record rest { role = role })) rest.tally optimes
coherent-role n rest role optimes other old =
    coherent-turned (seen_node n rest) role n.slots n.writers n.applied rest.progress (seen_node n rest).tally rest.dry_tally rest.tally rest.tally optimes (at_most_refl (visible_point n))
    (λ same. absurd (other same)) old

-- a primary whose configuration in its term is kept
pub coherent-leading : (n m : Node) (rest : BesideData) (items : List Record) (config : Config) (tally : Option Tallied) (optimes : List OpTime)
    → m ≡ record n { role = Primary } → config ≡ in_term rest.config rest.term → items ≡ rest.records ++ records.Config config ∷ []
    → IsCoherent (seen_node n rest) tally optimes
    → IsCoherent (seen_node m (record rest { role = Primary; records = items; config = config; progress = maps.empty })) tally optimes
coherent-leading n m rest items config tally optimes is config_is are old =
    let node = turned (seen_node n rest) Primary n.slots n.writers n.applied maps.empty (seen_node n rest).tally rest.dry_tally in
    let first : IsCoherent node tally optimes =
    coherent-turned (seen_node n rest) Primary n.slots n.writers n.applied maps.empty (seen_node n rest).tally rest.dry_tally tally tally optimes (at_most_refl (visible_point n)) (λ role. absurd (cc role)) old in
    subst (λ (k : Node). IsCoherent (seen_node k (record rest { role = Primary; records = items; config = config; progress = maps.empty })) tally optimes) (sym is)
    (coherent-kept node items rest.term rest.vote config tally optimes (with_config_kept node items config first.recorded are) old.vote
    (subst (λ (c : Config). rule c ≡ None) (sym config_is) old.config) (λ role. absurd (cc role)) first)

-- ---- the same of a state

-- what it then is
pub secondary_is : (n m : Node) (rest : BesideData) (progress : maps.FinMap nat_cmp Report) → m ≡ stepped_down n → progress ≡ maps.empty → n.role ≡ data_role (is_primary rest.role)
    → seen_node m (record (following rest) { progress = progress }) ≡ stepped_down (seen_node n rest)
secondary_is n m rest progress is none writable =
    ap (λ (k : Node). seen_node k (record (following rest) { progress = progress })) is
    ∙ ap (λ (p : maps.FinMap nat_cmp Report). seen_node (stepped_down n) (record (following rest) { progress = p })) none
    ∙ sym (stepped_seen n rest writable)

pub entered_is : (n m : Node) (rest : BesideData) (progress : maps.FinMap nat_cmp Report) (items : List Record) (item : Store) (term : ℕ) (vote : Option ℕ)
    → m ≡ stepped_down n → progress ≡ maps.empty → n.role ≡ data_role (is_primary rest.role) → items ≡ records_after rest.records item → item ≡ vote_record term vote
    → seen_node m (record (following rest) { progress = progress; term = term; vote = vote; records = items }) ≡ in_new_term (stored (seen_node n rest) item) term vote
entered_is n m rest progress items item term vote is none writable are item_is =
    ap (λ (k : Node). record k { term = term; vote = vote; records = items }) (secondary_is n m rest progress is none writable)
    ∙ ap (λ (list : List Record). record (stepped_down (seen_node n rest)) { term = term; vote = vote; records = list }) (are ∙ ap (records_after rest.records) item_is)
    ∙ ap (λ (s : Store). in_new_term (stored (seen_node n rest) s) term vote) (sym item_is)

pub state-secondary : (n m : Node) (rest : BesideData) (optimes : List OpTime) → m ≡ stepped_down n → IsSound n
    → IsState n rest optimes → IsState m (following rest) optimes
state-secondary n m rest optimes is sound old = record {
  writable = ap (λ (k : Node). k.role) is;
  of_term = subst (λ (k : Node). IsOfTerm rest.term k.log k.slots) (sym is) (of_term-idle rest.term rest.term n.log n.slots (omega arith) old.of_term.bound old.of_term);
  coherent = coherent-secondary n m rest rest.tally optimes is sound old.coherent;
}

pub state-entered : (n m : Node) (rest : BesideData) (items : List Record) (term : ℕ) (vote : Option ℕ) (optimes : List OpTime)
    → m ≡ stepped_down n → items ≡ rest.records ++ records.Vote (record { term = term; candidate = vote }) ∷ []
    → rest.term ≤ term → term < 2 ^ 63 → IsSound n → IfSome vote (λ voter. voter < 50) → IsState n rest optimes
    → IsState m (record (following rest) { term = term; vote = vote; records = items }) optimes
state-entered n m rest items term vote optimes is are above bound sound within old = record {
  writable = ap (λ (k : Node). k.role) is;
  of_term = subst (λ (k : Node). IsOfTerm term k.log k.slots) (sym is) (of_term-idle rest.term term n.log n.slots above bound old.of_term);
  coherent = coherent-entered n m rest items term vote rest.tally optimes is are sound within old.coherent;
}

pub state-leading : (n m : Node) (rest : BesideData) (items : List Record) (config : Config) (optimes : List OpTime)
    → m ≡ record n { role = Primary } → config ≡ in_term rest.config rest.term → items ≡ rest.records ++ records.Config config ∷ []
    → IsState n rest optimes → IsState m (record rest { role = Primary; records = items; config = config; progress = maps.empty }) optimes
state-leading n m rest items config optimes is config_is are old = record {
  writable = ap (λ (k : Node). k.role) is;
  of_term = subst (λ (k : Node). IsOfTerm rest.term k.log k.slots) (sym is) old.of_term;
  coherent = coherent-leading n m rest items config rest.tally optimes is config_is are old.coherent;
}

-- ---- votes counted

-- a candidate that has counted one more answer, or none since memory ran out
pub coherent-counted : (n : Node) (rest : BesideData) (was now : Tallied) (optimes : List OpTime) → rest.tally ≡ Some was → now.voters ≡ was.voters
    → IsCoherent (seen_node n rest) rest.tally optimes → IsCoherent (seen_node n (record rest { tally = Some now })) (Some now) optimes
coherent-counted n rest was now optimes is same old =
    coherent-turned (seen_node n rest) rest.role n.slots n.writers n.applied rest.progress now.yes rest.dry_tally rest.tally (Some now) optimes (at_most_refl (visible_point n))
    (λ role. (same ∙ subst (λ t. IfSome t (λ (x : Tallied). x.voters ≡ voters rest.config)) is (old.counts role).0, λ none. cc none)) old

pub coherent-dry : (n : Node) (rest : BesideData) (dry : Option DryTally) (optimes : List OpTime) → IsCoherent (seen_node n rest) rest.tally optimes
    → IsCoherent (seen_node n (record rest { dry_tally = dry })) rest.tally optimes
coherent-dry n rest dry optimes old =
    coherent-turned (seen_node n rest) rest.role n.slots n.writers n.applied rest.progress (seen_node n rest).tally dry rest.tally rest.tally optimes (at_most_refl (visible_point n)) old.counts old
