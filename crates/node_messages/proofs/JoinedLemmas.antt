-- A node whose log is continued by fetched entries.
use Rattle.std.proofs.Common.{◌≡◌, ◌∙◌, ◌&&◌, ap, sym, subst, refl, arith, ℕ, suc, zero, cond, Bool, true, false, take, List, [], ◌∷◌, ◌++◌, Option, None, Some, map, fold}
use Rattle.std.specs.List.{All}
use Rattle.std.specs.FinMap as maps
use Rattle.std.specs.FinSet as sets
use Rattle.std.specs.Ordering.{nat_cmp, eq_by_cmp}
use Rattle.std.proofs.lemmas.List.Sums.{fold-append}
use Rattle.std.proofs.lemmas.List.Elements.{All-cons, All-tail}
use Rattle.bson_doc.specs.Place.{Place, place_cmp}
use Rattle.bson_doc.specs.Tree.{Fields}
use Rattle.rs_optime.specs.declared.optime.OpTime.{OpTime}
use Rattle.rs_optime.proofs.Optimes.{at_most_trans}
use Rattle.doc_update.specs.Effect.{is_too_large}
use Rattle.oplog_entry.specs.Docs.{Documents, applied, docs}
use Rattle.oplog_entry.specs.Step.{place_of, document_after, is_at}
use Rattle.oplog_entry.specs.Visible.{is_before}
use Rattle.oplog_entry.specs.declared.entry.Entry.{Entry}
use Rattle.oplog_store.specs.Log.{IsOplog}
use Rattle.election_core.specs.Counting.{Tallied}
use Rattle.version_store.specs.declared.history.Version.{Version}
use Rattle.oplog_store.specs.Unjournaled.{with_optime}
use Rattle.repl_msg.specs.Fetching.{continues}
use Rattle.repl_msg.specs.Logs.{same_optime}
use Rattle.repl_msg.specs.Points.{commit_after}
use Rattle.repl_msg.specs.declared.message.FetchReply.{FetchReply}
use Rattle.repl_msg.proofs.HasLemmas.{same_is}
use Rattle.set_model.proofs.HoldLemmas.{get-step}
use Rattle.set_model.specs.Fetched.{Follows, AreWithinDocument}
use Rattle.set_model.specs.Fetching.{with_fetched}
use Rattle.set_model.specs.Node.{Node, Heard}
use Rattle.set_model.specs.Points.{last_point, visible_point, visible_log}
use Rattle.set_model.specs.Safety.{AtMost}
use Rattle.node_data.specs.Versions.{AreSmall, IsSmall, versions_from}
use Rattle.node_state.specs.Coherent.{IsCoherent, IsOfTerm, IsState}
use Rattle.node_state.specs.Seen.{BesideData, seen_node}
use Rattle.set_model.specs.Taking.{CanTakeEntries}
use Rattle.node_state.proofs.CommitLemmas.{coherent-commit, counted_between}
use Rattle.node_state.proofs.EntryLemmas.{last_grows}
use Rattle.node_state.proofs.StateLemmas.{of_term-joined}
use Rattle.node_messages.proofs.FetchedLemmas.{coherent-fetched, follow_after, joined, joined_oplog}
use Rattle.node_messages.proofs.HearLemmas.{coherent-tables}
use Rattle.node_state.proofs.SlotLemmas.{in_visible}

-- ---- documents that are small

found_small : (entries : List (Place × Fields)) (place : Place) → All (λ (e : Place × Fields). is_too_large e.1 ≡ false) entries → IsSmall (maps.find place_cmp place entries)
found_small [] place within = tt
found_small (entry ∷ entries) place within =
    go (eq_by_cmp place_cmp place entry.0) (found_small entries place (All-tail (λ (e : Place × Fields). is_too_large e.1 ≡ false) entry entries within))
  where
    go : (b : Bool) → IsSmall (maps.find place_cmp place entries) → IsSmall (cond b (Some entry.1) (maps.find place_cmp place entries))
    go true rest = within zero entry (omega arith)
    go false rest = rest

docs_small : (log : List Entry) (place : Place) → AreWithinDocument log → IsSmall (maps.get (docs log) place)
docs_small log place within = subst IsSmall (sym (maps.get-entries (docs log) place)) (found_small (maps.entries (docs log)) place within)

abbrev Small : List Version → Type 0
Small versions = All (λ (v : Version). IsSmall v.doc) versions

-- what stands at a place after an entry
after_entry : (documents : Documents) (entry : Entry) (place : Place) (before : Option Fields) → before ≡ maps.get documents place
    → cond (is_at (place_of entry.op) place) (document_after entry.op before) before ≡ maps.get (applied documents entry) place
after_entry documents entry place before is =
    ap (λ (d : Option Fields). cond (is_at (place_of entry.op) place) (document_after entry.op d) d) is ∙ sym (get-step documents entry place)

-- the versions of a log and of what follows it
small_after : (place : Place) (log entries : List Entry) (documents : Documents) (before : Option Fields) → before ≡ maps.get documents place → Small (versions_from place before log)
    → Small (versions_from place (maps.get (fold applied documents log) place) entries) → Small (versions_from place before (log ++ entries))
small_after place [] entries documents before is front back = subst (λ (d : Option Fields). Small (versions_from place d entries)) (sym is) back
small_after place (entry ∷ log) entries documents before is front back =
    go (is_at (place_of entry.op) place) (after_entry documents entry place before is) (λ then same small. small_after place log entries (applied documents entry) then same small back) front
  where
    version : Version
    version = record { at = entry.optime; doc = document_after entry.op before }

    go : (b : Bool) → cond b (document_after entry.op before) before ≡ maps.get (applied documents entry) place
        → ((then : Option Fields) → then ≡ maps.get (applied documents entry) place → Small (versions_from place then log) → Small (versions_from place then (log ++ entries)))
        → Small (cond b (version ∷ versions_from place (document_after entry.op before) log) (versions_from place before log))
        → Small (cond b (version ∷ versions_from place (document_after entry.op before) (log ++ entries)) (versions_from place before (log ++ entries)))
    go true same rest small =
        All-cons (λ (v : Version). IsSmall v.doc) version (versions_from place (document_after entry.op before) (log ++ entries)) (small zero version (omega arith))
        (rest (document_after entry.op before) same (All-tail (λ (v : Version). IsSmall v.doc) version (versions_from place (document_after entry.op before) log) small))
    go false same rest small = rest before same small

-- the versions that come after a log
entries_small : (place : Place) (entries log : List Entry) → ((many : ℕ) → AreWithinDocument (log ++ take many entries)) → Small (versions_from place (maps.get (docs log) place) entries)
entries_small place [] log within = λ k d inside. absurd (omega arith)
entries_small place (entry ∷ rest) log within =
    go (is_at (place_of entry.op) place)
    (subst (λ (d : Option Fields). IsSmall d × Small (versions_from place d rest))
    (ap (λ (d : Documents). maps.get d place) (fold-append applied maps.empty log (entry ∷ [])) ∙ get-step (docs log) entry place) (
      docs_small (log ++ entry ∷ []) place (within 1),
      entries_small place rest (log ++ entry ∷ []) (λ many. subst AreWithinDocument (sym (joined log entry (take many rest))) (within (suc many))),
    ))
  where
    before : Option Fields
    before = maps.get (docs log) place

    after : Option Fields
    after = document_after entry.op before

    go : (b : Bool) → IsSmall (cond b after before) × Small (versions_from place (cond b after before) rest)
        → Small (cond b (record { at = entry.optime; doc = after } ∷ versions_from place after rest) (versions_from place before rest))
    go true both = All-cons (λ (v : Version). IsSmall v.doc) (record { at = entry.optime; doc = after }) (versions_from place after rest) both.0 both.1
    go false both = both.1

joined_small : (entries log : List Entry) → ((many : ℕ) → AreWithinDocument (log ++ take many entries)) → AreSmall log → AreSmall (log ++ entries)
joined_small entries log within small place =
    small_after place log entries maps.empty None (sym (maps.get-empty {X = Fields} place_cmp place)) (small place) (entries_small place entries log within)

-- ---- what an answer is to a log that ends at its base

base_is : (node : Node) (reply : FetchReply) → continues (last_point node) reply ≡ true → last_point node ≡ reply.base
base_is node reply continues = go reply.holds continues
  where
    go : (b : Bool) → (b && same_optime reply.base (last_point node)) ≡ true → last_point node ≡ reply.base
    go true is = sym (same_is reply.base (last_point node) is)
    go false is = absurd (cc is)

follows_last : (node : Node) (term : ℕ) (reply : FetchReply) → CanTakeEntries node term reply → continues (last_point node) reply ≡ true → All (Follows (last_point node)) reply.entries
follows_last node term reply can goes = subst (λ (o : OpTime). All (Follows o) reply.entries) (sym (base_is node reply goes)) can.base

pub fetched_oplog : (node : Node) (term : ℕ) (reply : FetchReply) (entries : List Entry) → entries ≡ reply.entries → CanTakeEntries node term reply → continues (last_point node) reply ≡ true
    → IsOplog node.log → IsOplog (node.log ++ entries)
fetched_oplog node term reply entries is can goes oplog =
    subst (λ (list : List Entry). IsOplog (node.log ++ list)) (sym is) (joined_oplog node.log reply.entries oplog can.order (follows_last node term reply can goes))

pub fetched_later : (node : Node) (term : ℕ) (reply : FetchReply) (entries : List Entry) (at : OpTime) → entries ≡ reply.entries → CanTakeEntries node term reply → continues (last_point node) reply ≡ true
    → AtMost at (last_point node) → All (λ (entry : Entry). is_before at entry.optime ≡ true) entries
fetched_later node term reply entries at is can goes most =
    subst (λ (list : List Entry). All (λ (entry : Entry). is_before at entry.optime ≡ true) list) (sym is)
    (follow_after at (last_point node) reply.entries most (follows_last node term reply can goes))

pub fetched_small : (node : Node) (term : ℕ) (reply : FetchReply) (entries : List Entry) → entries ≡ reply.entries → CanTakeEntries node term reply → continues (last_point node) reply ≡ true
    → AreSmall node.log → AreSmall (node.log ++ entries)
fetched_small node term reply entries is can goes small =
    subst (λ (list : List Entry). AreSmall (node.log ++ list)) (sym is)
    (joined_small reply.entries node.log (can.documents (base_is node reply goes)) small)

durable_last : (node : Node) → IsOplog node.log → AtMost node.durable (visible_point node) → AtMost node.durable (last_point node)
durable_last node oplog most =
    at_most_trans node.durable (visible_point node) (last_point node) most
    (last_grows (visible_log node) node.log oplog.order (λ entry there. (in_visible (sets.items node.slots) node.log entry there).0))

-- the node with these entries
pub coherent-appended : (n m : Node) (rest : BesideData) (reply : FetchReply) (entries : List Entry) (tally : Option Tallied) (optimes more : List OpTime)
    → entries ≡ reply.entries → m ≡ with_fetched n entries → more ≡ fold with_optime optimes (map (λ (e : Entry). e.optime) reply.entries)
    → CanTakeEntries (seen_node n rest) rest.term reply → continues (last_point n) reply ≡ true → IsOplog n.log
    → IsCoherent (seen_node n rest) tally optimes → IsCoherent (seen_node m rest) tally more
coherent-appended n m rest reply entries tally optimes more entries_is node_is more_is can goes oplog old =
    subst (λ (k : Node). IsCoherent (seen_node k rest) tally more) (sym (node_is ∙ ap (with_fetched n) entries_is))
    (subst (IsCoherent (seen_node (with_fetched n reply.entries) rest) tally) (sym more_is)
    (coherent-fetched reply.entries (seen_node n rest) tally optimes
    (fetched_oplog (seen_node n rest) rest.term reply reply.entries refl can goes oplog)
    (fetched_later (seen_node n rest) rest.term reply reply.entries rest.durable refl can goes (durable_last (seen_node n rest) oplog old.points.durable))
    old))

-- the same of a state
pub state-appended : (n m : Node) (rest : BesideData) (reply : FetchReply) (entries : List Entry) (optimes more : List OpTime)
    → entries ≡ reply.entries → m ≡ with_fetched n entries → more ≡ fold with_optime optimes (map (λ (e : Entry). e.optime) reply.entries)
    → CanTakeEntries (seen_node n rest) rest.term reply → continues (last_point n) reply ≡ true → IsOplog n.log
    → IsState n rest optimes → IsState m rest more
state-appended n m rest reply entries optimes more entries_is node_is more_is can goes oplog old = record {
  writable = ap (λ (k : Node). k.role) node_is ∙ old.writable;
  of_term = subst (λ (k : Node). IsOfTerm rest.term k.log k.slots) (sym (node_is ∙ ap (with_fetched n) entries_is))
      (of_term-joined rest.term n.log reply.entries n.slots can.terms old.of_term);
  coherent = coherent-appended n m rest reply entries rest.tally optimes more entries_is node_is more_is can goes oplog old.coherent;
}

-- what is learnt of its sender
pub coherent-source : (n : Node) (rest : BesideData) (commit heard : OpTime) (known : maps.FinMap nat_cmp Heard) (tally : Option Tallied) (optimes : List OpTime)
    → commit ≡ commit_after rest.commit heard rest.durable
    → IsCoherent (seen_node n rest) tally optimes → IsCoherent (seen_node n (record rest { commit = commit; known = known })) tally optimes
coherent-source n rest commit heard known tally optimes is old =
    coherent-tables (seen_node n (record rest { commit = commit })) rest.progress known tally optimes
    (coherent-commit (seen_node n rest) commit tally optimes
    (subst (λ (at : OpTime). AtMost n.stable at × AtMost at rest.durable) (sym is) (counted_between n.stable rest.durable rest.commit (Some heard) (old.points.stable, old.points.commit)))
    old)
