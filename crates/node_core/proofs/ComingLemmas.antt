-- How a node comes up with what was found: its records with a cut at the point, where entries come after it, and the row.
use Rattle.std.proofs.Common.{◌≡◌, ◌∙◌, ap, sym, subst, refl, ℕ, Bool, true, false, not, cond, List, Option, Some, None}
use Rattle.rs_optime.specs.declared.optime.OpTime.{OpTime}
use Rattle.rs_optime.proofs.Optimes.{at_most_antisym}
use Rattle.rs_optime.specs.Membership.{In}
use Rattle.rs_optime.proofs.MembershipLemmas.{in_filter}
use Rattle.oplog_entry.specs.Docs.{docs}
use Rattle.oplog_entry.specs.Visible.{is_before, last_of, log_up_to}
use Rattle.oplog_entry.specs.declared.entry.Entry.{Entry}
use Rattle.repl_msg.specs.Kept.{kept}
use Rattle.repl_msg.specs.declared.record.Kept.{Kept}
use Rattle.repl_msg.specs.declared.record.Record.{Record}
use Rattle.repl_msg.specs.declared.record.Record.TheVariants as records
use Rattle.repl_msg.proofs.KeptLemmas.{kept_more}
use Rattle.checkpoint_store.specs.declared.stable.Stable.{Stable}
use Rattle.member_config.specs.declared.config.Config.{Config}
use Rattle.node_journal.proofs.DiskLemmas.{kept_count}
use Rattle.set_model.specs.Disk.{come_back, has_more}
use Rattle.set_model.specs.Node.{Node}
use Rattle.set_model.specs.Safety.{AtMost}
use Rattle.node_data.proofs.LogLemmas.{up_to-up_to}
use Rattle.node_state.specs.WellKept.{IsReadAs, IsWellKept, coming}
use Rattle.node_state.proofs.EntryLemmas.{last_most}
use Rattle.node_state.proofs.RestartLemmas.{no_further}
use Rattle.node_state.proofs.WellKeptLemmas.{read_recovered, read_whole, well_recovered}
use Rattle.node_core.specs.Coming.{IsFound, IsPrepared, cut_point, cut_records}
use Rattle.node_core.specs.Down.{DownState, down_node}
use Rattle.node_core.specs.declared.coming_up.Found.{Found}
use Rattle.node_core.specs.declared.coming_up.Prepared.{Prepared}

-- ---- the last entry that counts

-- it stands at the point
last_read : (items : List Record) (stable : OpTime) (found : Kept) → IsWellKept items stable → IsReadAs found items → found.point ≡ last_of (kept items).entries
last_read items stable found well read =
    read.point
    ∙ at_most_antisym (kept items).point (last_of (kept items).entries)
    (no_further (kept items).entries (kept items).point well.oplog well.there)
    (last_most (kept items).entries (kept items).point up_to)
  where
    passed : (b : Bool) → not b ≡ true → b ≡ false
    passed false is = refl
    passed true is = cc is

    up_to : (entry : Entry) → In entry (kept items).entries → AtMost entry.optime (kept items).point
    up_to entry there =
        let counts : In entry (log_up_to found.point found.entries) = subst (In entry) (sym read.entries) there in
        passed (is_before (kept items).point entry.optime)
        (ap (λ o. not (is_before o entry.optime)) (sym read.point) ∙ (in_filter (λ (e : Entry). not (is_before found.point e.optime)) found.entries entry counts).1)

-- ---- with a cut, or without

-- what a node comes up with
pub record ComesWith (items : List Record) (stable : OpTime) (cut : Option OpTime) : Type 0 where
  pub well : IsWellKept (cut_records cut items) stable
  pub read : (found : Kept) → found ≡ kept items → IsReadAs found (cut_records cut items)
  pub same : log_up_to stable (kept (cut_records cut items)).entries ≡ log_up_to stable (kept items).entries

pub comes_with : (items : List Record) (stable : OpTime) → IsWellKept items stable → ComesWith items stable (cut_point (kept items))
comes_with items stable well = go (has_more (kept items)) refl
  where
    go : (b : Bool) → has_more (kept items) ≡ b → ComesWith items stable (cond b (Some (kept items).point) None)
    go true more = record {
      well = well_recovered items stable well;
      read = λ found is. read_recovered items found is;
      same = ap (λ (k : Kept). log_up_to stable k.entries) (kept_more items (records.Cut (kept items).point)) ∙ up_to-up_to stable (kept items).point (kept items).entries well.stable_is;
    }
    go false none = record { well = well; read = λ found is. read_whole items found is none; same = refl }

-- ---- what is found is what it comes up with

-- what was read can be restored with these records
pub record IsRestorable (found : Found) (items : List Record) : Type 0 where
  pub well : IsWellKept items found.stable.at
  pub read : IsReadAs found.kept items
  pub documents : found.stable.documents ≡ docs (log_up_to found.stable.at (kept items).entries)

module _ (node : Node) (found : Found) (is : IsFound node found) (cut : Option OpTime) (cut_is : cut ≡ cut_point found.kept) where
  at_is : found.stable.at ≡ node.stable
  at_is = ap (λ (s : Stable). s.at) is.stable_is

  with_it : ComesWith node.records node.stable cut
  with_it = subst (λ (o : Option OpTime). ComesWith node.records node.stable o) (sym (cut_is ∙ ap cut_point is.kept_is)) (comes_with node.records node.stable is.well)

  pub restorable : (items : List Record) → items ≡ cut_records cut node.records → IsRestorable found items
  restorable items items_are = record {
    well = subst (λ (l : List Record). IsWellKept l found.stable.at) (sym items_are) (subst (λ (o : OpTime). IsWellKept (cut_records cut node.records) o) (sym at_is) with_it.well);
    read = subst (λ (l : List Record). IsReadAs found.kept l) (sym items_are) (with_it.read found.kept is.kept_is);
    documents = ap (λ (s : Stable). s.documents) is.stable_is
        ∙ ap docs (sym with_it.same)
        ∙ (λ i. docs (log_up_to (sym at_is i) (kept (sym items_are i)).entries));
  }

  last_is : found.kept.point ≡ last_of (kept (cut_records cut node.records)).entries
  last_is = last_read (cut_records cut node.records) node.stable found.kept with_it.well (with_it.read found.kept is.kept_is)

pub prepared_so : (found : Found) (memory : Node) (left : DownState) (prepared : Prepared) → IsFound (down_node memory left) found
    → prepared.count ≡ found.kept.count → prepared.cut ≡ cut_point found.kept → prepared.last ≡ found.kept.point
    → (number : ℕ) (first : Config) (items : List Record) → number ≡ memory.number → first ≡ memory.first → items ≡ cut_records prepared.cut left.records
    → prepared.state.node ≡ come_back (coming first number items found.stable.at left.rollback left.clock) (kept items)
    → IsPrepared (down_node memory left) prepared
prepared_so found memory left prepared is count cut last number first items number_is first_is items_are restored = record {
  count = count ∙ ap (λ (k : Kept). k.count) is.kept_is ∙ kept_count left.records;
  cut = cut ∙ ap cut_point is.kept_is;
  state = restored
      ∙ (λ i. come_back (coming (first_is i) (number_is i) (items_are i) (at_is (down_node memory left) found is prepared.cut cut i) left.rollback left.clock) (kept (items_are i)));
  last = last ∙ last_is (down_node memory left) found is prepared.cut cut;
}
