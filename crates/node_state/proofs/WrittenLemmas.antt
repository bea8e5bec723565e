-- A primary's writes keep the node coherent.
use Rattle.std.proofs.Common.{◌≡◌, ◌≤◌, ◌<◌, ◌∙◌, inl, inr, ap, sym, subst, arith, ℕ, true, Option, None, List}
use Rattle.std.specs.List.{All}
use Rattle.std.specs.FinMap as maps
use Rattle.std.specs.FinSet as sets
use Rattle.rs_optime.specs.declared.optime.OpTime.{OpTime}
use Rattle.rs_optime.proofs.Optimes.{before_both, at_most_before_trans}
use Rattle.rs_optime.specs.Membership.{In}
use Rattle.rs_optime.proofs.MembershipLemmas.{contains_in, all_in, in_all, in_more}
use Rattle.oplog_entry.specs.declared.entry.Entry.{Entry}
use Rattle.oplog_entry.specs.declared.entry.Op.{Op}
use Rattle.oplog_entry.specs.declared.entry.Session.{Session}
use Rattle.oplog_entry.specs.Visible.{ZERO, is_before, least, entries_before}
use Rattle.oplog_entry.proofs.Optimes.{zero_at_most}
use Rattle.oplog_entry.proofs.LogLemmas.{in_with}
use Rattle.oplog_store.specs.Log.{IsOplog, with_entry}
use Rattle.election_core.specs.Counting.{Tallied}
use Rattle.set_model.specs.Changes.{logged_at, opened_at}
use Rattle.set_model.specs.Node.{Node}
use Rattle.set_model.specs.Points.{visible_point, next_optime}
use Rattle.set_model.specs.Safety.{AtMost}
use Rattle.set_model.specs.Writers.{settled, aborted}
use Rattle.set_model.specs.declared.writer.Writer.TheVariants.{Open, Done}
use Rattle.oplog_store.specs.Unjournaled.{with_optime}
use Rattle.node_state.specs.Coherent.{IsCoherent, IsOfTerm, IsState}
use Rattle.node_data.specs.NodeData.{IsNext}
use Rattle.node_data.specs.Kept.{AreApart, IsPending, FitsBeside}
use Rattle.node_state.specs.Seen.{BesideData, seen_node}
use Rattle.node_data.specs.Sound.{IsSound}
use Rattle.node_data.specs.Writers.{HasOpen}
use Rattle.node_state.proofs.EntryLemmas.{last_before}
use Rattle.node_state.proofs.SlotLemmas.{in_fewer, in_visible, visible_grows}
use Rattle.node_state.proofs.CoherentLemmas.{coherent-slots, coherent-written}
use Rattle.node_state.proofs.StateLemmas.{is_next, of_term-closed, of_term-open, of_term-with}

-- ---- the next optime

before_next : (node : Node) (at : OpTime) → IsSound node → IsNext node.log node.slots node.seen at → (entry : Entry) → In entry node.log → is_before entry.optime at ≡ true
before_next node at sound next entry there =
    let term : entry.optime.term ≤ at.term = all_in (λ (e : Entry). e.optime.term ≤ at.term) node.log entry next.entries there in
    let seen : entry.optime.ts ≤ node.seen = all_in (λ (e : Entry). e.optime.ts ≤ node.seen) node.log entry sound.marked there in
    let later : node.seen < at.ts = next.past in
    before_both entry.optime at term (omega (arith, seen, later))

fits_next : (node : Node) (at : OpTime) (op : Op) (session : Option Session) → IsSound node → IsNext node.log node.slots node.seen at → All (FitsBeside (record { optime = at; op = op; session = session })) node.log
fits_next node at op session sound next = in_all (FitsBeside (record { optime = at; op = op; session = session })) node.log (λ entry there.
    let seen : entry.optime.ts ≤ node.seen = all_in (λ (e : Entry). e.optime.ts ≤ node.seen) node.log entry sound.marked there in
    let later : node.seen < at.ts = next.past in
    inl (record { earlier = omega (arith, seen, later); term = all_in (λ (e : Entry). e.optime.term ≤ at.term) node.log entry next.entries there }))

-- what is durable is before an optime that is after each visible entry
durable_before : (node : Node) (at : OpTime) → AtMost node.durable (visible_point node) → is_before ZERO at ≡ true
    → ((entry : Entry) → In entry (entries_before (least (sets.items node.slots)) node.log) → is_before entry.optime at ≡ true) → is_before node.durable at ≡ true
durable_before node at durable first each =
    at_most_before_trans node.durable (visible_point node) at durable (last_before (entries_before (least (sets.items node.slots)) node.log) at first each)

zero_before : (stable at : OpTime) → is_before stable at ≡ true → is_before ZERO at ≡ true
zero_before stable at tail = at_most_before_trans ZERO stable at (zero_at_most stable) tail

-- ---- each write

pub coherent-logged : (n m : Node) (rest : BesideData) (at : OpTime) (op : Op) (session : Option Session) (tally : Option Tallied) (optimes : List OpTime) → m ≡ logged_at at n op session
    → IsNext n.log n.slots n.seen at → IsSound n → IsSound m → IsCoherent (seen_node n rest) tally optimes → IsCoherent (seen_node m rest) tally (with_optime optimes at)
coherent-logged n m rest at op session tally optimes is next sound after old =
    subst (λ (k : Node). IsCoherent (seen_node k rest) tally (with_optime optimes at)) (sym is)
    (coherent-written (seen_node n rest) (record { optime = at; op = op; session = session }) n.slots n.writers at.ts tally optimes sound.oplog
    (record {
      after = durable_before (seen_node n rest) at old.points.durable (before_both ZERO at (omega arith) (omega (arith, next.past)))
          (λ entry there. before_next n at sound next entry (in_visible (sets.items n.slots) n.log entry there).0);
      fits = fits_next n at op session sound next;
      grows = visible_grows (sets.items n.slots) (sets.items n.slots) n.log (with_entry n.log (record { optime = at; op = op; session = session })) (subst (λ (k : Node). IsOplog k.log) is after.oplog)
          (in_with n.log (record { optime = at; op = op; session = session })) (λ slot listed. inl listed);
    })
    old)

pub coherent-opened : (n m : Node) (rest : BesideData) (at : OpTime) (number : ℕ) (op : Op) (tally : Option Tallied) (optimes : List OpTime) → m ≡ opened_at at n number op
    → IsNext n.log n.slots n.seen at → IsSound n → IsCoherent (seen_node n rest) tally optimes → IsCoherent (seen_node m rest) tally optimes
coherent-opened n m rest at number op tally optimes is next sound old =
    subst (λ (k : Node). IsCoherent (seen_node k rest) tally optimes) (sym is)
    (coherent-slots (seen_node n rest) (sets.insert n.slots at) (maps.insert n.writers number (Open at op)) at.ts tally optimes
    (visible_grows (sets.items n.slots) (sets.items (sets.insert n.slots at)) n.log n.log sound.oplog (λ entry there. there)
    (λ slot listed. elim (in_more n.slots at slot listed) [
      | inl same ↦ inr (λ entry there. subst (λ o. is_before entry.optime o ≡ true) (sym same) (before_next n at sound next entry there))
      | inr before ↦ inl before
    ]))
    old)

pub coherent-settled : (n m : Node) (rest : BesideData) (number : ℕ) (at : OpTime) (op : Op) (tally : Option Tallied) (optimes : List OpTime) → m ≡ settled n number at op → HasOpen n.writers number at op
    → IsSound n → AreApart n → IsSound m → IsCoherent (seen_node n rest) tally optimes → IsCoherent (seen_node m rest) tally (with_optime optimes at)
coherent-settled n m rest number at op tally optimes is has sound writers after old =
    subst (λ (k : Node). IsCoherent (seen_node k rest) tally (with_optime optimes at)) (sym is)
    (coherent-written (seen_node n rest) (record { optime = at; op = op; session = None }) (sets.remove n.slots at) (maps.insert n.writers number (Done at)) n.seen tally optimes sound.oplog
    (record {
      after = durable_before (seen_node n rest) at old.points.durable (zero_before n.stable at pending.unstable)
          (λ entry there. (in_visible (sets.items n.slots) n.log entry there).1 at (contains_in n.slots at pending.open_slot));
      fits = pending.newest.fits;
      grows = visible_grows (sets.items n.slots) (sets.items (sets.remove n.slots at)) n.log (with_entry n.log (record { optime = at; op = op; session = None })) (subst (λ (k : Node). IsOplog k.log) is after.oplog)
          (in_with n.log (record { optime = at; op = op; session = None })) (λ slot listed. inl (in_fewer n.slots at slot listed));
    })
    old)
  where
    pending : IsPending n at op
    pending = writers.pending number at op has

pub coherent-aborted : (n m : Node) (rest : BesideData) (number : ℕ) (at : OpTime) (tally : Option Tallied) (optimes : List OpTime) → m ≡ aborted n number at → IsSound n
    → IsCoherent (seen_node n rest) tally optimes → IsCoherent (seen_node m rest) tally optimes
coherent-aborted n m rest number at tally optimes is sound old =
    subst (λ (k : Node). IsCoherent (seen_node k rest) tally optimes) (sym is)
    (coherent-slots (seen_node n rest) (sets.remove n.slots at) (maps.remove n.writers number) n.seen tally optimes
    (visible_grows (sets.items n.slots) (sets.items (sets.remove n.slots at)) n.log n.log sound.oplog (λ entry there. there) (λ slot listed. inl (in_fewer n.slots at slot listed)))
    old)

-- ---- the same of a state

pub state-logged : (n m : Node) (rest : BesideData) (at : OpTime) (op : Op) (session : Option Session) (optimes : List OpTime) → m ≡ logged_at at n op session
    → at ≡ next_optime (seen_node n rest) → IsSound n → IsSound m → IsState n rest optimes → IsState m rest (with_optime optimes at)
state-logged n m rest at op session optimes is next sound after old =
    let same : at.term ≡ rest.term = ap (λ (o : OpTime). o.term) next in
    record {
      writable = ap (λ (k : Node). k.role) is ∙ old.writable;
      of_term = subst (λ (k : Node). IsOfTerm rest.term k.log k.slots) (sym is)
          (of_term-with rest.term n.log n.slots (record { optime = at; op = op; session = session }) (omega (arith, same)) old.of_term);
      coherent = coherent-logged n m rest at op session rest.tally optimes is (is_next n rest at old.of_term next) sound after old.coherent;
    }

pub state-opened : (n m : Node) (rest : BesideData) (at : OpTime) (number : ℕ) (op : Op) (optimes : List OpTime) → m ≡ opened_at at n number op
    → at ≡ next_optime (seen_node n rest) → IsSound n → IsState n rest optimes → IsState m rest optimes
state-opened n m rest at number op optimes is next sound old =
    let same : at.term ≡ rest.term = ap (λ (o : OpTime). o.term) next in
    record {
      writable = ap (λ (k : Node). k.role) is ∙ old.writable;
      of_term = subst (λ (k : Node). IsOfTerm rest.term k.log k.slots) (sym is) (of_term-open rest.term n.log n.slots at same old.of_term);
      coherent = coherent-opened n m rest at number op rest.tally optimes is (is_next n rest at old.of_term next) sound old.coherent;
    }

pub state-settled : (n m : Node) (rest : BesideData) (number : ℕ) (at : OpTime) (op : Op) (optimes : List OpTime) → m ≡ settled n number at op → HasOpen n.writers number at op
    → IsSound n → AreApart n → IsSound m → IsState n rest optimes → IsState m rest (with_optime optimes at)
state-settled n m rest number at op optimes is has sound writers after old =
    let same : at.term ≡ rest.term = old.of_term.open_slots at (writers.pending number at op has).open_slot in
    record {
      writable = ap (λ (k : Node). k.role) is ∙ old.writable;
      of_term = subst (λ (k : Node). IsOfTerm rest.term k.log k.slots) (sym is)
          (of_term-closed rest.term (with_entry n.log (record { optime = at; op = op; session = None })) n.slots at
          (of_term-with rest.term n.log n.slots (record { optime = at; op = op; session = None }) (omega (arith, same)) old.of_term));
      coherent = coherent-settled n m rest number at op rest.tally optimes is has sound writers after old.coherent;
    }

pub state-aborted : (n m : Node) (rest : BesideData) (number : ℕ) (at : OpTime) (optimes : List OpTime) → m ≡ aborted n number at → IsSound n
    → IsState n rest optimes → IsState m rest optimes
state-aborted n m rest number at optimes is sound old = record {
  writable = ap (λ (k : Node). k.role) is ∙ old.writable;
  of_term = subst (λ (k : Node). IsOfTerm rest.term k.log k.slots) (sym is) (of_term-closed rest.term n.log n.slots at old.of_term);
  coherent = coherent-aborted n m rest number at rest.tally optimes is sound old.coherent;
}
