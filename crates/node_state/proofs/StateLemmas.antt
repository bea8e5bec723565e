-- A node's data and the rest of the node are of one role and of one term.
use Rattle.std.proofs.Common.{◌≡◌, ◌≤◌, ◌<◌, ◌∙◌, ◌^◌, ◌++◌, inl, inr, ap, sym, subst, refl, arith, ℕ, Bool, filter, List}
use Rattle.std.specs.FinSet as sets
use Rattle.std.specs.List.{All}
use Rattle.std.proofs.lemmas.List.Elements.{All-append, All-filter}
use Rattle.rs_optime.specs.Order.{optime_cmp}
use Rattle.rs_optime.specs.declared.optime.OpTime.{OpTime}
use Rattle.oplog_entry.specs.Docs.{docs}
use Rattle.oplog_entry.specs.Visible.{log_up_to}
use Rattle.oplog_entry.specs.declared.entry.Entry.{Entry}
use Rattle.oplog_store.specs.Log.{with_entry}
use Rattle.oplog_store.proofs.Keeps.{all_with_entry}
use Rattle.optime_slots.proofs.SlotLemmas.{open_with, open_without}
use Rattle.set_model.specs.Node.{Node}
use Rattle.set_model.specs.Changes.{stepped_down}
use Rattle.set_model.specs.Points.{applied_point, if_primary, last_point, next_optime, visible_point}
use Rattle.set_model.specs.Reads.{local_documents}
use Rattle.set_model.specs.Roles.{is_primary}
use Rattle.set_model.specs.declared.role.Role.{Role}
use Rattle.set_model.specs.declared.role.Role.TheVariants.{Secondary, Candidate, Draining, Primary}
use Rattle.set_model.proofs.SeenLemmas.{next_past}
use Rattle.node_data.specs.NodeData.{IsNext, IsReadable, data_role}
use Rattle.node_state.specs.Coherent.{IsOfTerm}
use Rattle.node_state.specs.Seen.{BesideData, seen_node}

-- ---- roles

pub primary_again : (role : Role) → is_primary (data_role (is_primary role)) ≡ is_primary role
primary_again Primary = refl
primary_again Secondary = refl
primary_again Candidate = refl
primary_again Draining = refl

pub if_again : {A : Type 0} (role : Role) (of_primary of_others : A) → if_primary (data_role (is_primary role)) of_primary of_others ≡ if_primary role of_primary of_others
if_again Primary of_primary of_others = refl
if_again Secondary of_primary of_others = refl
if_again Candidate of_primary of_others = refl
if_again Draining of_primary of_others = refl

-- what is told of a primary is told where the data is writable
pub if_seen : {A : Type 0} (own role : Role) (of_primary of_others : A) → own ≡ data_role (is_primary role) → if_primary own of_primary of_others ≡ if_primary role of_primary of_others
if_seen own role of_primary of_others is = ap (λ r. if_primary r of_primary of_others) is ∙ if_again role of_primary of_others

-- what the data has applied is what the node has
pub applied_seen : (n : Node) (rest : BesideData) → n.role ≡ data_role (is_primary rest.role) → applied_point n ≡ applied_point (seen_node n rest)
applied_seen n rest writable = if_seen n.role rest.role (visible_point n) n.applied writable

pub primary_seen : (own role : Role) → own ≡ data_role (is_primary role) → is_primary own ≡ is_primary role
primary_seen own role is = ap is_primary is ∙ primary_again role

pub primary_data : (own role : Role) → own ≡ data_role (is_primary role) → role ≡ Primary → own ≡ Primary
primary_data own role is primary = is ∙ ap (λ r. data_role (is_primary r)) primary

-- what a read at `local` shows
pub local_seen : (n : Node) (rest : BesideData) → n.role ≡ data_role (is_primary rest.role) → local_documents n ≡ local_documents (seen_node n rest)
local_seen n rest writable = ap docs (if_seen n.role rest.role n.log (log_up_to n.applied n.log) writable)

pub readable_data : (n : Node) (rest : BesideData) (at : OpTime) → n.role ≡ data_role (is_primary rest.role) → IsReadable (seen_node n rest) at → IsReadable n at
readable_data n rest at writable can =
    record { kept = can.kept; reached = λ other. can.reached (sym (primary_seen n.role rest.role writable) ∙ other) }

-- a node whose data follows
pub stepped_seen : (n : Node) (rest : BesideData) → n.role ≡ data_role (is_primary rest.role) → stepped_down (seen_node n rest) ≡ record (stepped_down (seen_node n rest)) { applied = (stepped_down n).applied }
stepped_seen n rest writable = ap (λ (at : OpTime). record (stepped_down (seen_node n rest)) { applied = at }) (sym (if_seen n.role rest.role (last_point n) n.applied writable))

-- ---- terms

-- the next optime is one at which the data may be written
pub is_next : (n : Node) (rest : BesideData) (at : OpTime) → IsOfTerm rest.term n.log n.slots → at ≡ next_optime (seen_node n rest) → IsNext n.log n.slots n.seen at
is_next n rest at of_term is = subst (IsNext n.log n.slots n.seen) (sym is) (record {
  past = next_past (seen_node n rest);
  term = of_term.bound;
  entries = of_term.entries;
  open_slots = λ slot there. let same : slot.term ≡ rest.term = of_term.open_slots slot there in omega (arith, same);
})

-- without slots, in no earlier term
pub of_term-idle : (term later : ℕ) (log : List Entry) (slots : sets.FinSet optime_cmp) → term ≤ later → later < 2 ^ 63 → IsOfTerm term log slots → IsOfTerm later log sets.empty
of_term-idle term later log slots less bound old = record {
  bound = bound;
  entries = λ k entry within. let here = old.entries k entry within in omega (arith, here, less);
  open_slots = λ slot there. absurd (cc (sets.contains-empty optime_cmp slot, there));
}

pub of_term-with : (term : ℕ) (log : List Entry) (slots : sets.FinSet optime_cmp) (entry : Entry) → entry.optime.term ≤ term → IsOfTerm term log slots → IsOfTerm term (with_entry log entry) slots
of_term-with term log slots entry here old =
    record { bound = old.bound; entries = all_with_entry (λ (e : Entry). e.optime.term ≤ term) log entry here old.entries; open_slots = old.open_slots }

pub of_term-joined : (term : ℕ) (log entries : List Entry) (slots : sets.FinSet optime_cmp) → All (λ (e : Entry). e.optime.term ≤ term) entries → IsOfTerm term log slots → IsOfTerm term (log ++ entries) slots
of_term-joined term log entries slots more old =
    record { bound = old.bound; entries = All-append (λ (e : Entry). e.optime.term ≤ term) log entries old.entries more; open_slots = old.open_slots }

pub of_term-filtered : (term : ℕ) (log : List Entry) (slots : sets.FinSet optime_cmp) (test : Entry → Bool) → IsOfTerm term log slots → IsOfTerm term (filter test log) slots
of_term-filtered term log slots test old =
    record { bound = old.bound; entries = All-filter test (λ (e : Entry). e.optime.term ≤ term) log old.entries; open_slots = old.open_slots }

pub of_term-open : (term : ℕ) (log : List Entry) (slots : sets.FinSet optime_cmp) (at : OpTime) → at.term ≡ term → IsOfTerm term log slots → IsOfTerm term log (sets.insert slots at)
of_term-open term log slots at same old = record {
  bound = old.bound;
  entries = old.entries;
  open_slots = λ slot there. elim (open_with slots at slot there) [
    | inl new ↦ ap (λ (o : OpTime). o.term) new ∙ same
    | inr before ↦ old.open_slots slot before
  ];
}

pub of_term-closed : (term : ℕ) (log : List Entry) (slots : sets.FinSet optime_cmp) (at : OpTime) → IsOfTerm term log slots → IsOfTerm term log (sets.remove slots at)
of_term-closed term log slots at old =
    record { bound = old.bound; entries = old.entries; open_slots = λ slot there. old.open_slots slot (open_without slots at slot there) }
