-- What is visible of a log, and where its earlier entries come from.
use Rattle.std.proofs.Common.{◌≡◌, ◌<◌, subst, refl, arith, Bool, true, false, Option, None, Some, List}
use Rattle.std.specs.FinSet as sets
use Rattle.rs_optime.specs.Membership.{In}
use Rattle.rs_optime.specs.Order.{is_before}
use Rattle.rs_optime.specs.declared.optime.OpTime.{OpTime}
use Rattle.rs_optime.proofs.MembershipLemmas.{in_filter}
use Rattle.rs_optime.proofs.Optimes.{earlier_term}
use Rattle.oplog_entry.specs.Visible.{entries_before, least}
use Rattle.oplog_entry.specs.declared.entry.Entry.{Entry}
use Rattle.oplog_entry.proofs.LeastLemmas.{least_in}
use Rattle.set_model.specs.Node.{Node}
use Rattle.set_model.specs.Points.{visible_log}
use Rattle.set_model.specs.Roles.{is_primary}
use Rattle.commit_machine.specs.Words.{Has}
use Rattle.safety_laws.proofs.Merges.{has_in_of, into_filter}
use Rattle.safety_laws.proofs.Parts.{in_has}
use Rattle.safety_laws.proofs.Rel.{HasLog}

-- what is visible is in the log
pub seen_in : (node : Node) (entry : Entry) → In entry (visible_log node) → In entry node.log
seen_in node entry there = go (least (sets.items node.slots)) there
  where
    go : (slot : Option OpTime) → In entry (entries_before slot node.log) → In entry node.log
    go None there = there
    go (Some slot) there = (in_filter (λ (e : Entry). is_before e.optime slot) node.log entry there).0

-- an entry is visible, but for a primary's own term
pub in_seen : (node : Node) → HasLog node → (entry : Entry) → In entry node.log → (is_primary node.role ≡ true → entry.optime.term < node.term) → In entry (visible_log node)
in_seen node log entry there older = go (least (sets.items node.slots)) refl
  where
    is_primary_by : (slot : OpTime) → In slot (sets.items node.slots) → (role : Bool) → is_primary node.role ≡ role → is_primary node.role ≡ true
    is_primary_by slot has true is = is
    is_primary_by slot has false is = absurd (subst (λ (l : List OpTime). In slot l) (log.none is) has)

    go : (slot : Option OpTime) → least (sets.items node.slots) ≡ slot → In entry (entries_before slot node.log)
    go None is = there
    go (Some slot) is =
        let has : In slot (sets.items node.slots) = least_in (sets.items node.slots) slot is in
        let own : slot.term ≡ node.term = (log.slots slot has).term in
        let less : entry.optime.term < node.term = older (is_primary_by slot has (is_primary node.role) refl) in
        into_filter (λ (e : Entry). is_before e.optime slot) entry node.log there (earlier_term entry.optime slot (omega (arith, own, less)))

pub has_seen : (node : Node) (at : OpTime) → Has at (visible_log node) → Has at node.log
has_seen node at has =
    let found : (e : Entry) × In e (visible_log node) × (e.optime ≡ at) = has_in_of at (visible_log node) has in
    subst (λ o. Has o node.log) found.2 (in_has found.0 node.log (seen_in node found.0 found.1))
