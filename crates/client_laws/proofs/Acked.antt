-- What an acknowledgement at majority means, and that acknowledged logs form one chain.
use Rattle.std.proofs.Common.{◌≡◌, ◌≤◌, ◌∙◌, inl, inr, ap, sym, subst, arith, ℕ, suc, not, length, List, [], ◌∷◌, Some, filter}
use Rattle.rs_optime.specs.Membership.{In}
use Rattle.rs_optime.specs.declared.optime.OpTime.{OpTime}
use Rattle.rs_optime.proofs.MembershipLemmas.{in_filter}
use Rattle.oplog_entry.specs.Visible.{is_before, log_up_to}
use Rattle.oplog_entry.specs.declared.entry.Entry.{Entry}
use Rattle.oplog_entry.specs.declared.entry.Session.{Session}
use Rattle.set_model.specs.declared.command.Event.{Event}
use Rattle.set_model.specs.Node.{Node}
use Rattle.set_model.specs.Run.{Sizes}
use Rattle.set_model.specs.Safety.{IsSafePoint, Safe}
use Rattle.set_model.specs.Sessions.{is_write}
use Rattle.set_model.proofs.SessionLemmas.{is_write_of}
use Rattle.commit_machine.specs.Words.{AtMost, Begins}
use Rattle.commit_machine.proofs.Growth.{in_left}
use Rattle.safety_laws.specs.Chains.{AreOneChain, CommittedLogsChain}
use Rattle.safety_laws.specs.Logs.{LogsRise, LeadersKeep}
use Rattle.safety_laws.proofs.Merges.{into_filter}
use Rattle.linear_read.specs.Written.{EntriesAreWritten}
use Rattle.linear_read.proofs.LinearReads.{AckedAt, acked_at}
use Rattle.client_laws.specs.Acknowledged.{AcknowledgedLogsChain, IsAcked, IsAcknowledged}
use Rattle.client_laws.specs.Told.{WritesAreAcknowledgedOnce}

-- ---- parts of logs

-- a log has what it begins with
pub in_begins : (entry : Entry) (front log : List Entry) → Begins front log → In entry front → In entry log
in_begins entry front log begins there = subst (λ (l : List Entry). In entry l) (sym begins.1) (in_left entry front begins.0 there)

pub in_up_to : (entry : Entry) (at : OpTime) (log : List Entry) → In entry log → AtMost entry.optime at → In entry (log_up_to at log)
in_up_to entry at log there within = into_filter (λ (e : Entry). not (is_before at e.optime)) entry log there (ap not within)

pub up_to_in : (entry : Entry) (at : OpTime) (log : List Entry) → In entry (log_up_to at log) → In entry log
up_to_in entry at log there = (in_filter (λ (e : Entry). not (is_before at e.optime)) log entry there).0

-- a list of one element at most has no two
alone : {A : Type 0} (xs : List A) (one two : A) → length xs ≤ 1 → In one xs → In two xs → one ≡ two
alone [] one two few first second = absurd first
alone (x ∷ []) one two few (inl first) (inl second) = sym first ∙ second
alone (x ∷ []) one two few (inr none) second = absurd none
alone (x ∷ []) one two few first (inr none) = absurd none
alone (x ∷ y ∷ xs) one two few first second = absurd (omega (arith, few))

-- ---- acknowledgements

module _ (sizes : Sizes) (events : List Event) (safe : Safe sizes events) (logs : LogsRise sizes events) (keeps : LeadersKeep sizes events) (written : EntriesAreWritten sizes events) where
  pub tells : (place number : ℕ) (at : OpTime) (node : Node) → IsAcked sizes events place number at node → AckedAt sizes events safe logs keeps written place number at node
  tells place number at node acked = acked_at sizes events safe logs keeps written place number acked.event at acked.answers acked.asks node acked.node_at

  pub stays : (place number : ℕ) (at : OpTime) (node : Node) → IsAcked sizes events place number at node → IsSafePoint sizes events (suc place) node at
  stays place number at node acked = safe.committed_stay.acknowledged place number acked.event at acked.answers acked.asks node acked.node_at

  module _ (chain : CommittedLogsChain sizes events) where
    pub acknowledged_chain : AcknowledgedLogsChain sizes events
    acknowledged_chain one two first second =
        subst (λ (l : List Entry). AreOneChain l two) (sym first.log_is) (subst (λ (l : List Entry). AreOneChain (log_up_to first.at first.node.log) l) (sym second.log_is)
        (chain (suc first.place) (suc second.place) first.number second.number first.node second.node first.acked.node_at second.acked.node_at first.at second.at
        (tells first.place first.number first.at first.node first.acked).within (tells second.place second.number second.at second.node second.acked).within))

    -- of two acknowledged entries, some node had both
    once_in : (session : Session) (one two : Entry) (log : List Entry) → one.session ≡ Some session → two.session ≡ Some session → IsAcknowledged sizes events log → In one log → In two log → one ≡ two
    once_in session one two log first_is second_is acknowledged first second =
        alone (filter (is_write session) acknowledged.node.log) one two
        (safe.retried_once.once (suc acknowledged.place) acknowledged.number acknowledged.node acknowledged.acked.node_at session)
        (there one first_is first) (there two second_is second)
      where
        there : (entry : Entry) → entry.session ≡ Some session → In entry log → In entry (filter (is_write session) acknowledged.node.log)
        there entry session_is seen = into_filter (is_write session) entry acknowledged.node.log
            (up_to_in entry acknowledged.at acknowledged.node.log (subst (λ (l : List Entry). In entry l) acknowledged.log_is seen)) (is_write_of session entry session_is)

    pub acknowledged_once : WritesAreAcknowledgedOnce sizes events
    acknowledged_once session one two first_is second_is first second = elim (acknowledged_chain first.0 second.0 first.1 second.1) [
      | inl begins ↦ once_in session one two second.0 first_is second_is second.1 (in_begins one first.0 second.0 begins first.2) second.2
      | inr begins ↦ once_in session one two first.0 first_is second_is first.1 first.2 (in_begins two second.0 first.0 begins second.2)
    ]
