-- How a node prepares a rollback, while it may still be in its own term.
use Rattle.std.proofs.Common.{◌≡◌, ◌∙◌, ◌⊎◌, ◌<◌, ◌-◌, ◌^◌, inl, inr, ap, sym, subst, refl, ℕ, Bool, true, false, not, cond, length, Option, None, Some, List}
use Rattle.std.specs.Prelude.{Result, Ok, Err, OnOk, OnErr}
use Rattle.std.specs.declared.alloc.AllocError.{AllocError}
use Rattle.bson_doc.specs.Place.{Place}
use Rattle.bson_doc.specs.Tree.{Fields}
use Rattle.rs_optime.specs.declared.optime.OpTime.{OpTime}
use Rattle.rs_optime.proofs.Optimes.{at_most_refl, at_most_trans}
use Rattle.oplog_entry.specs.Docs.{docs}
use Rattle.oplog_entry.specs.Visible.{ZERO, is_before, last_of, log_up_to}
use Rattle.oplog_entry.specs.declared.entry.Entry.{Entry}
use Rattle.oplog_store.specs.Log.{IsOplog}
use Rattle.oplog_store.proofs.LogLemmas.{oplog_filter}
use Rattle.repl_msg.specs.Logs.{later_of, log_after}
use Rattle.repl_msg.specs.Rollback.{is_common, common_point}
use Rattle.rollback_core.proofs.Greatest.{greatest_last}
use Rattle.set_model.specs.declared.reply.Ignored.{Ignored}
use Rattle.set_model.specs.declared.reply.Ignored.TheVariants as ignored
use Rattle.set_model.specs.declared.role.Role.{Role}
use Rattle.set_model.specs.declared.role.Role.TheVariants.{Secondary, Candidate, Draining, Primary}
use Rattle.set_model.specs.Node.{Node}
use Rattle.set_model.specs.Points.{if_primary, last_point}
use Rattle.set_model.specs.Reads.{local_documents}
use Rattle.set_model.specs.Roles.{is_secondary}
use Rattle.set_model.specs.Rollback.{common_told, lost_documents, roll_back, rolled_back, rollback_reason}
use Rattle.set_model.specs.Safety.{AtMost, Has}
use Rattle.node_messages.specs.Ahead.{IsPreparedFor, ComesTo, taking}
use Rattle.node_state.specs.Coherent.{IsState}
use Rattle.node_data.specs.NodeData.{NodeData}
use Rattle.node_state.specs.Ready.{IsCut}
use Rattle.node_messages.specs.Rolling.{point_or, reached}
use Rattle.node_state.specs.Seen.{BesideData}
use Rattle.node_state.specs.MessageContinuation.{message_plan}
use Rattle.node_state.specs.declared.turn.MessageContinuation.TheVariants as message_continuations
use Rattle.node_state.proofs.CoherentLemmas.{state-applied}
use Rattle.node_data.proofs.LogLemmas.{up_to-last}
use Rattle.node_state.proofs.RestartLemmas.{no_further}
use Rattle.node_state.proofs.WellKeptLemmas.{has_up_to}
use Rattle.node_messages.proofs.BeatLemmas.{secondary_is}

-- ---- the node as it takes a message

-- a node that steps down has the documents that it had
pub taken_documents : (raised : Bool) (term : ℕ) (node : Node) → IsOplog node.log → local_documents (taking raised term node) ≡ local_documents node
taken_documents false term node oplog = refl
taken_documents true term node oplog = by_role node.role
  where
    by_role : (role : Role) → docs (log_up_to (if_primary role (last_point node) node.applied) node.log) ≡ docs (if_primary role node.log (log_up_to node.applied node.log))
    by_role Primary = ap docs (up_to-last node.log oplog.order)
    by_role Secondary = refl
    by_role Candidate = refl
    by_role Draining = refl

-- ---- why a node doesn't roll back

-- of what the message's term changes, the term and the role alone matter
pub reason_as : (raised : Bool) (term : ℕ) (node : Node) (after : OpTime) (optimes : List OpTime) (visible : OpTime) (own : ℕ) (role : Role)
    → own ≡ (taking raised term node).term → role ≡ (taking raised term node).role
    → rollback_reason (record node { term = own; role = role }) term after optimes visible ≡ rollback_reason (taking raised term node) term after optimes visible
reason_as true term node after optimes visible own role own_is role_is = λ i. rollback_reason (record node { term = own_is i; role = role_is i }) term after optimes visible
reason_as false term node after optimes visible own role own_is role_is = λ i. rollback_reason (record node { term = own_is i; role = role_is i }) term after optimes visible

-- what a point or its want says of the reason
pub no_reason : (reason : Option Ignored) (point found : OpTime) → Ok found ≡ point_or reason point → (reason ≡ None) × (found ≡ point)
no_reason None point found is = (refl, cc is)
no_reason (Some why) point found is = cc is

pub a_reason : (reason : Option Ignored) (point : OpTime) (why : Ignored) → Err why ≡ point_or reason point → reason ≡ Some why
a_reason None point why is = cc is
a_reason (Some other) point why is = cc is

-- ---- what the message then comes to

pub ignored_tells : (raised : Bool) (term : ℕ) (old : Node) (after : OpTime) (optimes : List OpTime) (visible : OpTime) (why : Ignored)
    → rollback_reason (taking raised term old) term after optimes visible ≡ Some why
    → IsPreparedFor (message_continuations.Ignored why) raised term (λ node. common_told node term after optimes visible) old old
ignored_tells raised term old after optimes visible why reason = record { comes_to = comes_to raised reason; at = old.applied; same = refl }
  where
    comes_to : (raised : Bool) → rollback_reason (taking raised term old) term after optimes visible ≡ Some why
        → ComesTo (message_continuations.Ignored why) raised term (λ node. common_told node term after optimes visible) old old
    comes_to true reason items =
        sym (ap (roll_back (taking true term (record old { records = items })) (common_point old.log after optimes)) reason)
    comes_to false reason items = sym (ap (roll_back (record old { records = items }) (common_point old.log after optimes)) reason)

pub rolled_tells : (raised : Bool) (term : ℕ) (old : Node) (at : OpTime) (after : OpTime) (optimes : List OpTime) (visible : OpTime) (point : OpTime) (removed : ℕ) (lost : List (Place × Option Fields))
    → IsOplog old.log → rollback_reason (taking raised term old) term after optimes visible ≡ None → point ≡ common_point old.log after optimes
    → removed ≡ length (log_after point old.log) → lost ≡ lost_documents (local_documents old) (log_after point old.log)
    → IsPreparedFor (message_continuations.RolledBack point removed lost) raised term (λ node. common_told node term after optimes visible) old (record old { applied = at })
rolled_tells raised term old at after optimes visible point removed lost oplog reason point_is removed_is lost_is =
    record { comes_to = comes_to raised reason (lost_is ∙ ap (λ d. lost_documents d (log_after point old.log)) (sym (taken_documents raised term old oplog))); at = at; same = refl }
  where
    comes_to : (raised : Bool) → rollback_reason (taking raised term old) term after optimes visible ≡ None → lost ≡ lost_documents (local_documents (taking raised term old)) (log_after point old.log)
        → ComesTo (message_continuations.RolledBack point removed lost) raised term (λ node. common_told node term after optimes visible) old (record old { applied = at })
    comes_to true reason lost_is items =
        let node = taking true term (record old { records = items }) in
        (λ i. message_plan (message_continuations.RolledBack point (removed_is i) (lost_is i)) node)
        ∙ ap (rolled_back node) point_is
        ∙ sym (ap (roll_back node (common_point old.log after optimes)) reason)
    comes_to false reason lost_is items =
        let node = record old { records = items } in
        (λ i. message_plan (message_continuations.RolledBack point (removed_is i) (lost_is i)) node)
        ∙ ap (rolled_back node) point_is
        ∙ sym (ap (roll_back node (common_point old.log after optimes)) reason)

-- ---- and what it needs

must_be : (b : Bool) (rest : Option Ignored) → cond (not b) (Some ignored.NotSecondary) rest ≡ None → b ≡ true
must_be true rest is = refl
must_be false rest is = cc is

later_second : (a b : OpTime) → AtMost b (later_of a b)
later_second a b = go (is_before a b) refl
  where
    go : (c : Bool) → is_before a b ≡ c → AtMost b (cond c b a)
    go true is = at_most_refl b
    go false is = is

pub common_there : (log : List Entry) (after : OpTime) (optimes : List OpTime) → IsOplog log → (common_point log after optimes ≡ ZERO) ⊎ Has log (common_point log after optimes)
common_there log after optimes oplog = elim (greatest_last (is_common after optimes) log oplog).there [ inl none ↦ inl none | inr has ↦ inr has.0 ]

point_reached : (log : List Entry) (point applied : OpTime) → IsOplog log → (point ≡ ZERO) ⊎ Has log point → AtMost point (later_of applied (last_of (log_up_to point log)))
point_reached log point applied oplog there =
    at_most_trans point (last_of (log_up_to point log)) (later_of applied (last_of (log_up_to point log)))
    (no_further (log_up_to point log) point (oplog_filter (λ (e : Entry). not (is_before point e.optime)) log oplog)
    (elim there [ inl none ↦ inl none | inr has ↦ inr (has_up_to log point point has (at_most_refl point)) ]))
    (later_second applied (last_of (log_up_to point log)))

pub can_cut : (raised : Bool) (term : ℕ) (old : Node) (after : OpTime) (optimes : List OpTime) (visible point : OpTime) → IsOplog old.log
    → rollback_reason (taking raised term old) term after optimes visible ≡ None → point ≡ common_point old.log after optimes
    → AtMost old.commit (common_point old.log after optimes) → old.rollback < 2 ^ 64 - 1 → IsCut point (taking raised term (reached old point))
can_cut raised term old after optimes visible point oplog reason is commit below = go raised reason
  where
    there : (point ≡ ZERO) ⊎ Has old.log point
    there = subst (λ o. (o ≡ ZERO) ⊎ Has old.log o) (sym is) (common_there old.log after optimes oplog)

    far : AtMost point (later_of old.applied (last_of (log_up_to point old.log)))
    far = point_reached old.log point old.applied oplog there

    as_secondary : (role : Role) → AtMost point (if_primary role (last_point old) (if_primary role old.applied (later_of old.applied (last_of (log_up_to point old.log)))))
    as_secondary Primary = no_further old.log point oplog there
    as_secondary Secondary = far
    as_secondary Candidate = far
    as_secondary Draining = far

    go : (raised : Bool) → rollback_reason (taking raised term old) term after optimes visible ≡ None → IsCut point (taking raised term (reached old point))
    go true reason = record { role = refl; commit = subst (AtMost old.commit) (sym is) commit; applied = as_secondary old.role; there = there; rollback = below }
    go false reason =
        let role_is : old.role ≡ Secondary = secondary_is old.role (must_be (is_secondary old.role) _ reason) in
        record {
          role = role_is;
          commit = subst (AtMost old.commit) (sym is) commit;
          applied = subst (λ role. AtMost point (if_primary role old.applied (later_of old.applied (last_of (log_up_to point old.log))))) (sym role_is) far;
          there = there;
          rollback = below;
        }

-- a state whose log is applied further, or is not, stays one
pub state-reached : (n m : Node) (rest : BesideData) (spare left : ℕ) (at : OpTime) (result : Result (Unit {0}) AllocError) (optimes : List OpTime)
    → OnOk result (◌≡◌ {A = NodeData} (record { node = m; spare = left }) (record { node = record n { applied = at }; spare = spare })) → OnErr result (◌≡◌ {A = NodeData} (record { node = m; spare = left }) (record { node = n; spare = spare }))
    → IsState n rest optimes → IsState m rest optimes
state-reached n m rest spare left at (Ok done) optimes ok err old =
    subst (λ (d : NodeData). IsState d.node rest optimes) (sym ok) (state-applied n rest optimes at old)
state-reached n m rest spare left at (Err why) optimes ok err old = subst (λ (d : NodeData). IsState d.node rest optimes) (sym err) old
