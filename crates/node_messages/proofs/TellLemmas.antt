-- What a node sends another of its visible log.
use Rattle.std.proofs.Common.{◌≡◌, ◌∙◌, ◌<◌, ◌≤◌, arith, inl, inr, ap, sym, refl, ℕ, Bool, true, false, not, nat_lt, cond, filter, length, Option, None, Some, List}
use Rattle.std.specs.FinSet as sets
use Rattle.std.proofs.lemmas.Bool.Decides.{nat_tests}
use Rattle.rs_optime.specs.Order.{optime_cmp}
use Rattle.rs_optime.specs.declared.optime.OpTime.{OpTime}
use Rattle.rs_optime.specs.Membership.{In}
use Rattle.rs_optime.proofs.Optimes.{before_at_most_trans}
use Rattle.rs_optime.proofs.MembershipLemmas.{in_filter}
use Rattle.oplog_entry.specs.Visible.{ZERO, is_before, last_of, least, entries_before, log_up_to}
use Rattle.oplog_entry.specs.declared.entry.Entry.{Entry}
use Rattle.oplog_entry.proofs.Optimes.{zero_at_most}
use Rattle.oplog_entry.proofs.LogLemmas.{last_is}
use Rattle.oplog_store.specs.Log.{IsOplog}
use Rattle.oplog_store.proofs.LogLemmas.{oplog_filter}
use Rattle.visibility_point.proofs.Least.{none_listed, items_again}
use Rattle.repl_msg.specs.Logs.{log_after}
use Rattle.set_model.specs.declared.reply.Refusal.TheVariants.{TooManyOptimes}
use Rattle.set_model.specs.Node.{Node}
use Rattle.set_model.specs.Points.{visible_log, visible_point}
use Rattle.set_model.specs.Rollback.{common_refusal}
use Rattle.node_messages.specs.Ahead.{in_term, taking}
use Rattle.node_state.proofs.EntryLemmas.{filter_in, below_last}
use Rattle.node_data.proofs.LogLemmas.{up_to-last}
use Rattle.node_state.proofs.MergeLemmas.{same_log}

not_so : (b : Bool) → not b ≡ true → b ≡ false
not_so true is = cc is
not_so false is = refl

-- the entries that are visible after an optime, by the last visible one
pub after_shown : (slot : Option OpTime) (log : List Entry) (after : OpTime) → IsOplog log
    → log_after after (log_up_to (last_of (entries_before slot log)) log) ≡ log_after after (entries_before slot log)
after_shown None log after oplog = ap (log_after after) (up_to-last log oplog.order)
after_shown (Some slot) log after oplog =
    same_log (log_after after (log_up_to point log)) (log_after after shown)
    (oplog_filter (λ (e : Entry). is_before after e.optime) (log_up_to point log) (oplog_filter (λ (e : Entry). not (is_before point e.optime)) log oplog)).order
    (oplog_filter (λ (e : Entry). is_before after e.optime) shown shown_oplog).order over home
  where
    shown : List Entry
    shown = filter (λ (e : Entry). is_before e.optime slot) log

    shown_oplog : IsOplog (filter (λ (e : Entry). is_before e.optime slot) log)
    shown_oplog = oplog_filter (λ (e : Entry). is_before e.optime slot) log oplog

    point : OpTime
    point = last_of (filter (λ (e : Entry). is_before e.optime slot) log)

    early : (entry : Entry) → is_before after entry.optime ≡ true → is_before (last_of (filter (λ (e : Entry). is_before e.optime slot) log)) entry.optime ≡ false → is_before entry.optime slot ≡ true
    early entry past late = elim (last_is (filter (λ (e : Entry). is_before e.optime slot) log)) [
      | inl none ↦
          let first : is_before ZERO entry.optime ≡ false = ap (λ o. is_before o entry.optime) (sym none) ∙ late in
          let before : is_before after ZERO ≡ true = before_at_most_trans after entry.optime ZERO past first in
          let not_before : is_before after ZERO ≡ false = zero_at_most after in
          absurd (cc (before, not_before))
      | inr last ↦
          let passes : is_before last.0.optime slot ≡ true = (in_filter (λ (e : Entry). is_before e.optime slot) log last.0 last.1).1 in
          before_if entry.optime last.0.optime slot (ap (λ o. is_before o entry.optime) last.2 ∙ late) passes
    ]
      where
        before_if : (a b c : OpTime) → is_before b a ≡ false → is_before b c ≡ true → is_before a c ≡ true
        before_if a b c late before = go (is_before a c) refl
          where
            go : (d : Bool) → is_before a c ≡ d → is_before a c ≡ true
            go true is = is
            go false is = let other : is_before b a ≡ true = before_at_most_trans b c a before is in absurd (cc (other, late))

    over : (entry : Entry) → In entry (log_after after (log_up_to point log)) → In entry (log_after after shown)
    over entry there =
        let one : In entry (log_up_to point log) × (is_before after entry.optime ≡ true) = in_filter (λ (e : Entry). is_before after e.optime) (log_up_to point log) entry there in
        let two : In entry log × (not (is_before point entry.optime) ≡ true) = in_filter (λ (e : Entry). not (is_before point e.optime)) log entry one.0 in
        filter_in (λ (e : Entry). is_before after e.optime) shown entry
        (filter_in (λ (e : Entry). is_before e.optime slot) log entry two.0 (early entry one.1 (not_so (is_before point entry.optime) two.1))) one.1

    home : (entry : Entry) → In entry (log_after after shown) → In entry (log_after after (log_up_to point log))
    home entry there =
        let one : In entry shown × (is_before after entry.optime ≡ true) = in_filter (λ (e : Entry). is_before after e.optime) shown entry there in
        let two : In entry log × (is_before entry.optime slot ≡ true) = in_filter (λ (e : Entry). is_before e.optime slot) log entry one.0 in
        filter_in (λ (e : Entry). is_before after e.optime) (log_up_to point log) entry
        (filter_in (λ (e : Entry). not (is_before point e.optime)) log entry two.0 (ap not (below_last shown shown_oplog.order entry one.0))) one.1

-- the same of a node that takes a message
pub told_after : (raised : Bool) (term : ℕ) (node : Node) (visible after : OpTime) → IsOplog node.log → visible ≡ visible_point (taking raised term node)
    → log_after after (log_up_to visible node.log) ≡ log_after after (visible_log (taking raised term node))
told_after true term node visible after oplog is =
    ap (λ o. log_after after (log_up_to o node.log)) is ∙ after_shown (least (sets.items (taking true term node).slots)) node.log after oplog
told_after false term node visible after oplog is =
    ap (λ o. log_after after (log_up_to o node.log)) is ∙ after_shown (least (sets.items node.slots)) node.log after oplog

-- what a node would tell, as it refuses to
pub refused_by : (node : Node) (term : ℕ) (after : OpTime) (shown : List Entry) → shown ≡ log_after after (visible_log (in_term term node))
    → (cond (nat_lt 20000 (length shown)) (Some TooManyOptimes) None) ≡ common_refusal node term after
refused_by node term after shown is =
    ap (λ (l : List Entry). cond (nat_lt 20000 (length l)) (Some TooManyOptimes) None) (is ∙ ap (log_after after) (by_term (nat_lt node.term term)))
  where
    by_term : (b : Bool) → visible_log (taking b term node) ≡ cond b node.log (visible_log node)
    by_term true =
        ap (λ (slots : List OpTime). entries_before (least slots) node.log) (none_listed (sets.items (sets.empty {R = optime_cmp})) (items_again (sets.empty {R = optime_cmp})))
    by_term false = refl

pub refused_many : (node : Node) (term : ℕ) (after : OpTime) (shown : List Entry) → shown ≡ log_after after (visible_log (in_term term node))
    → 20000 < length shown → Some TooManyOptimes ≡ common_refusal node term after
refused_many node term after shown is many =
    let test : nat_lt 20000 (length shown) ≡ true = grind (arith, nat_tests) in
    sym (ap (λ b. cond b (Some TooManyOptimes) None) test) ∙ refused_by node term after shown is

pub refused_few : (node : Node) (term : ℕ) (after : OpTime) (shown : List Entry) → shown ≡ log_after after (visible_log (in_term term node))
    → length shown ≤ 20000 → None ≡ common_refusal node term after
refused_few node term after shown is few =
    let test : nat_lt 20000 (length shown) ≡ false = grind (arith, nat_tests) in
    sym (ap (λ b. cond b (Some TooManyOptimes) None) test) ∙ refused_by node term after shown is
