-- Which optimes a log has, by the entries up to them.
use Rattle.std.proofs.Common.{◌≡◌, ◌∙◌, ◌<◌, ap, sym, subst, refl, arith, Bool, true, false, ◌||◌, List, [], ◌∷◌, ℕ, zero, suc, ◌+◌, length, inl, inr}
use Rattle.std.proofs.lemmas.Bool.{or_cases}
use Rattle.std.specs.List.{All}
use Rattle.std.proofs.lemmas.List.Elements.{All-tail}
use Rattle.rs_optime.specs.declared.optime.OpTime.{OpTime}
use Rattle.rs_optime.proofs.Optimes.{before_both, at_most_refl}
use Rattle.oplog_entry.specs.declared.entry.Entry.{Entry}
use Rattle.oplog_entry.specs.Lawful.{IsLawful}
use Rattle.oplog_entry.specs.Visible.{is_before}
use Rattle.oplog_store.specs.Log.{IsOplog, StandsBefore}
use Rattle.oplog_store.proofs.Keeps.{pairs_head, pairs_tail}
use Rattle.repl_msg.specs.Logs.{same_optime, has_entry}
use Rattle.repl_msg.proofs.HasLemmas.{same_is}
use Rattle.rollback_core.proofs.Steps.{is_past, stands_at, IsCountUpTo}
use Rattle.rollback_core.proofs.Greatest.{stands_after}

tail_oplog : (entry : Entry) (log : List Entry) → IsOplog (entry ∷ log) → IsOplog log
tail_oplog entry log oplog = record { order = pairs_tail StandsBefore entry log oplog.order; lawful = All-tail IsLawful entry log oplog.lawful }

-- where the first is past an optime, none has it
none_has : (log : List Entry) (at : OpTime) → IsOplog log → (0 < length log → is_past log 0 at ≡ true) → has_entry log at ≡ false
none_has [] at oplog first = refl
none_has (entry ∷ log) at oplog first = go (has_entry (entry ∷ log) at) refl
  where
    past : is_before at entry.optime ≡ true
    past = first (omega arith)

    go : (b : Bool) → has_entry (entry ∷ log) at ≡ b → has_entry (entry ∷ log) at ≡ false
    go true is = elim (or_cases _ _ is) [
      | inl same ↦ let late : is_before at entry.optime ≡ false = ap (is_before at) (same_is entry.optime at same) ∙ at_most_refl at in absurd (cc (past, late))
      | inr there ↦ let late : is_before at entry.optime ≡ false = stands_after entry log at (pairs_head StandsBefore entry log oplog.order) there in absurd (cc (past, late))
    ]
    go false is = is

-- each entry after another is past it
past_after : (entry : Entry) (log : List Entry) (n : ℕ) → All (StandsBefore entry) log → n < length log → is_past log n entry.optime ≡ true
past_after entry [] n after within = absurd (omega arith)
past_after entry (next ∷ log) zero after within =
    let before : StandsBefore entry next = after zero next (omega arith) in before_both entry.optime next.optime before.term before.earlier
past_after entry (next ∷ log) (suc n) after within = past_after entry log n (All-tail (StandsBefore entry) next log after) (omega arith)

-- where the next is past an optime and the last isn't, the log has it if that is the last one's
last_has : (log : List Entry) (n : ℕ) (at : OpTime) → IsOplog log → n < length log → is_past log n at ≡ false
    → (suc n < length log → is_past log (suc n) at ≡ true) → has_entry log at ≡ stands_at log n at
last_has [] n at oplog within last next = absurd (omega arith)
last_has (entry ∷ log) zero at oplog within last next =
    let none : has_entry log at ≡ false = none_has log at (tail_oplog entry log oplog) (λ some. next (omega arith)) in
    ap (λ b. same_optime entry.optime at || b) none ∙ or-false (same_optime entry.optime at)
  where
    or-false : (b : Bool) → (b || false) ≡ b
    or-false true = refl
    or-false false = refl
last_has (entry ∷ log) (suc n) at oplog within last next = go (same_optime entry.optime at) refl (last_has log n at (tail_oplog entry log oplog) (omega arith) last (λ some. next (omega arith)))
  where
    go : (b : Bool) → same_optime entry.optime at ≡ b → has_entry log at ≡ stands_at log n at → (same_optime entry.optime at || has_entry log at) ≡ stands_at log n at
    go true same rest =
        let past : is_past log n entry.optime ≡ true = past_after entry log n (pairs_head StandsBefore entry log oplog.order) (omega arith) in
        let here : is_past log n at ≡ true = ap (is_past log n) (sym (same_is entry.optime at same)) ∙ past in
        let late : is_past log n at ≡ false = last in
        absurd (cc (here, late))
    go false other rest = ap (λ b. b || has_entry log at) other ∙ rest

-- what so many entries up to an optime tell
pub has_last : (log : List Entry) (at : OpTime) (count place : ℕ) → IsOplog log → IsCountUpTo log at count → place + 1 ≡ count → has_entry log at ≡ stands_at log place at
has_last log at count place oplog up_to one =
    let is : suc place ≡ count = omega arith in
    let within = up_to.within in
    last_has log place at oplog (omega arith) (up_to.last place one)
    (subst (λ n. n < length log → is_past log n at ≡ true) (sym is) up_to.next)

pub has_none : (log : List Entry) (at : OpTime) (count : ℕ) → IsOplog log → IsCountUpTo log at count → count ≡ 0 → has_entry log at ≡ false
has_none log at count oplog up_to none = none_has log at oplog (subst (λ n. n < length log → is_past log n at ≡ true) none up_to.next)
