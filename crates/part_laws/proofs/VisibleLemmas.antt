-- The visible part of a log is the log up to its visible optime.
use Rattle.std.proofs.Common.{◌≡◌, ◌∙◌, ap, sym, refl, subst, arith, Bool, true, false, not, cond, filter, List, [], ◌∷◌, Option, None, Some, zero}
use Rattle.std.specs.List.{All, AllPairs}
use Rattle.std.proofs.lemmas.List.Elements.{All-filter, All-tail}
use Rattle.rs_optime.specs.declared.optime.OpTime.{OpTime}
use Rattle.rs_optime.proofs.Optimes.{before_too, later_time}
use Rattle.oplog_entry.specs.declared.entry.Entry.{Entry}
use Rattle.oplog_entry.specs.Visible.{ZERO, is_before, last_of, entries_before, log_up_to}
use Rattle.oplog_entry.proofs.LogLemmas.{stands_before, stands_most}
use Rattle.oplog_store.specs.Log.{IsOplog, StandsBefore}
use Rattle.oplog_store.proofs.Keeps.{pairs_tail, pairs_head}
use Rattle.part_laws.specs.Logs.{AreAfterZero}

-- what passes for an entry passes for those before it
abbrev PassesEarlier : (Entry → Bool) → Type 0
PassesEarlier p = (one two : Entry) → StandsBefore one two → p two ≡ true → p one ≡ true

itself : (o : OpTime) → is_before o o ≡ false
itself o = later_time o o refl (omega arith)

none_up_to : (at : OpTime) (log : List Entry) → All (λ entry. is_before at entry.optime ≡ true) log → log_up_to at log ≡ []
none_up_to at [] all = refl
none_up_to at (entry ∷ log) all =
    ap (λ b. cond (not b) (entry ∷ log_up_to at log) (log_up_to at log)) (all zero entry (omega arith))
    ∙ none_up_to at log (All-tail (λ e. is_before at e.optime ≡ true) entry log all)

none_pass : (p : Entry → Bool) (log : List Entry) → All (λ entry. p entry ≡ false) log → filter p log ≡ []
none_pass p [] all = refl
none_pass p (entry ∷ log) all =
    ap (λ b. cond b (entry ∷ filter p log) (filter p log)) (all zero entry (omega arith)) ∙ none_pass p log (All-tail (λ e. p e ≡ false) entry log all)

-- ---- two entries

fails_later : (p : Entry → Bool) → PassesEarlier p → (one two : Entry) → StandsBefore one two → p one ≡ false → p two ≡ false
fails_later p earlier one two before fails = go (p two) refl
  where
    go : (b : Bool) → p two ≡ b → b ≡ false
    go true is = let passes : p one ≡ true = earlier one two before is in absurd (cc)
    go false is = refl

last_after : (first entry : Entry) (log : List Entry) → All (StandsBefore first) (entry ∷ log) → is_before (last_of (entry ∷ log)) first.optime ≡ false
last_after first entry [] all = stands_most first entry (all zero entry (omega arith))
last_after first entry (next ∷ log) all = last_after first next log (All-tail (StandsBefore first) entry (next ∷ log) all)

-- ---- a log

one_more : (p : Entry → Bool) → PassesEarlier p → (entry : Entry) (rest : List Entry) → All (StandsBefore entry) rest → AreAfterZero (entry ∷ rest)
    → (b : Bool) (kept : List Entry) → p entry ≡ b → filter p rest ≡ kept → kept ≡ log_up_to (last_of kept) rest
    → cond b (entry ∷ kept) kept ≡ log_up_to (last_of (cond b (entry ∷ kept) kept)) (entry ∷ rest)
one_more p earlier entry rest after zeros true [] is kept_is so_far =
    sym (
    ap (λ b. cond (not b) (entry ∷ log_up_to entry.optime rest) (log_up_to entry.optime rest)) (itself entry.optime)
    ∙ ap (λ log. entry ∷ log) (none_up_to entry.optime rest (λ k d within. stands_before entry _ (after k d within)))
    )
one_more p earlier entry rest after zeros true (x ∷ xs) is kept_is so_far =
    let last = last_of (x ∷ xs) in
    let late : is_before last entry.optime ≡ false = last_after entry x xs (subst (λ kept. All (StandsBefore entry) kept) kept_is (All-filter p (StandsBefore entry) rest after)) in
    sym (ap (λ b. cond (not b) (entry ∷ log_up_to last rest) (log_up_to last rest)) late ∙ ap (λ log. entry ∷ log) (sym so_far))
one_more p earlier entry rest after zeros false [] is kept_is so_far = sym (none_up_to ZERO (entry ∷ rest) zeros)
one_more p earlier entry rest after zeros false (x ∷ xs) is kept_is so_far =
    let none : filter p rest ≡ [] = none_pass p rest (λ k d within. fails_later p earlier entry _ (after k d within) is) in
    absurd (cc)

up_to_last : (p : Entry → Bool) → PassesEarlier p → (log : List Entry) → AllPairs StandsBefore log → AreAfterZero log
    → filter p log ≡ log_up_to (last_of (filter p log)) log
up_to_last p earlier [] order zeros = refl
up_to_last p earlier (entry ∷ rest) order zeros =
    one_more p earlier entry rest (pairs_head StandsBefore entry rest order) zeros (p entry) (filter p rest) refl refl
    (up_to_last p earlier rest (pairs_tail StandsBefore entry rest order) (All-tail (λ e. is_before ZERO e.optime ≡ true) entry rest zeros))

all_pass : (log : List Entry) → filter (λ _. true) log ≡ log
all_pass [] = refl
all_pass (entry ∷ log) = ap (λ rest. entry ∷ rest) (all_pass log)

pub visible_up_to : (slot : Option OpTime) (log : List Entry) → IsOplog log → AreAfterZero log
    → entries_before slot log ≡ log_up_to (last_of (entries_before slot log)) log
visible_up_to None log oplog zeros =
    subst (λ whole. whole ≡ log_up_to (last_of whole) log) (all_pass log) (up_to_last (λ _. true) (λ one two before passes. refl) log oplog.order zeros)
visible_up_to (Some slot) log oplog zeros =
    up_to_last (λ entry. is_before entry.optime slot)
    (λ one two before passes. let ts = before.earlier in before_too one.optime two.optime slot (omega arith) before.term passes)
    log oplog.order zeros
