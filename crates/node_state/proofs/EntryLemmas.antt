-- Entries in logs: what is in a part of a log, the last entry, and what is visible.
use Rattle.std.proofs.Common.{◌≡◌, ◌<◌, ◌≤◌, ◌||◌, inl, inr, refl, sym, ap, subst, ◌∙◌, arith, zero, Bool, true, false, cond, List, [], ◌∷◌, filter}
use Rattle.std.specs.Prelude.{nat_lt}
use Rattle.std.specs.List.{All, AllPairs}
use Rattle.std.proofs.lemmas.Bool.Decides.{nat_tests}
use Rattle.rs_optime.specs.declared.optime.OpTime.{OpTime}
use Rattle.rs_optime.proofs.Optimes.{at_most_trans, at_most_refl}
use Rattle.rs_optime.specs.Membership.{In}
use Rattle.rs_optime.proofs.MembershipLemmas.{in_filter, all_in, in_all}
use Rattle.oplog_entry.specs.Visible.{ZERO, is_before, last_of}
use Rattle.oplog_entry.specs.declared.entry.Entry.{Entry}
use Rattle.oplog_entry.proofs.Optimes.{zero_at_most}
use Rattle.oplog_entry.proofs.LogLemmas.{stands_most}
use Rattle.oplog_store.specs.Log.{StandsBefore, with_entry}
use Rattle.oplog_store.proofs.Keeps.{pairs_tail, pairs_head}
use Rattle.repl_msg.specs.Logs.{same_optime, has_entry}
use Rattle.repl_msg.proofs.HasLemmas.{same_is, same_itself}
use Rattle.set_model.specs.Safety.{AtMost, Has}

-- ---- membership

pub filter_in : {X : Type 0} (p : X → Bool) (xs : List X) (x : X) → In x xs → p x ≡ true → In x (filter p xs)
filter_in p [] x there passes = absurd there
filter_in p (y ∷ ys) x (inl same) passes =
    let here : p y ≡ true = ap p same ∙ passes in subst (λ b. In x (cond b (y ∷ filter p ys) (filter p ys))) (sym here) (inl same)
filter_in p (y ∷ ys) x (inr there) passes = go (p y) (filter_in p ys x there passes)
  where
    go : (b : Bool) → In x (filter p ys) → In x (cond b (y ∷ filter p ys) (filter p ys))
    go true rest = inr rest
    go false rest = rest

pub itself_in : (log : List Entry) (entry : Entry) → In entry (with_entry log entry)
itself_in [] entry = inl refl
itself_in (other ∷ log) entry = go (nat_lt other.optime.ts entry.optime.ts) (itself_in log entry)
  where
    go : (b : Bool) → In entry (with_entry log entry) → In entry (cond b (other ∷ with_entry log entry) (entry ∷ other ∷ log))
    go true rest = inr rest
    go false rest = inl refl

pub has_in : (log : List Entry) (at : OpTime) → Has log at → (entry : Entry) × In entry log × (entry.optime ≡ at)
has_in [] at has = absurd (cc has)
has_in (entry ∷ log) at has = go (same_optime entry.optime at) refl (λ more. has_in log at more) has
  where
    go : (b : Bool) → same_optime entry.optime at ≡ b → (Has log at → (one : Entry) × In one log × (one.optime ≡ at)) → (b || has_entry log at) ≡ true
        → (one : Entry) × In one (entry ∷ log) × (one.optime ≡ at)
    go true is rest has = (entry, inl refl, same_is entry.optime at is)
    go false is rest has = ((rest has).0, inr (rest has).1, (rest has).2)

pub in_has : (log : List Entry) (at : OpTime) (entry : Entry) → In entry log → entry.optime ≡ at → Has log at
in_has [] at entry there is = absurd there
in_has (other ∷ log) at entry (inl same) is =
    let here : same_optime other.optime at ≡ true = ap (λ (e : Entry). same_optime e.optime at) same ∙ ap (λ o. same_optime o at) is ∙ same_itself at in
    ap (λ b. b || has_entry log at) here
in_has (other ∷ log) at entry (inr there) is = go (same_optime other.optime at) (in_has log at entry there is)
  where
    go : (b : Bool) → Has log at → (b || has_entry log at) ≡ true
    go true rest = refl
    go false rest = rest

-- ---- the last entry

-- what is at or past each entry is so for the last
pub last_most : (log : List Entry) (at : OpTime) → ((entry : Entry) → In entry log → AtMost entry.optime at) → AtMost (last_of log) at
last_most [] at each = zero_at_most at
last_most (entry ∷ []) at each = each entry (inl refl)
last_most (entry ∷ next ∷ log) at each = last_most (next ∷ log) at (λ one there. each one (inr there))

pub last_before : (log : List Entry) (at : OpTime) → is_before ZERO at ≡ true → ((entry : Entry) → In entry log → is_before entry.optime at ≡ true) → is_before (last_of log) at ≡ true
last_before [] at first each = first
last_before (entry ∷ []) at first each = each entry (inl refl)
last_before (entry ∷ next ∷ log) at first each = last_before (next ∷ log) at first (λ one there. each one (inr there))

-- no entry is after the last one
pub below_last : (log : List Entry) → AllPairs StandsBefore log → (entry : Entry) → In entry log → AtMost entry.optime (last_of log)
below_last [] order entry there = absurd there
below_last (one ∷ []) order entry (inl same) = subst (λ (e : Entry). AtMost e.optime one.optime) same (at_most_refl one.optime)
below_last (one ∷ []) order entry (inr none) = absurd none
below_last (one ∷ next ∷ log) order entry (inl same) =
    let step : StandsBefore one next = all_in (StandsBefore one) (next ∷ log) next (pairs_head StandsBefore one (next ∷ log) order) (inl refl) in
    subst (λ (e : Entry). AtMost e.optime (last_of (next ∷ log))) same
    (at_most_trans one.optime next.optime (last_of (next ∷ log)) (stands_most one next step) (below_last (next ∷ log) (pairs_tail StandsBefore one (next ∷ log) order) next (inl refl)))
below_last (one ∷ next ∷ log) order entry (inr there) = below_last (next ∷ log) (pairs_tail StandsBefore one (next ∷ log) order) entry there

-- a log that has all of another ends no earlier
pub last_grows : (old new : List Entry) → AllPairs StandsBefore new → ((entry : Entry) → In entry old → In entry new) → AtMost (last_of old) (last_of new)
last_grows old new order each = last_most old (last_of new) (λ entry there. below_last new order entry (each entry there))

-- ---- an entry at its place

with_first : (log : List Entry) (entry : Entry) → All (λ other. entry.optime.ts ≤ other.optime.ts) log → with_entry log entry ≡ entry ∷ log
with_first [] entry late = refl
with_first (other ∷ log) entry late =
    let here : entry.optime.ts ≤ other.optime.ts = late zero other (omega arith) in
    let test : nat_lt other.optime.ts entry.optime.ts ≡ false = grind arith in
    ap (λ b. cond b (other ∷ with_entry log entry) (entry ∷ other ∷ log)) test

late_after : (one : Entry) (log : List Entry) (entry : Entry) → AllPairs StandsBefore (one ∷ log) → nat_lt one.optime.ts entry.optime.ts ≡ false → (other : Entry) → In other (one ∷ log) → entry.optime.ts ≤ other.optime.ts
late_after one log entry order test other (inl same) =
    let here : entry.optime.ts ≤ one.optime.ts = grind (arith, nat_tests) in subst (λ (e : Entry). entry.optime.ts ≤ e.optime.ts) same here
late_after one log entry order test other (inr there) =
    let here : entry.optime.ts ≤ one.optime.ts = grind (arith, nat_tests) in
    let step : StandsBefore one other = all_in (StandsBefore one) log other (pairs_head StandsBefore one log order) there in
    let later : one.optime.ts < other.optime.ts = step.earlier in
    omega (arith, here, later)

-- an entry that passes a test comes into what passes it
pub filter-with : (p : Entry → Bool) (log : List Entry) (entry : Entry) → AllPairs StandsBefore log → p entry ≡ true → filter p (with_entry log entry) ≡ with_entry (filter p log) entry
filter-with p [] entry order passes = ap (λ b. cond b (entry ∷ []) []) passes
filter-with p (other ∷ log) entry order passes = go (nat_lt other.optime.ts entry.optime.ts) refl (filter-with p log entry (pairs_tail StandsBefore other log order) passes)
  where
    go : (b : Bool) → nat_lt other.optime.ts entry.optime.ts ≡ b → filter p (with_entry log entry) ≡ with_entry (filter p log) entry
        → filter p (cond b (other ∷ with_entry log entry) (entry ∷ other ∷ log)) ≡ with_entry (cond (p other) (other ∷ filter p log) (filter p log)) entry
    go true is rest = with_test (p other)
      where
        with_test : (c : Bool) → cond c (other ∷ filter p (with_entry log entry)) (filter p (with_entry log entry)) ≡ with_entry (cond c (other ∷ filter p log) (filter p log)) entry
        with_test true = ap (λ l. other ∷ l) rest ∙ sym (ap (λ b. cond b (other ∷ with_entry (filter p log) entry) (entry ∷ other ∷ filter p log)) is)
        with_test false = rest
    go false is rest =
        ap (λ b. cond b (entry ∷ filter p (other ∷ log)) (filter p (other ∷ log))) passes
        ∙ sym (with_first (filter p (other ∷ log)) entry (in_all (λ (o : Entry). entry.optime.ts ≤ o.optime.ts) (filter p (other ∷ log)) (λ o there. late_after other log entry order is o (in_filter p (other ∷ log) o there).0)))
