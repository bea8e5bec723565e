-- The part of a log before its least open slot, and the part up to the last optime there.
use Rattle.std.proofs.Common.{◌≡◌, ◌⊎◌, ◌∙◌, inl, inr, ap, sym, subst, refl, Bool, true, false, cond, not, ◌&&◌, ◌||◌, List, [], ◌∷◌, filter, take, Option, None, Some}
use Rattle.std.specs.List.{AllPairs}
use Rattle.std.proofs.lemmas.List.Kept.{AllPairs-filter}
use Rattle.rs_optime.specs.declared.optime.OpTime.{OpTime}
use Rattle.rs_optime.proofs.Optimes.{before_at_most_trans}
use Rattle.rs_optime.specs.Membership.{In}
use Rattle.rs_optime.proofs.MembershipLemmas.{in_filter, filter-same}
use Rattle.oplog_entry.specs.Visible.{ZERO, is_before, last_of, entries_before, log_up_to}
use Rattle.oplog_entry.specs.declared.entry.Entry.{Entry}
use Rattle.oplog_entry.proofs.Optimes.{zero_least, is_zero}
use Rattle.oplog_store.specs.Log.{StandsBefore}
use Rattle.repl_msg.proofs.HasLemmas.{has_filter, same_itself}
use Rattle.repl_msg.specs.Fetching.{holds, reply_of}
use Rattle.repl_msg.specs.Logs.{has_entry, log_after, same_optime}
use Rattle.node_state.proofs.EntryLemmas.{below_last, filter_in}

filter-all : {X : Type 0} (xs : List X) → filter (λ _. true) xs ≡ xs
filter-all [] = refl
filter-all (x ∷ xs) = ap (λ rest. x ∷ rest) (filter-all xs)

none_pass : {X : Type 0} (p : X → Bool) (xs : List X) → ((x : X) → In x xs → p x ≡ false) → filter p xs ≡ []
none_pass p [] each = refl
none_pass p (x ∷ xs) each = ap (λ b. cond b (x ∷ filter p xs) (filter p xs)) (each x (inl refl)) ∙ none_pass p xs (λ y there. each y (inr there))

-- a log is empty, or one of its entries is the last
last_in : (log : List Entry) → (log ≡ []) ⊎ ((entry : Entry) × In entry log × (entry.optime ≡ last_of log))
last_in [] = inl refl
last_in (entry ∷ []) = inr (entry, inl refl, refl)
last_in (entry ∷ next ∷ log) = elim (last_in (next ∷ log)) [
  | inl none ↦ absurd (cc none)
  | inr some ↦ inr (some.0, inr some.1, some.2)
]

not_is : (b : Bool) → not b ≡ true → b ≡ false
not_is true is = absurd (cc is)
not_is false is = refl

-- the entries before a slot are none, or those up to the last of them
front_or_none : (slot : OpTime) (log : List Entry) → AllPairs StandsBefore log
    → (entries_before (Some slot) log ≡ []) ⊎ (entries_before (Some slot) log ≡ log_up_to (last_of (entries_before (Some slot) log)) log)
front_or_none slot log order = elim (last_in shown) [
  | inl none ↦ inl none
  | inr some ↦ inr (filter-same early (λ entry. not (is_before (last_of shown) entry.optime)) log (λ entry there. by_test some.0 some.1 some.2 entry there (early entry) refl))
]
  where
    early : Entry → Bool
    early entry = is_before entry.optime slot

    shown : List Entry
    shown = filter early log

    by_test : (last : Entry) → In last shown → last.optime ≡ last_of shown → (entry : Entry) → In entry log → (b : Bool) → early entry ≡ b → early entry ≡ not (is_before (last_of shown) entry.optime)
    by_test last within is entry there true passes =
        let most : is_before (last_of shown) entry.optime ≡ false = below_last shown (AllPairs-filter StandsBefore early log order) entry (filter_in early log entry there passes) in
        passes ∙ sym (ap not most)
    by_test last within is entry there false fails =
        let after : is_before last.optime entry.optime ≡ true = before_at_most_trans last.optime slot entry.optime (in_filter early log last within).1 fails in
        fails ∙ sym (ap not (ap (λ o. is_before o entry.optime) (sym is) ∙ after))

pub front : (slot : Option OpTime) (log : List Entry) → AllPairs StandsBefore log
    → (entries_before slot log ≡ []) ⊎ (entries_before slot log ≡ log_up_to (last_of (entries_before slot log)) log)
front None log order =
    inr (sym (filter-same (λ entry. not (is_before (last_of log) entry.optime)) (λ _. true) log (λ entry there. ap not (below_last log order entry there)) ∙ filter-all log))
front (Some slot) log order = front_or_none slot log order

-- ---- where nothing is shown

-- nothing comes after an optime in the log up to ZERO
pub none_after : (log : List Entry) (base : OpTime) → log_after base (log_up_to ZERO log) ≡ []
none_after log base =
    none_pass (λ (e : Entry). is_before base e.optime) (log_up_to ZERO log)
    (λ entry there. zero_least entry.optime base (not_is (is_before ZERO entry.optime) (in_filter (λ (e : Entry). not (is_before ZERO e.optime)) log entry there).1))

-- ZERO is held by each log, and no other optime by one up to ZERO
holds_none : (log : List Entry) (base : OpTime) → holds (log_up_to ZERO log) base ≡ holds [] base
holds_none log base = go (same_optime base ZERO) refl
  where
    has_none : same_optime base ZERO ≡ false → has_entry (log_up_to ZERO log) base ≡ false
    has_none other = by_before (is_before ZERO base) refl
      where
        by_before : (b : Bool) → is_before ZERO base ≡ b → has_entry (log_up_to ZERO log) base ≡ false
        by_before true is = has_filter (λ o. not (is_before ZERO o)) log base ∙ ap (λ b. not b && has_entry log base) is
        by_before false is = let same : same_optime base ZERO ≡ true = subst (λ (z : OpTime). same_optime z ZERO ≡ true) (sym (is_zero base is)) (same_itself ZERO) in absurd (cc (same, other))

    go : (b : Bool) → same_optime base ZERO ≡ b → (same_optime base ZERO || has_entry (log_up_to ZERO log) base) ≡ (same_optime base ZERO || false)
    go true is = ap (λ b. b || has_entry (log_up_to ZERO log) base) is ∙ sym (ap (λ b. b || false) is)
    go false is = ap (λ b. same_optime base ZERO || b) (has_none is)

nothing_told : (log : List Entry) (base commit : OpTime) (primary : Bool) → reply_of (log_up_to ZERO log) ZERO base commit primary ≡ reply_of [] ZERO base commit primary
nothing_told log base commit primary =
    ap (λ (entries : List Entry). record { base = base; holds = holds (log_up_to ZERO log) base; entries = if_held (holds (log_up_to ZERO log) base) (take 5000 entries); visible = ZERO; commit = commit; primary = primary }) (none_after log base)
    ∙ ap (λ (held : Bool). record { base = base; holds = held; entries = if_held held (take 5000 []); visible = ZERO; commit = commit; primary = primary }) (holds_none log base)
  where
    if_held : Bool → List Entry → List Entry
    if_held held entries = cond held entries []

-- what is answered of a log is the same, whether what is visible is told by the least slot or by the last optime before it
pub shown_reply : (slot : Option OpTime) (log : List Entry) → AllPairs StandsBefore log → (base commit : OpTime) (primary : Bool)
    → reply_of (log_up_to (last_of (entries_before slot log)) log) (last_of (entries_before slot log)) base commit primary
    ≡ reply_of (entries_before slot log) (last_of (entries_before slot log)) base commit primary
shown_reply slot log order base commit primary = elim (front slot log order) [
  | inl none ↦ subst (λ (shown : List Entry). reply_of (log_up_to (last_of shown) log) (last_of shown) base commit primary ≡ reply_of shown (last_of shown) base commit primary) (sym none) (nothing_told log base commit primary)
  | inr same ↦ ap (λ (shown : List Entry). reply_of shown (last_of (entries_before slot log)) base commit primary) (sym same)
]
