-- Logs that are split at an optime.
use Rattle.std.proofs.Common.{◌≡◌, ◌∙◌, ap, sym, refl, subst, arith, Bool, true, false, cond, not, zero, suc, List, [], ◌∷◌, ◌++◌, append-nil}
use Rattle.std.specs.Prelude.{filter, slice_index_or}
use Rattle.std.specs.List.{All, AllPairs}
use Rattle.std.proofs.lemmas.List.Elements.{filter-append, All-tail}
use Rattle.rs_optime.specs.declared.optime.OpTime.{OpTime}
use Rattle.rs_optime.proofs.Optimes.{at_most_before_trans, at_most_refl, before_at_most, before_both}
use Rattle.oplog_entry.specs.Log.{StandsBefore}
use Rattle.oplog_entry.specs.Visible.{is_before, last_of, log_up_to}
use Rattle.oplog_entry.specs.declared.entry.Entry.{Entry}
use Rattle.oplog_store.proofs.Keeps.{pairs_head, pairs_tail}
use Rattle.repl_msg.specs.Logs.{log_after}
use Rattle.node_data.proofs.VersionLemmas.{all_late, none_up_to}

-- ---- lists

-- a test that lets nothing through that another one stops
pub filter-within : {X : Type 0} (p q : X → Bool) (xs : List X) → ((x : X) → p x ≡ true → q x ≡ true) → filter p (filter q xs) ≡ filter p xs
filter-within p q [] within = refl
filter-within p q (x ∷ xs) within = by_test (q x) refl (p x) refl (filter-within p q xs within)
  where
    by_test : (b : Bool) → q x ≡ b → (c : Bool) → p x ≡ c → filter p (filter q xs) ≡ filter p xs → filter p (filter q (x ∷ xs)) ≡ filter p (x ∷ xs)
    by_test true is true here again = rw (is, here) (ap (λ ys. x ∷ ys) again)
    by_test true is false here again = rw (is, here) again
    by_test false is true here again = let also : q x ≡ true = within x here in absurd (cc)
    by_test false is false here again = rw (is, here) again

-- two tests in either order
pub filter-swap : {X : Type 0} (p q : X → Bool) (xs : List X) → filter p (filter q xs) ≡ filter q (filter p xs)
filter-swap p q [] = refl
filter-swap p q (x ∷ xs) = by_test (q x) refl (p x) refl (filter-swap p q xs)
  where
    by_test : (b : Bool) → q x ≡ b → (c : Bool) → p x ≡ c → filter p (filter q xs) ≡ filter q (filter p xs) → filter p (filter q (x ∷ xs)) ≡ filter q (filter p (x ∷ xs))
    by_test true is true here again = rw (is, here, is) (ap (λ ys. x ∷ ys) again)
    by_test true is false here again = rw (is, here) again
    by_test false is true here again = rw (is, here, is) again
    by_test false is false here again = rw (is, here) again

pub filter-all : {X : Type 0} (p : X → Bool) (xs : List X) → All (λ x. p x ≡ true) xs → filter p xs ≡ xs
filter-all p [] all = refl
filter-all p (x ∷ xs) all =
    let here : p x ≡ true = all zero x (omega arith) in
    rw here (ap (λ ys. x ∷ ys) (filter-all p xs (All-tail (λ y. p y ≡ true) x xs all)))

pub filter-none : {X : Type 0} (p : X → Bool) (xs : List X) → All (λ x. p x ≡ false) xs → filter p xs ≡ []
filter-none p [] none = refl
filter-none p (x ∷ xs) none =
    let here : p x ≡ false = none zero x (omega arith) in
    rw here (filter-none p xs (All-tail (λ y. p y ≡ false) x xs none))

-- ---- up to an optime, and after it

-- an entry that is late, and all after it
pub every_late : (at : OpTime) (entry : Entry) (log : List Entry) → AllPairs StandsBefore (entry ∷ log) → is_before at entry.optime ≡ true → All (λ other. is_before at other.optime ≡ true) (entry ∷ log)
every_late at entry log order late zero d within = late
every_late at entry log order late (suc k) d within = all_late at entry log late (pairs_head StandsBefore entry log order) k d (omega arith)

-- a log is its part up to an optime, and that after it
pub parts : (at : OpTime) (log : List Entry) → AllPairs StandsBefore log → log ≡ log_up_to at log ++ log_after at log
parts at [] order = refl
parts at (entry ∷ log) order = by_test (is_before at entry.optime) refl (parts at log (pairs_tail StandsBefore entry log order))
  where
    by_test : (late : Bool) → is_before at entry.optime ≡ late → log ≡ log_up_to at log ++ log_after at log → entry ∷ log ≡ log_up_to at (entry ∷ log) ++ log_after at (entry ∷ log)
    by_test true late again =
        let all : All (λ other. is_before at other.optime ≡ true) (entry ∷ log) = every_late at entry log order late in
        rw (none_up_to at (entry ∷ log) all) (sym (filter-all (λ (e : Entry). is_before at e.optime) (entry ∷ log) all))
    by_test false early again = rw early (ap (λ ys. entry ∷ ys) again)

-- up to an optime, and then up to an earlier one
pub up_to-up_to : (at to : OpTime) (log : List Entry) → is_before to at ≡ false → log_up_to at (log_up_to to log) ≡ log_up_to at log
up_to-up_to at to log later = filter-within (λ (e : Entry). not (is_before at e.optime)) (λ (e : Entry). not (is_before to e.optime)) log (λ e here. within e (is_before to e.optime) refl here)
  where
    within : (e : Entry) (b : Bool) → is_before to e.optime ≡ b → not (is_before at e.optime) ≡ true → not (is_before to e.optime) ≡ true
    within e true is here =
        let more : is_before at e.optime ≡ true = at_most_before_trans at to e.optime later is in
        absurd (cc)
    within e false is here = ap not is

-- what holds of each entry's optime holds of the last one's
pub last_with : (P : OpTime → Type 0) (entry : Entry) (log : List Entry) → All (λ (e : Entry). P e.optime) (entry ∷ log) → P (last_of (entry ∷ log))
last_with P entry [] all = all zero entry (omega arith)
last_with P entry (next ∷ log) all = last_with P next log (All-tail (λ (e : Entry). P e.optime) entry (next ∷ log) all)

-- the last entry is no earlier than any
pub at_most_last : (log : List Entry) → AllPairs StandsBefore log → All (λ entry. is_before (last_of log) entry.optime ≡ false) log
at_most_last [] order k d within = absurd (omega arith)
at_most_last (entry ∷ []) order zero d within = at_most_refl entry.optime
at_most_last (entry ∷ []) order (suc k) d within = absurd (omega arith)
at_most_last (entry ∷ next ∷ log) order zero d within =
    last_with (λ o. is_before o entry.optime ≡ false) next log (λ k e inside.
    let stands : StandsBefore entry (slice_index_or (next ∷ log) k e) = pairs_head StandsBefore entry (next ∷ log) order k e inside in
    before_at_most entry.optime (slice_index_or (next ∷ log) k e).optime (before_both entry.optime (slice_index_or (next ∷ log) k e).optime stands.term stands.earlier))
at_most_last (entry ∷ next ∷ log) order (suc k) d within = at_most_last (next ∷ log) (pairs_tail StandsBefore entry (next ∷ log) order) k d (omega arith)

pub up_to-last : (log : List Entry) → AllPairs StandsBefore log → log_up_to (last_of log) log ≡ log
up_to-last log order = filter-all (λ (e : Entry). not (is_before (last_of log) e.optime)) log (λ k d within. ap not (at_most_last log order k d within))

-- entries that are all late add nothing up to an optime
pub up_to-late : (at : OpTime) (log more : List Entry) → All (λ entry. is_before at entry.optime ≡ true) more → log_up_to at (log ++ more) ≡ log_up_to at log
up_to-late at log more late =
    filter-append (λ (e : Entry). not (is_before at e.optime)) log more
    ∙ ap (λ rest. log_up_to at log ++ rest) (none_up_to at more late)
    ∙ append-nil (log_up_to at log)

pub after-late : (at : OpTime) (log more : List Entry) → All (λ entry. is_before at entry.optime ≡ true) more → log_after at (log ++ more) ≡ log_after at log ++ more
after-late at log more late =
    filter-append (λ (e : Entry). is_before at e.optime) log more
    ∙ ap (λ rest. log_after at log ++ rest) (filter-all (λ (e : Entry). is_before at e.optime) more late)

-- each entry after an optime is late
pub filter-passes : {X : Type 0} (p : X → Bool) (xs : List X) → All (λ x. p x ≡ true) (filter p xs)
filter-passes p [] = λ k d within. absurd (omega arith)
filter-passes p (x ∷ xs) = by_test (p x) refl (filter-passes p xs)
  where
    by_test : (b : Bool) → p x ≡ b → All (λ y. p y ≡ true) (filter p xs) → All (λ y. p y ≡ true) (cond (p x) (x ∷ filter p xs) (filter p xs))
    by_test true is again = subst (λ b. All (λ y. p y ≡ true) (cond b (x ∷ filter p xs) (filter p xs))) (sym is) with_it
      where
        with_it : All (λ y. p y ≡ true) (x ∷ filter p xs)
        with_it zero d within = is
        with_it (suc k) d within = again k d (omega arith)
    by_test false is again = subst (λ b. All (λ y. p y ≡ true) (cond b (x ∷ filter p xs) (filter p xs))) (sym is) again
