-- Entries whose timestamps rise by one are known by the first and the last of them.
use Rattle.std.proofs.Common.{◌≡◌, ◌∙◌, ◌+◌, ◌-◌, ◌<◌, ◌≤◌, ℕ, zero, suc, true, not, List, ◌++◌, Some, length, take, drop, get_or, refl, sym, ap, subst, arith}
use Rattle.std.specs.List.{All, AllPairs}
use Rattle.std.specs.Option.{option_map}
use Rattle.std.proofs.Math.Seq.{take-add}
use Rattle.std.proofs.lemmas.List.{append-nil, get_or-drop, get_or-take, length-take}
use Rattle.std.proofs.lemmas.List.Elements.{All-append, filter-append}
use Rattle.std.proofs.lemmas.Option.{slice_get-get_or}
use Rattle.rs_optime.specs.declared.optime.OpTime.{OpTime}
use Rattle.oplog_entry.specs.declared.entry.Entry.{Entry}
use Rattle.oplog_store.specs.Log.{StandsAt, StandsBefore}
use Rattle.repl_msg.specs.Logs.{has_entry}
use Rattle.repl_msg.proofs.HasLemmas.{has_found}
use Rattle.checker_tables.specs.Journal.{AreKept, unkept}
use Rattle.checker_tables.proofs.UnkeptLemmas.{none_unkept}

-- ---- optimes in a row

-- a later entry has as many timestamps more as places, or more, and no smaller term
record IsOn (one two : OpTime) (steps : ℕ) : Type 0 where
  pub ts : one.ts + steps ≤ two.ts
  pub term : one.term ≤ two.term

steps_on : (log : List Entry) → AllPairs StandsBefore log → (i steps j : ℕ) (d : Entry) → i + steps ≡ j → j < length log → IsOn (get_or log i d).optime (get_or log j d).optime steps
steps_on log order i zero j d is within =
    let same : i ≡ j = omega (arith, is) in
    subst (λ (k : ℕ). IsOn (get_or log i d).optime (get_or log k d).optime 0) same (record { ts = omega arith; term = omega arith })
steps_on log order i (suc steps) j d is within =
    let before = steps_on log order i steps (i + steps) d refl (omega (arith, is, within)) in
    let next : StandsBefore (get_or log (i + steps) d) (get_or log j d) = order (i + steps) j d (omega (arith, is)) within in
    record { ts = omega (arith, before.ts, next.earlier); term = omega (arith, before.term, next.term) }

-- where there are no more, each has one timestamp more than the one before it
between : (log : List Entry) → AllPairs StandsBefore log → (i steps k : ℕ) (d : Entry) (first last : OpTime) → i + steps < length log → k ≤ steps
    → (get_or log i d).optime ≡ first → (get_or log (i + steps) d).optime ≡ last → first.term ≡ last.term → last.ts ≡ first.ts + steps
    → (get_or log (i + k) d).optime ≡ record { term = first.term; ts = first.ts + k }
between log order i steps k d first last within early first_is last_is term ts =
    let on = steps_on log order i k (i + k) d refl (omega (arith, within, early)) in
    let more = steps_on log order (i + k) (steps - k) (i + steps) d (omega (arith, early)) within in
    let found : OpTime = (get_or log (i + k) d).optime in
    let first_term : (get_or log i d).optime.term ≡ first.term = ap (λ (o : OpTime). o.term) first_is in
    let first_ts : (get_or log i d).optime.ts ≡ first.ts = ap (λ (o : OpTime). o.ts) first_is in
    let last_term : (get_or log (i + steps) d).optime.term ≡ last.term = ap (λ (o : OpTime). o.term) last_is in
    let last_ts : (get_or log (i + steps) d).optime.ts ≡ last.ts = ap (λ (o : OpTime). o.ts) last_is in
    let term_is : found.term ≡ first.term = omega (arith, on.term, more.term, first_term, last_term, term) in
    let ts_is : found.ts ≡ first.ts + k = omega (arith, on.ts, more.ts, first_ts, last_ts, ts, early) in
    λ t. record { term = term_is t; ts = ts_is t }

-- two such rows with the same ends
pub run_there : (log found : List Entry) (place at count : ℕ) (first last : OpTime) → AllPairs StandsBefore log → AllPairs StandsBefore found
    → 0 < count → place + count ≤ length log → at + count ≤ length found
    → ((d : Entry) → (get_or log place d).optime ≡ first) → ((d : Entry) → (get_or log (place + (count - 1)) d).optime ≡ last)
    → ((d : Entry) → (get_or found at d).optime ≡ first) → ((d : Entry) → (get_or found (at + (count - 1)) d).optime ≡ last)
    → first.term ≡ last.term → last.ts ≡ first.ts + (count - 1)
    → All (λ (e : Entry). has_entry found e.optime ≡ true) (take count (drop place log))
run_there log found place at count first last order kept some within within_kept is_first is_last kept_first kept_last term ts k d inside =
    let early : k < count = grind (arith, inside, length-take count (drop place log)) in
    let own : (get_or (take count (drop place log)) k d).optime ≡ record { term = first.term; ts = first.ts + k } =
    ap (λ (e : Entry). e.optime) (get_or-take count (drop place log) k d early ∙ get_or-drop place log k d)
    ∙ between log order place (count - 1) k d first last (omega (arith, some, within)) (omega (arith, early)) (is_first d) (is_last d) term ts in
    let other : (get_or found (at + k) d).optime ≡ record { term = first.term; ts = first.ts + k } =
    between found kept at (count - 1) k d first last (omega (arith, some, within_kept)) (omega (arith, early)) (kept_first d) (kept_last d) term ts in
    let stands : StandsAt found (at + k) (get_or (take count (drop place log)) k d).optime =
    ap (option_map (λ (e : Entry). e.optime)) (slice_get-get_or found (at + k) d (omega (arith, early, within_kept))) ∙ ap Some (other ∙ sym own) in
    has_found found (get_or (take count (drop place log)) k d).optime (Some (at + k)) stands tt

-- ---- what is passed

pub more_kept : (place more : ℕ) (log found : List Entry) → place + more ≤ length log → All (λ (e : Entry). has_entry found e.optime ≡ true) (take more (drop place log))
    → AreKept place log found → AreKept (place + more) log found
more_kept place more log found within all are = record {
  within = within;
  there = subst (λ (l : List Entry). All (λ (e : Entry). has_entry found e.optime ≡ true) l) (sym (take-add place more log))
      (All-append (λ (e : Entry). has_entry found e.optime ≡ true) (take place log) (take more (drop place log)) are.there all);
}

pub unkept_passed : (place more : ℕ) (log found so_far : List Entry) → All (λ (e : Entry). has_entry found e.optime ≡ true) (take more (drop place log))
    → so_far ≡ unkept (take place log) found → so_far ≡ unkept (take (place + more) log) found
unkept_passed place more log found so_far all so =
    so ∙ sym (append-nil (unkept (take place log) found)) ∙ ap (λ (l : List Entry). unkept (take place log) found ++ l) (sym (none_unkept found (take more (drop place log)) all))
    ∙ sym (filter-append (λ (e : Entry). not (has_entry found e.optime)) (take place log) (take more (drop place log)))
    ∙ ap (λ (l : List Entry). unkept l found) (sym (take-add place more log))
