-- A log with one more entry, its last entry, and entries that stand before others.
use Rattle.std.proofs.Common.{◌≡◌, ◌⊎◌, inl, inr, ap, refl, Bool, true, false, cond, filter, List, [], ◌∷◌}
use Rattle.std.specs.Prelude.{nat_lt}
use Rattle.rs_optime.specs.Membership.{In}
use Rattle.rs_optime.specs.Order.{is_before, AtMost}
use Rattle.rs_optime.proofs.Optimes.{before_at_most, before_both}
use Rattle.oplog_entry.specs.Log.{StandsBefore, with_entry}
use Rattle.oplog_entry.specs.Visible.{ZERO, last_of}
use Rattle.oplog_entry.specs.declared.entry.Entry.{Entry}

pub in_with : (log : List Entry) (entry old : Entry) → In old log → In old (with_entry log entry)
in_with [] entry old there = absurd there
in_with (other ∷ log) entry old there = go (nat_lt other.optime.ts entry.optime.ts) (λ more. in_with log entry old more) there
  where
    go : (b : Bool) → (In old log → In old (with_entry log entry)) → In old (other ∷ log) → In old (cond b (other ∷ with_entry log entry) (entry ∷ other ∷ log))
    go true rest (inl same) = inl same
    go true rest (inr before) = inr (rest before)
    go false rest before = inr before

pub with_in : (log : List Entry) (entry one : Entry) → In one (with_entry log entry) → In one log ⊎ (entry ≡ one)
with_in [] entry one (inl same) = inr same
with_in [] entry one (inr none) = absurd none
with_in (other ∷ log) entry one there = go (nat_lt other.optime.ts entry.optime.ts) (λ more. with_in log entry one more) there
  where
    go : (b : Bool) → (In one (with_entry log entry) → In one log ⊎ (entry ≡ one)) → In one (cond b (other ∷ with_entry log entry) (entry ∷ other ∷ log)) → In one (other ∷ log) ⊎ (entry ≡ one)
    go true rest (inl same) = inl (inl same)
    go true rest (inr more) = elim (rest more) [ inl before ↦ inl (inr before) | inr new ↦ inr new ]
    go false rest (inl same) = inr same
    go false rest (inr more) = inl more

pub filter-without : (p : Entry → Bool) (log : List Entry) (entry : Entry) → p entry ≡ false → filter p (with_entry log entry) ≡ filter p log
filter-without p [] entry fails = ap (λ b. cond b (entry ∷ []) []) fails
filter-without p (other ∷ log) entry fails = go (nat_lt other.optime.ts entry.optime.ts) (filter-without p log entry fails)
  where
    go : (b : Bool) → filter p (with_entry log entry) ≡ filter p log → filter p (cond b (other ∷ with_entry log entry) (entry ∷ other ∷ log)) ≡ filter p (other ∷ log)
    go true rest = ap (λ l. cond (p other) (other ∷ l) l) rest
    go false rest = ap (λ b. cond b (entry ∷ filter p (other ∷ log)) (filter p (other ∷ log))) fails

pub stands_before : (one two : Entry) → StandsBefore one two → is_before one.optime two.optime ≡ true
stands_before one two before = before_both one.optime two.optime before.term before.earlier

pub stands_most : (one two : Entry) → StandsBefore one two → AtMost one.optime two.optime
stands_most one two before = before_at_most one.optime two.optime (stands_before one two before)

pub last_is : (log : List Entry) → (last_of log ≡ ZERO) ⊎ ((last : Entry) × In last log × (last.optime ≡ last_of log))
last_is [] = inl refl
last_is (entry ∷ []) = inr (entry, inl refl, refl)
last_is (entry ∷ next ∷ log) = elim (last_is (next ∷ log)) [ inl none ↦ inl none | inr last ↦ inr (last.0, inr last.1, last.2) ]
