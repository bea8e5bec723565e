-- How far a log is visible, by the entries that no slot holds back.
use Rattle.std.proofs.Common.{◌≡◌, ◌⊎◌, inl, inr, ◌∙◌, ap, sym, refl, subst, arith, Bool, true, false, cond, IsTrue, zero, List, [], ◌∷◌, Option, None, Some}
use Rattle.std.specs.Prelude.{IfSome, filter, nat_lt}
use Rattle.std.specs.List.{All, AllPairs}
use Rattle.std.proofs.lemmas.List.Kept.{AllPairs-filter}
use Rattle.std.specs.FinSet as sets
use Rattle.std.proofs.lemmas.List.Elements.{All-tail}
use Rattle.rs_optime.specs.Order.{optime_cmp, is_before}
use Rattle.rs_optime.specs.declared.optime.OpTime.{OpTime}
use Rattle.rs_optime.proofs.Optimes.{at_most_trans, before_at_most_trans}
use Rattle.oplog_entry.specs.Log.{StandsBefore, with_entry}
use Rattle.oplog_entry.specs.Visible.{ZERO, last_of, least, entries_before, visible}
use Rattle.oplog_entry.specs.declared.entry.Entry.{Entry}
use Rattle.oplog_entry.proofs.Optimes.{zero_least}
use Rattle.visibility_point.proofs.Least.{is_listed, least_listed, least_is_first}
use Rattle.node_data.proofs.LogLemmas.{at_most_last}

-- an entry has such an optime
abbrev pub SomeEntry : (OpTime → Type 0) → List Entry → Type 0
SomeEntry P [] = ⊥
SomeEntry P (entry ∷ log) = P entry.optime ⊎ SomeEntry P log

pub some_with : (P : OpTime → Type 0) (log : List Entry) (entry : Entry) → SomeEntry P log → SomeEntry P (with_entry log entry)
some_with P [] entry some = absurd some
some_with P (first ∷ log) entry some =
    elim (nat_lt first.optime.ts entry.optime.ts) as (λ b. SomeEntry P (cond b (first ∷ with_entry log entry) (entry ∷ first ∷ log))) [
      | true ↦ by_some (λ rest. some_with P log entry rest) some
      | false ↦ inr some
    ]
  where
    by_some : (SomeEntry P log → SomeEntry P (with_entry log entry)) → P first.optime ⊎ SomeEntry P log → P first.optime ⊎ SomeEntry P (with_entry log entry)
    by_some again (inl here) = inl here
    by_some again (inr rest) = inr (again rest)

pub some_more : (P Q : OpTime → Type 0) (log : List Entry) → ((o : OpTime) → P o → Q o) → SomeEntry P log → SomeEntry Q log
some_more P Q [] more some = some
some_more P Q (entry ∷ log) more (inl here) = inl (more entry.optime here)
some_more P Q (entry ∷ log) more (inr rest) = inr (some_more P Q log more rest)

-- with what holds of each
pub some_both : (P Q : OpTime → Type 0) (log : List Entry) → All (λ (e : Entry). Q e.optime) log → SomeEntry P log → SomeEntry (λ o. P o × Q o) log
some_both P Q [] all some = some
some_both P Q (entry ∷ log) all (inl here) = inl (here, all zero entry (omega arith))
some_both P Q (entry ∷ log) all (inr rest) = inr (some_both P Q log (All-tail (λ (e : Entry). Q e.optime) entry log all) rest)

pub some_fact : (R : Type 0) (log : List Entry) → SomeEntry (λ o. R) log → R
some_fact R [] some = absurd some
some_fact R (entry ∷ log) (inl here) = here
some_fact R (entry ∷ log) (inr rest) = some_fact R log rest

pub some_last : (P : OpTime → Type 0) (entry : Entry) (log : List Entry) → P (last_of (entry ∷ log)) → SomeEntry P (entry ∷ log)
some_last P entry [] here = inl here
some_last P entry (next ∷ log) here = inr (some_last P next log here)

pub some_filter : (P : OpTime → Type 0) (t : OpTime → Bool) (log : List Entry) → SomeEntry P (filter (λ (e : Entry). t e.optime) log) → SomeEntry (λ o. P o × (t o ≡ true)) log
some_filter P t [] some = some
some_filter P t (entry ∷ log) some = by_test (λ rest. some_filter P t log rest) (t entry.optime) refl some
  where
    by_test : (SomeEntry P (filter (λ (e : Entry). t e.optime) log) → SomeEntry (λ o. P o × (t o ≡ true)) log) → (b : Bool) → t entry.optime ≡ b → SomeEntry P (cond b (entry ∷ filter (λ (e : Entry). t e.optime) log) (filter (λ (e : Entry). t e.optime) log)) → SomeEntry (λ o. P o × (t o ≡ true)) (entry ∷ log)
    by_test again true is (inl here) = inl (here, is)
    by_test again true is (inr rest) = inr (again rest)
    by_test again false is rest = inr (again rest)

pub filter_some : (P : OpTime → Type 0) (t : OpTime → Bool) (log : List Entry) → SomeEntry (λ o. P o × (t o ≡ true)) log → SomeEntry P (filter (λ (e : Entry). t e.optime) log)
filter_some P t [] some = some
filter_some P t (entry ∷ log) (inl here) = subst (λ b. SomeEntry P (cond b (entry ∷ filter (λ (e : Entry). t e.optime) log) (filter (λ (e : Entry). t e.optime) log))) (sym here.1) (inl here.0)
filter_some P t (entry ∷ log) (inr rest) =
    elim (t entry.optime) as (λ b. SomeEntry P (cond b (entry ∷ filter (λ (e : Entry). t e.optime) log) (filter (λ (e : Entry). t e.optime) log))) [
      | true ↦ inr (filter_some P t log rest)
      | false ↦ filter_some P t log rest
    ]

-- the last entry is no earlier than an optime that some entry is no earlier than
pub some_to_last : (o : OpTime) (log : List Entry) → AllPairs StandsBefore log → SomeEntry (λ e. is_before e o ≡ false) log → is_before (last_of log) o ≡ false
some_to_last o log order some =
    some_fact (is_before (last_of log) o ≡ false) log
    (some_more (λ e. (is_before e o ≡ false) × (is_before (last_of log) e ≡ false)) (λ e. is_before (last_of log) o ≡ false) log (λ e both. at_most_trans o e (last_of log) both.0 both.1)
    (some_both (λ e. is_before e o ≡ false) (λ e. is_before (last_of log) e ≡ false) log (at_most_last log order) some))

pub last_to_some : (o : OpTime) (log : List Entry) → is_before (last_of log) o ≡ false → (is_before ZERO o ≡ false) ⊎ SomeEntry (λ e. is_before e o ≡ false) log
last_to_some o [] within = inl within
last_to_some o (entry ∷ log) within = inr (some_last (λ e. is_before e o ≡ false) entry log within)

-- ---- slots

-- every open slot is past an optime
abbrev pub IsBeforeSlots : sets.FinSet optime_cmp → OpTime → Type 0
IsBeforeSlots slots o = (slot : OpTime) → IsTrue (sets.contains slots slot) → is_before o slot ≡ true

-- An optime that is no later than ZERO, or than an entry that no slot holds back.
abbrev pub IsShown : List Entry → sets.FinSet optime_cmp → OpTime → Type 0
IsShown log slots o = (is_before ZERO o ≡ false) ⊎ SomeEntry (λ e. (is_before e o ≡ false) × IsBeforeSlots slots e) log

pub visible_shown : (log : List Entry) (slots : sets.FinSet optime_cmp) (o : OpTime) → is_before (visible log (sets.items slots)) o ≡ false → IsShown log slots o
visible_shown log slots o within = by_least (least (sets.items slots)) refl
  where
    listed : (slot : OpTime) → IsTrue (sets.contains slots slot) → IsTrue (is_listed slot (sets.items slots))
    listed slot there = sym (sets.contains-items slots slot) ∙ there

    by_least : (r : Option OpTime) → least (sets.items slots) ≡ r → IsShown log slots o
    by_least None is = elim (last_to_some o log (ap (λ r. is_before (last_of (entries_before r log)) o) (sym is) ∙ within)) [
      | inl none ↦ inl none
      | inr some ↦ inr (some_more (λ e. is_before e o ≡ false) (λ e. (is_before e o ≡ false) × IsBeforeSlots slots e) log (λ e here. (here, λ slot there. absurd (none_open slot there))) some)
    ]
      where
        none_open : (slot : OpTime) → IsTrue (sets.contains slots slot) → ⊥
        none_open slot there = let first = least_is_first (sets.items slots) slot (listed slot there) in let e : ◌≡◌ {A = Option OpTime} None (Some first.0) = sym is ∙ first.1 in cc
    by_least (Some s) is = elim (last_to_some o (filter (λ (e : Entry). is_before e.optime s) log) (ap (λ r. is_before (last_of (entries_before r log)) o) (sym is) ∙ within)) [
      | inl none ↦ inl none
      | inr some ↦ inr (some_more (λ e. (is_before e o ≡ false) × (is_before e s ≡ true)) (λ e. (is_before e o ≡ false) × IsBeforeSlots slots e) log (λ e both. (both.0, after e both.1))
          (some_filter (λ e. is_before e o ≡ false) (λ e. is_before e s) log some))
    ]
      where
        after : (e : OpTime) → is_before e s ≡ true → IsBeforeSlots slots e
        after e less slot there =
            let first = least_is_first (sets.items slots) slot (listed slot there) in
            let same : Some first.0 ≡ Some s = sym first.1 ∙ is in
            let own : first.0 ≡ s = cc in
            before_at_most_trans e s slot less (ap (λ x. is_before slot x) (sym own) ∙ first.2)

pub shown_visible : (log : List Entry) (slots : sets.FinSet optime_cmp) (o : OpTime) → AllPairs StandsBefore log → IsShown log slots o → is_before (visible log (sets.items slots)) o ≡ false
shown_visible log slots o order (inl none) = zero_least o (visible log (sets.items slots)) none
shown_visible log slots o order (inr some) = by_least (least (sets.items slots)) refl
  where
    by_least : (r : Option OpTime) → least (sets.items slots) ≡ r → is_before (last_of (entries_before (least (sets.items slots)) log)) o ≡ false
    by_least None is = ap (λ r. is_before (last_of (entries_before r log)) o) is
        ∙ some_to_last o log order (some_more (λ e. (is_before e o ≡ false) × IsBeforeSlots slots e) (λ e. is_before e o ≡ false) log (λ e both. both.0) some)
    by_least (Some s) is =
        let there : IsTrue (sets.contains slots s) = sets.contains-items slots s ∙ least_there (sets.items slots) s is in
        ap (λ r. is_before (last_of (entries_before r log)) o) is
        ∙ some_to_last o (filter (λ (e : Entry). is_before e.optime s) log) (AllPairs-filter StandsBefore (λ (e : Entry). is_before e.optime s) log order)
        (filter_some (λ e. is_before e o ≡ false) (λ e. is_before e s) log
        (some_more (λ e. (is_before e o ≡ false) × IsBeforeSlots slots e) (λ e. (is_before e o ≡ false) × (is_before e s ≡ true)) log (λ e both. (both.0, both.1 s there)) some))
      where
        least_there : (xs : List OpTime) (at : OpTime) → least xs ≡ Some at → IsTrue (is_listed at xs)
        least_there xs at same = subst (λ r. IfSome r (λ o. IsTrue (is_listed o xs))) same (least_listed xs)
