-- Entries after a log, one after another.
use Rattle.std.proofs.Common.{◌≡◌, ◌<◌, ◌∙◌, ◌-◌, ℕ, List, [], ◌∷◌, ◌++◌, length, refl, sym, ap, subst, arith, get_or}
use Rattle.std.specs.List.{All, AllPairs}
use Rattle.std.specs.Prelude.{max}
use Rattle.std.proofs.lemmas.List.{append_assoc, length-append}
use Rattle.std.proofs.lemmas.List.Elements.{All-cons, All-head, All-tail}
use Rattle.oplog_entry.specs.Log.{StandsBefore, IsOplog, with_entry}
use Rattle.oplog_entry.specs.declared.entry.Entry.{Entry}
use Rattle.oplog_store.proofs.Keeps.{pairs_head, pairs_tail, with_last}
use Rattle.set_model.specs.Fetching.{seen_after}
use Rattle.std.specs.FinSet as sets
use Rattle.oplog_store.proofs.PlaceLemmas.{oplog_front}
use Rattle.rs_optime.specs.Order.{optime_cmp}
use Rattle.optime_slots.specs.Reserved.{Reserved}

all_back : {X : Type 0} (P : X → Type 0) (xs ys : List X) → All P (xs ++ ys) → All P ys
all_back P [] ys all = all
all_back P (x ∷ xs) ys all = all_back P xs ys (All-tail P x (xs ++ ys) all)

-- what stands before one of them
all_before : {X : Type 0} (R : X → X → Type 0) (xs : List X) (x : X) (ys : List X) → AllPairs R (xs ++ x ∷ ys) → All (λ o. R o x) xs
all_before R [] x ys pairs = λ k d within. absurd (omega arith)
all_before R (y ∷ xs) x ys pairs =
    All-cons (λ o. R o x) y xs (All-head (R y) x ys (all_back (R y) xs (x ∷ ys) (pairs_head R y (xs ++ x ∷ ys) pairs)))
    (all_before R xs x ys (pairs_tail R y (xs ++ x ∷ ys) pairs))

all_earlier : (log : List Entry) (entry : Entry) → All (λ other. StandsBefore other entry) log → All (λ other. other.optime.ts < entry.optime.ts) log
all_earlier log entry all k d within = let before : StandsBefore (get_or log k d) entry = all k d within in before.earlier

regrouped : (old done rest whole : List Entry) (entry : Entry) → done ++ entry ∷ rest ≡ whole → IsOplog (old ++ whole) → IsOplog ((old ++ done) ++ entry ∷ rest)
regrouped old done rest whole entry is oplog = subst (λ (w : List Entry). IsOplog w) (ap (λ w. old ++ w) (sym is) ∙ sym (append_assoc old done (entry ∷ rest))) oplog

-- the next of them is later than all
pub next_later : (old done rest whole : List Entry) (entry : Entry) → done ++ entry ∷ rest ≡ whole → IsOplog (old ++ whole)
    → All (λ (other : Entry). other.optime.ts < entry.optime.ts) (old ++ done)
next_later old done rest whole entry is oplog =
    all_earlier (old ++ done) entry (all_before StandsBefore (old ++ done) entry rest (regrouped old done rest whole entry is oplog).order)

-- and goes to the end
pub next_last : (old done rest whole : List Entry) (entry : Entry) → done ++ entry ∷ rest ≡ whole → IsOplog (old ++ whole)
    → with_entry (old ++ done) entry ≡ old ++ (done ++ entry ∷ [])
next_last old done rest whole entry is oplog =
    with_last (old ++ done) entry (next_later old done rest whole entry is oplog) ∙ append_assoc old done (entry ∷ [])

pub next_oplog : (old done rest whole : List Entry) (entry : Entry) → done ++ entry ∷ rest ≡ whole → IsOplog (old ++ whole)
    → IsOplog (with_entry (old ++ done) entry)
next_oplog old done rest whole entry is oplog =
    let all = regrouped old done rest whole entry is oplog in
    let front : IsOplog ((old ++ done) ++ entry ∷ []) = oplog_front ((old ++ done) ++ entry ∷ []) rest (subst (λ (w : List Entry). IsOplog w) (sym (append_assoc (old ++ done) (entry ∷ []) rest)) all) in
    subst (λ (w : List Entry). IsOplog w) (sym (with_last (old ++ done) entry (next_later old done rest whole entry is oplog))) front

pub seen_more : (seen : ℕ) (done : List Entry) (entry : Entry) → max (seen_after seen done) entry.optime.ts ≡ seen_after seen (done ++ entry ∷ [])
seen_more seen [] entry = refl
seen_more seen (other ∷ done) entry = seen_more (max seen other.optime.ts) done entry

-- a log with one of them more
pub log_more : (log next old done rest whole : List Entry) (entry : Entry) → log ≡ old ++ done → next ≡ with_entry log entry
    → done ++ entry ∷ rest ≡ whole → IsOplog (old ++ whole) → next ≡ old ++ (done ++ entry ∷ [])
log_more log next old done rest whole entry is next_is list oplog =
    next_is ∙ ap (λ es. with_entry es entry) is ∙ next_last old done rest whole entry list oplog

pub spare_more : (spare now next : ℕ) (done : List Entry) (entry : Entry) → now ≡ spare - length done → next ≡ now - 1 → next ≡ spare - length (done ++ entry ∷ [])
spare_more spare now next done entry is next_is = omega (arith, length-append done (entry ∷ []))

abbrev slots_with : sets.FinSet optime_cmp → ℕ → Reserved
slots_with slots mark = record { slots = slots; mark = mark }

pub slots_more : (slots next : Reserved) (open_ : sets.FinSet optime_cmp) (seen : ℕ) (done : List Entry) (entry : Entry)
    → slots ≡ record { slots = open_; mark = seen_after seen done }
    → next ≡ record { slots = slots.slots; mark = max slots.mark entry.optime.ts }
    → next ≡ record { slots = open_; mark = seen_after seen (done ++ entry ∷ []) }
slots_more slots next open_ seen done entry is next_is =
    next_is ∙ ap (λ (s : Reserved). slots_with s.slots (max s.mark entry.optime.ts)) is
    ∙ ap (λ (n : ℕ). slots_with open_ n) (seen_more seen done entry)
