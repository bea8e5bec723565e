-- Entries that are put into a log one after another.
use Rattle.std.proofs.Common.{◌≡◌, ◌∙◌, ◌<◌, ◌≤◌, ◌-◌, ◌+◌, ℕ, List, [], ◌∷◌, ◌++◌, length, take, drop, ap, sym, subst, refl, arith, Result, Ok, Err}
use Rattle.std.specs.Prelude.{OnOk}
use Rattle.std.specs.List.{All, AllPairs}
use Rattle.std.proofs.lemmas.List.{append_assoc, append-nil, length-append, take-append-drop, take_at}
use Rattle.std.proofs.lemmas.List.Sums.{fold-append}
use Rattle.std.proofs.lemmas.List.Elements.{All-cons, All-head, All-tail}
use Rattle.oplog_entry.specs.declared.entry.Entry.{Entry}
use Rattle.oplog_store.specs.Log.{IsOplog, StandsBefore, with_entry}
use Rattle.oplog_store.proofs.Keeps.{pairs_head, pairs_tail, with_last}
use Rattle.oplog_store.proofs.PlaceLemmas.{oplog_front}
use Rattle.repl_msg.specs.Kept.{with_entries}

-- ---- one more of them

-- the log, with the next one
merged_more : (old done : List Entry) (entry : Entry) → with_entry (with_entries old done) entry ≡ with_entries old (done ++ entry ∷ [])
merged_more old done entry = sym (fold-append with_entry old done (entry ∷ []))

pub next_merged : (log next old done : List Entry) (entry : Entry) → log ≡ with_entries old done → next ≡ with_entry log entry → next ≡ with_entries old (done ++ entry ∷ [])
next_merged log next old done entry is next_is = next_is ∙ ap (λ (l : List Entry). with_entry l entry) is ∙ merged_more old done entry

first_of : (done rest whole : List Entry) (entry : Entry) → done ++ entry ∷ rest ≡ whole → take (length (done ++ entry ∷ [])) whole ≡ done ++ entry ∷ []
first_of done rest whole entry is =
    ap (take (length (done ++ entry ∷ []))) (sym is ∙ sym (append_assoc done (entry ∷ []) rest)) ∙ take_at (done ++ entry ∷ []) rest (length (done ++ entry ∷ [])) refl

pub next_stays : (log old done rest whole : List Entry) (entry : Entry) → log ≡ with_entries old done → done ++ entry ∷ rest ≡ whole
    → ((count : ℕ) → IsOplog (with_entries old (take count whole))) → IsOplog (with_entry log entry)
next_stays log old done rest whole entry is list stays =
    subst (λ (l : List Entry). IsOplog l)
    (ap (with_entries old) (first_of done rest whole entry list) ∙ sym (merged_more old done entry) ∙ ap (λ (l : List Entry). with_entry l entry) (sym is))
    (stays (length (done ++ entry ∷ [])))

-- there is room for it, and less then
pub spare_more : (spare now : ℕ) (done rest whole : List Entry) (entry : Entry) → length whole ≤ spare → now + length done ≡ spare → done ++ entry ∷ rest ≡ whole → 0 < now
spare_more spare now done rest whole entry room sum list = omega (arith, room, sum, ap length list, length-append done (entry ∷ rest))

pub spare_less : (spare now next : ℕ) (done : List Entry) (entry : Entry) → 0 < now → now + length done ≡ spare → next ≡ now - 1 → next + length (done ++ entry ∷ []) ≡ spare
spare_less spare now next done entry some sum next_is = omega (arith, some, sum, next_is, length-append done (entry ∷ []))

-- ---- entries that go after a log

all_back : (P : Entry → Type 0) (xs ys : List Entry) → All P (xs ++ ys) → All P ys
all_back P [] ys all = all
all_back P (x ∷ xs) ys all = all_back P xs ys (All-tail P x (xs ++ ys) all)

earlier : (log : List Entry) (entry : Entry) (rest : List Entry) → AllPairs StandsBefore (log ++ entry ∷ rest) → All (λ (other : Entry). other.optime.ts < entry.optime.ts) log
earlier [] entry rest order = λ k d within. absurd (omega (arith, within))
earlier (first ∷ log) entry rest order =
    let before : StandsBefore first entry = All-head (StandsBefore first) entry rest (all_back (StandsBefore first) log (entry ∷ rest) (pairs_head StandsBefore first (log ++ entry ∷ rest) order)) in
    All-cons (λ (other : Entry). other.optime.ts < entry.optime.ts) first log before.earlier (earlier log entry rest (pairs_tail StandsBefore first (log ++ entry ∷ rest) order))

pub after_all : (log entries : List Entry) → IsOplog (log ++ entries) → with_entries log entries ≡ log ++ entries
after_all log [] oplog = sym (append-nil log)
after_all log (entry ∷ rest) oplog =
    let next : with_entry log entry ≡ log ++ entry ∷ [] = with_last log entry (earlier log entry rest oplog.order) in
    let joined : (log ++ entry ∷ []) ++ rest ≡ log ++ entry ∷ rest = append_assoc log (entry ∷ []) rest in
    ap (λ (l : List Entry). with_entries l rest) next ∙ after_all (log ++ entry ∷ []) rest (subst (λ (l : List Entry). IsOplog l) (sym joined) oplog) ∙ joined

pub after_stays : (log entries : List Entry) → IsOplog (log ++ entries) → (count : ℕ) → IsOplog (with_entries log (take count entries))
after_stays log entries oplog count =
    let parted : (log ++ take count entries) ++ drop count entries ≡ log ++ entries = append_assoc log (take count entries) (drop count entries) ∙ ap (λ (l : List Entry). log ++ l) (take-append-drop count entries) in
    let front : IsOplog (log ++ take count entries) = oplog_front (log ++ take count entries) (drop count entries) (subst (λ (l : List Entry). IsOplog l) (sym parted) oplog) in
    subst (λ (l : List Entry). IsOplog l) (sym (after_all log (take count entries) front)) front

-- what follows where something is told
pub on_ok : {A E : Type 0} (result : Result A E) (P Q : Type 0) → (P → Q) → OnOk result P → OnOk result Q
on_ok (Ok x) P Q from so = from so
on_ok (Err e) P Q from so = tt
