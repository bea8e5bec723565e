-- Where an entry goes in a node's log.
use Rattle.std.proofs.Common.{◌≡◌, ◌∙◌, zero, Bool, true, false, cond, List, [], ◌∷◌, length, drop, refl, ap, sym, subst, arith}
use Rattle.std.specs.Prelude.{insert, nat_lt, slice_index_or}
use Rattle.std.specs.List.{All, AllPairs, filter}
use Rattle.std.proofs.lemmas.List.Elements.{All-tail}
use Rattle.oplog_entry.specs.Lawful.{IsLawful}
use Rattle.oplog_entry.specs.Visible.{is_before}
use Rattle.oplog_entry.specs.declared.entry.Entry.{Entry}
use Rattle.oplog_entry.proofs.LogLemmas.{stands_before}
use Rattle.oplog_store.specs.Log.{IsOplog, StandsBefore, with_entry}
use Rattle.oplog_store.proofs.Keeps.{pairs_head, pairs_tail}

-- ---- it is in the log then

-- what is so of each entry is so of the new one
of_new : (P : Entry → Type 0) (log : List Entry) (entry : Entry) → All P (with_entry log entry) → P entry
of_new P [] entry all = all zero entry (omega arith)
of_new P (other ∷ log) entry all = by_time (nat_lt other.optime.ts entry.optime.ts) (of_new P log entry) all
  where
    by_time : (b : Bool) → (All P (with_entry log entry) → P entry) → All P (cond b (other ∷ with_entry log entry) (entry ∷ other ∷ log)) → P entry
    by_time true again all = again (All-tail P other (with_entry log entry) all)
    by_time false again all = all zero entry (omega arith)

pub entry_lawful : (log : List Entry) (entry : Entry) → IsOplog (with_entry log entry) → IsLawful entry
entry_lawful log entry oplog = of_new IsLawful log entry oplog.lawful

-- ---- after those before it

late_one : (entry other : Entry) → StandsBefore entry other → is_before other.optime entry.optime ≡ true → ⊥
late_one entry other before early = grind (arith, before.earlier, before.term, early)

-- none of the entries after another one is before it
none_before : (entry : Entry) (log : List Entry) → All (StandsBefore entry) log → filter (λ (e : Entry). is_before e.optime entry.optime) log ≡ []
none_before entry [] all = refl
none_before entry (other ∷ log) all = by_test (is_before other.optime entry.optime) refl (none_before entry log (All-tail (StandsBefore entry) other log all))
  where
    by_test : (b : Bool) → is_before other.optime entry.optime ≡ b → filter (λ (e : Entry). is_before e.optime entry.optime) log ≡ [] → cond b (other ∷ filter (λ (e : Entry). is_before e.optime entry.optime) log) (filter (λ (e : Entry). is_before e.optime entry.optime) log) ≡ []
    by_test true early rest = absurd (late_one entry other (all zero other (omega arith)) early)
    by_test false late rest = rest

pub placed : (log : List Entry) (entry : Entry) → AllPairs StandsBefore (with_entry log entry) → insert log (length (filter (λ (e : Entry). is_before e.optime entry.optime) log)) entry ≡ with_entry log entry
placed [] entry order = refl
placed (other ∷ log) entry order = by_time (nat_lt other.optime.ts entry.optime.ts) order (placed log entry)
  where
    early : Entry → Bool
    early e = is_before e.optime entry.optime

    by_time : (b : Bool) → AllPairs StandsBefore (cond b (other ∷ with_entry log entry) (entry ∷ other ∷ log))
        → (AllPairs StandsBefore (with_entry log entry) → insert log (length (filter early log)) entry ≡ with_entry log entry)
        → insert (other ∷ log) (length (cond (early other) (other ∷ filter early log) (filter early log))) entry ≡ cond b (other ∷ with_entry log entry) (entry ∷ other ∷ log)
    by_time true order later =
        let before : StandsBefore other entry = of_new (StandsBefore other) log entry (pairs_head StandsBefore other (with_entry log entry) order) in
        ap (λ (b : Bool). insert (other ∷ log) (length (cond b (other ∷ filter early log) (filter early log))) entry) (stands_before other entry before)
        ∙ ap (λ (l : List Entry). other ∷ l) (later (pairs_tail StandsBefore other (with_entry log entry) order))
    by_time false order later =
        ap (λ (l : List Entry). insert (other ∷ log) (length l) entry) (none_before entry (other ∷ log) (pairs_head StandsBefore entry (other ∷ log) order))

-- what is so of each entry that isn't before it is so of those after its place
pub late_after : (P : Entry → Type 0) (log : List Entry) (entry : Entry) → AllPairs StandsBefore (with_entry log entry) → All (λ (other : Entry). is_before other.optime entry.optime ≡ false → P other) log
    → All P (drop (length (filter (λ (e : Entry). is_before e.optime entry.optime) log)) log)
late_after P [] entry order all = λ k d within. absurd (omega (arith, within))
late_after P (other ∷ log) entry order all = by_time (nat_lt other.optime.ts entry.optime.ts) order (late_after P log entry)
  where
    early : Entry → Bool
    early e = is_before e.optime entry.optime

    Late : Entry → Type 0
    Late e = early e ≡ false → P e

    not_early : (e : Entry) → StandsBefore entry e → early e ≡ false
    not_early e before = by_test (early e) refl
      where
        by_test : (b : Bool) → early e ≡ b → early e ≡ false
        by_test true is = absurd (late_one entry e before is)
        by_test false is = is

    by_time : (b : Bool) → AllPairs StandsBefore (cond b (other ∷ with_entry log entry) (entry ∷ other ∷ log))
        → (AllPairs StandsBefore (with_entry log entry) → All Late log → All P (drop (length (filter early log)) log))
        → All P (drop (length (cond (early other) (other ∷ filter early log) (filter early log))) (other ∷ log))
    by_time true order later =
        let before : StandsBefore other entry = of_new (StandsBefore other) log entry (pairs_head StandsBefore other (with_entry log entry) order) in
        subst (λ (b : Bool). All P (drop (length (cond b (other ∷ filter early log) (filter early log))) (other ∷ log))) (sym (stands_before other entry before))
        (later (pairs_tail StandsBefore other (with_entry log entry) order) (All-tail Late other log all))
    by_time false order later =
        let after : All (StandsBefore entry) (other ∷ log) = pairs_head StandsBefore entry (other ∷ log) order in
        subst (λ (l : List Entry). All P (drop (length l) (other ∷ log))) (sym (none_before entry (other ∷ log) after))
        (λ k d within. all k d within (not_early (slice_index_or (other ∷ log) k d) (after k d within)))
