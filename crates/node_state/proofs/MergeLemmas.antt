-- The entries of the records with those of one more record: a part of the log, in its order.
use Rattle.std.proofs.Common.{◌≡◌, ◌≢◌, ◌∙◌, ◌⊎◌, ◌<◌, take, drop, filter, inl, inr, ap, ap₂, sym, subst, refl, arith, ℕ, zero, suc, Bool, true, false, not, List, [], ◌∷◌}
use Rattle.std.proofs.lemmas.List.Kept.{AllPairs-cons}
use Rattle.std.specs.List.{All, AllPairs}
use Rattle.std.proofs.lemmas.List.Elements.{All-tail}
use Rattle.rs_optime.specs.declared.optime.OpTime.{OpTime}
use Rattle.rs_optime.specs.Membership.{In}
use Rattle.rs_optime.proofs.MembershipLemmas.{in_filter, in_take, all_in, in_all}
use Rattle.oplog_entry.specs.Lawful.{IsLawful}
use Rattle.oplog_entry.specs.declared.entry.Entry.{Entry}
use Rattle.oplog_entry.proofs.LogLemmas.{in_with, with_in}
use Rattle.oplog_store.specs.Log.{IsOplog, StandsBefore, with_entry}
use Rattle.oplog_store.proofs.Keeps.{pairs_tail, pairs_head, with_entry_keeps}
use Rattle.oplog_store.proofs.LogLemmas.{oplog_filter}
use Rattle.repl_msg.specs.Kept.{with_entries}
use Rattle.repl_msg.specs.Logs.{has_entry}
use Rattle.node_state.proofs.EntryLemmas.{filter_in, itself_in, has_in, in_has}

-- ---- what is in a list

pub in_drop : {A : Type 0} (many : ℕ) (x : A) (xs : List A) → In x (drop many xs) → In x xs
in_drop zero x xs there = there
in_drop (suc many) x [] there = absurd there
in_drop (suc many) x (y ∷ xs) there = inr (in_drop many x xs there)

pub taken_or_not : {A : Type 0} (many : ℕ) (x : A) (xs : List A) → In x xs → In x (take many xs) ⊎ In x (drop many xs)
taken_or_not zero x xs there = inr there
taken_or_not (suc many) x [] there = absurd there
taken_or_not (suc many) x (y ∷ xs) (inl same) = inl (inl same)
taken_or_not (suc many) x (y ∷ xs) (inr there) = elim (taken_or_not many x xs there) [ inl first ↦ inl (inr first) | inr second ↦ inr second ]

-- ---- logs in order

abbrev pub Rises : List Entry → Type 0
Rises log = AllPairs StandsBefore log

stands_first : (one : Entry) (log : List Entry) → Rises (one ∷ log) → (other : Entry) → In other log → StandsBefore one other
stands_first one log rises other there = all_in (StandsBefore one) log other (pairs_head StandsBefore one log rises) there

not_itself : (one : Entry) → StandsBefore one one → ⊥
not_itself one before = let earlier : one.optime.ts < one.optime.ts = before.earlier in omega (arith, earlier)

pub not_before_same : (one two : Entry) → one.optime ≡ two.optime → StandsBefore one two → ⊥
not_before_same one two same before =
    let earlier : one.optime.ts < two.optime.ts = before.earlier in
    let ts : one.optime.ts ≡ two.optime.ts = ap (λ (o : OpTime). o.ts) same in omega (arith, earlier, ts)

-- no other entry has an entry's optime
pub same_entry : (log : List Entry) → Rises log → (one two : Entry) → In one log → In two log → one.optime ≡ two.optime → one ≡ two
same_entry [] rises one two here there same = absurd here
same_entry (entry ∷ log) rises one two (inl here) (inl there) same = sym here ∙ there
same_entry (entry ∷ log) rises one two (inl here) (inr there) same =
    absurd (not_before_same one two same (subst (λ (e : Entry). StandsBefore e two) here (stands_first entry log rises two there)))
same_entry (entry ∷ log) rises one two (inr here) (inl there) same =
    absurd (not_before_same two one (sym same) (subst (λ (e : Entry). StandsBefore e one) there (stands_first entry log rises one here)))
same_entry (entry ∷ log) rises one two (inr here) (inr there) same = same_entry log (pairs_tail StandsBefore entry log rises) one two here there same

both_ways : (one two : Entry) → StandsBefore one two → StandsBefore two one → ⊥
both_ways one two first second =
    let a : one.optime.ts < two.optime.ts = first.earlier in let b : two.optime.ts < one.optime.ts = second.earlier in omega (arith, a, b)

-- logs with the same entries are one
pub same_log : (one two : List Entry) → Rises one → Rises two → ((entry : Entry) → In entry one → In entry two) → ((entry : Entry) → In entry two → In entry one) → one ≡ two
same_log [] [] rises rises_two over back = refl
same_log [] (entry ∷ two) rises rises_two over back = absurd (back entry (inl refl))
same_log (entry ∷ one) [] rises rises_two over back = absurd (over entry (inl refl))
same_log (x ∷ one) (y ∷ two) rises rises_two over back =
    ap₂ (λ (e : Entry) (l : List Entry). e ∷ l) heads (same_log one two (pairs_tail StandsBefore x one rises) (pairs_tail StandsBefore y two rises_two) right left)
  where
    heads : x ≡ y
    heads = elim (over x (inl refl)) [
      | inl same ↦ sym same
      | inr after_y ↦ elim (back y (inl refl)) [
        | inl same ↦ same
        | inr after_x ↦ absurd (both_ways x y (stands_first x one rises y after_x) (stands_first y two rises_two x after_y))
      ]
    ]

    right : (entry : Entry) → In entry one → In entry two
    right entry there = elim (over entry (inr there)) [
      | inl same ↦ absurd (not_itself x (subst (λ (e : Entry). StandsBefore x e) (sym same ∙ sym heads) (stands_first x one rises entry there)))
      | inr after ↦ after
    ]

    left : (entry : Entry) → In entry two → In entry one
    left entry there = elim (back entry (inr there)) [
      | inl same ↦ absurd (not_itself y (subst (λ (e : Entry). StandsBefore y e) (sym same ∙ heads) (stands_first y two rises_two entry there)))
      | inr after ↦ after
    ]

-- entries of a log in order are in order with each other
in_order : (log : List Entry) → Rises log → (one two : Entry) → In one log → In two log → one.optime ≢ two.optime → StandsBefore one two ⊎ StandsBefore two one
in_order [] rises one two here there apart = absurd here
in_order (entry ∷ log) rises one two (inl here) (inl there) apart = absurd (apart (ap (λ (e : Entry). e.optime) (sym here ∙ there)))
in_order (entry ∷ log) rises one two (inl here) (inr there) apart = inl (subst (λ (e : Entry). StandsBefore e two) here (stands_first entry log rises two there))
in_order (entry ∷ log) rises one two (inr here) (inl there) apart = inr (subst (λ (e : Entry). StandsBefore e one) there (stands_first entry log rises one here))
in_order (entry ∷ log) rises one two (inr here) (inr there) apart = in_order log (pairs_tail StandsBefore entry log rises) one two here there apart

not_true : (b : Bool) → not b ≡ true → b ≡ false
not_true false is = refl
not_true true is = absurd (cc is)

-- ---- entries put at their places

rises_take : (many : ℕ) (log : List Entry) → Rises log → Rises (take many log)
rises_take zero log rises = λ i j d less inside. absurd (omega arith)
rises_take (suc many) [] rises = rises
rises_take (suc many) (entry ∷ log) rises =
    AllPairs-cons StandsBefore entry (take many log) (in_all (StandsBefore entry) (take many log) (λ x there. stands_first entry log rises x (in_take many x log there)))
    (rises_take many log (pairs_tail StandsBefore entry log rises))

rises_drop : (many : ℕ) (log : List Entry) → Rises log → Rises (drop many log)
rises_drop zero log rises = rises
rises_drop (suc many) [] rises = rises
rises_drop (suc many) (entry ∷ log) rises = rises_drop many log (pairs_tail StandsBefore entry log rises)

-- the first ones stand before the others
pub taken_before : (many : ℕ) (log : List Entry) → Rises log → (one two : Entry) → In one (take many log) → In two (drop many log) → StandsBefore one two
taken_before zero log rises one two first second = absurd first
taken_before (suc many) [] rises one two first second = absurd first
taken_before (suc many) (entry ∷ log) rises one two (inl same) second =
    subst (λ (e : Entry). StandsBefore e two) same (stands_first entry log rises two (in_drop many two log second))
taken_before (suc many) (entry ∷ log) rises one two (inr first) second = taken_before many log (pairs_tail StandsBefore entry log rises) one two first second

-- in a log with more entries is what was there, and those
pub in_entries : (log entries : List Entry) (one : Entry) → In one (with_entries log entries) → In one log ⊎ In one entries
in_entries log [] one there = inl there
in_entries log (entry ∷ entries) one there = elim (in_entries (with_entry log entry) entries one there) [
  | inl first ↦ elim (with_in log entry one first) [ inl before ↦ inl before | inr new ↦ inr (inl new) ]
  | inr later ↦ inr (inr later)
]

pub old_in : (log entries : List Entry) (one : Entry) → In one log → In one (with_entries log entries)
old_in log [] one there = there
old_in log (entry ∷ entries) one there = old_in (with_entry log entry) entries one (in_with log entry one there)

pub entries_in : (log entries : List Entry) (one : Entry) → In one entries → In one (with_entries log entries)
entries_in log [] one there = absurd there
entries_in log (entry ∷ entries) one (inl same) = old_in (with_entry log entry) entries one (subst (λ (e : Entry). In e (with_entry log entry)) same (itself_in log entry))
entries_in log (entry ∷ entries) one (inr there) = entries_in (with_entry log entry) entries one there

-- entries that are in order with a log, and among themselves, leave it a log
pub entries_rise : (log entries : List Entry) → IsOplog log → Rises entries → All IsLawful entries
    → ((one other : Entry) → In one entries → In other log → StandsBefore other one ⊎ StandsBefore one other) → IsOplog (with_entries log entries)
entries_rise log [] oplog rises lawful order = oplog
entries_rise log (entry ∷ entries) oplog rises lawful order =
    entries_rise (with_entry log entry) entries
    (with_entry_keeps log entry oplog (lawful zero entry (omega arith)) (in_all (λ other. StandsBefore other entry ⊎ StandsBefore entry other) log (λ other there. order entry other (inl refl) there)))
    (pairs_tail StandsBefore entry entries rises) (All-tail IsLawful entry entries lawful)
    (λ one other there before. elim (with_in log entry other before) [
      | inl old ↦ order one other (inr there) old
      | inr new ↦ inl (subst (λ (e : Entry). StandsBefore e one) new (stands_first entry entries rises one there))
    ])

-- ---- the entries of a log that are found among others, and the first of the rest

module _ (found log : List Entry) (oplog : IsOplog log) (test : Entry → Bool) (found_is : found ≡ filter test log) where
  abbrev pub rest : List Entry
  rest = filter (λ entry. not (has_entry found entry.optime)) log

  found_log : (entry : Entry) → In entry found → In entry log
  found_log entry there = (in_filter test log entry (subst (In entry) found_is there)).0

  found_oplog : IsOplog found
  found_oplog = subst IsOplog (sym found_is) (oplog_filter test log oplog)

  pub rest_log : (entry : Entry) → In entry rest → In entry log × (has_entry found entry.optime ≡ false)
  rest_log entry there =
      let both : In entry log × (not (has_entry found entry.optime) ≡ true) = in_filter (λ (e : Entry). not (has_entry found e.optime)) log entry there in
      (both.0, not_true (has_entry found entry.optime) both.1)

  pub rest_rises : Rises rest
  rest_rises = (oplog_filter (λ (e : Entry). not (has_entry found e.optime)) log oplog).order

  module _ (many : ℕ) where
    abbrev pub merged : List Entry
    merged = with_entries found (take many rest)

    across : (one other : Entry) → In one (take many rest) → In other found → StandsBefore other one ⊎ StandsBefore one other
    across one other new old =
        let there : In one log × (has_entry found one.optime ≡ false) = rest_log one (in_take many one rest new) in
        in_order log oplog.order other one (found_log other old) there.0
        (λ same. let has : has_entry found one.optime ≡ true = in_has found one.optime other old same in absurd (cc (has, there.1)))

    merged_oplog : IsOplog merged
    merged_oplog =
        entries_rise found (take many rest) found_oplog (rises_take many rest rest_rises)
        (in_all IsLawful (take many rest) (λ e there. all_in IsLawful log e oplog.lawful (rest_log e (in_take many e rest there)).0)) across

    merged_log : (entry : Entry) → In entry merged → In entry log
    merged_log entry there = elim (in_entries found (take many rest) entry there) [ inl old ↦ found_log entry old | inr new ↦ (rest_log entry (in_take many entry rest new)).0 ]

    -- an entry of the log with the optime of one of these is one of these
    log_merged : (entry : Entry) → In entry log → has_entry merged entry.optime ≡ true → In entry merged
    log_merged entry there has =
        let one : (e : Entry) × In e merged × (e.optime ≡ entry.optime) = has_in merged entry.optime has in
        subst (λ (e : Entry). In e merged) (same_entry log oplog.order one.0 entry (merged_log one.0 one.1) there one.2) one.1

    -- all together they are those of the log that are among them
    pub merged_is : merged ≡ filter (λ entry. has_entry merged entry.optime) log
    merged_is = same_log merged (filter (λ entry. has_entry merged entry.optime) log) merged_oplog.order (oplog_filter (λ (e : Entry). has_entry merged e.optime) log oplog).order
        (λ entry there. filter_in (λ (e : Entry). has_entry merged e.optime) log entry (merged_log entry there) (in_has merged entry.optime entry there refl))
        (λ entry there. let both : In entry log × (has_entry merged entry.optime ≡ true) = in_filter (λ (e : Entry). has_entry merged e.optime) log entry there in log_merged entry both.0 both.1)

    -- and those that aren't are the rest after the first ones
    pub rest_after : filter (λ entry. not (has_entry merged entry.optime)) log ≡ drop many rest
    rest_after = same_log (filter (λ entry. not (has_entry merged entry.optime)) log) (drop many rest)
        (oplog_filter (λ (e : Entry). not (has_entry merged e.optime)) log oplog).order (rises_drop many rest rest_rises) over home
      where
        over : (entry : Entry) → In entry (filter (λ entry. not (has_entry merged entry.optime)) log) → In entry (drop many rest)
        over entry there =
            let both : In entry log × (not (has_entry merged entry.optime) ≡ true) = in_filter (λ (e : Entry). not (has_entry merged e.optime)) log entry there in
            let none : has_entry merged entry.optime ≡ false = not_true (has_entry merged entry.optime) both.1 in
            elim (taken_or_not many entry rest (filter_in (λ (e : Entry). not (has_entry found e.optime)) log entry both.0 (ap not (not_found entry both.0 none)))) [
              | inl first ↦
                  let has : has_entry merged entry.optime ≡ true = in_has merged entry.optime entry (entries_in found (take many rest) entry first) refl in absurd (cc (has, none))
              | inr second ↦ second
            ]
          where
            not_found : (entry : Entry) → In entry log → has_entry merged entry.optime ≡ false → has_entry found entry.optime ≡ false
            not_found entry there none = go (has_entry found entry.optime) refl
              where
                go : (b : Bool) → has_entry found entry.optime ≡ b → has_entry found entry.optime ≡ false
                go false is = is
                go true is =
                    let one : (e : Entry) × In e found × (e.optime ≡ entry.optime) = has_in found entry.optime is in
                    let has : has_entry merged entry.optime ≡ true = in_has merged entry.optime one.0 (old_in found (take many rest) one.0 one.1) one.2 in
                    absurd (cc (has, none))

        home : (entry : Entry) → In entry (drop many rest) → In entry (filter (λ entry. not (has_entry merged entry.optime)) log)
        home entry there =
            let known : In entry log × (has_entry found entry.optime ≡ false) = rest_log entry (in_drop many entry rest there) in
            filter_in (λ (e : Entry). not (has_entry merged e.optime)) log entry known.0 (ap not (go (has_entry merged entry.optime) refl known))
          where
            go : (b : Bool) → has_entry merged entry.optime ≡ b → In entry log × (has_entry found entry.optime ≡ false) → has_entry merged entry.optime ≡ false
            go false is known = is
            go true is known = elim (in_entries found (take many rest) entry (log_merged entry known.0 is)) [
              | inl old ↦ let has : has_entry found entry.optime ≡ true = in_has found entry.optime entry old refl in absurd (cc (has, known.1))
              | inr new ↦ absurd (not_itself entry (taken_before many rest rest_rises entry entry new there))
            ]
