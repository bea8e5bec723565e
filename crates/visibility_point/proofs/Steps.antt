-- What stays true of a returned visible optime while slots are opened and closed and entries are written.
use Rattle.std.proofs.Common.{◌≡◌, ◌∙◌, ◌<◌, ◌≤◌, ◌⊎◌, inl, inr, ap, sym, subst, refl, arith, max, Bool, true, false, not, cond, List, [], ◌∷◌, ◌++◌, ℕ, suc, zero, Option, None, Some, All}
use Rattle.std.specs.Prelude.{nat_lt, slice_index_or}
use Rattle.std.specs.List.{filter, AllPairs}
use Rattle.std.specs.FinSet.{items, contains-items, contains-empty}
use Rattle.std.proofs.lemmas.List.Elements.{All-tail}
use Rattle.rs_optime.specs.Time.{timestamp_after}
use Rattle.rs_optime.specs.declared.optime.OpTime.{OpTime}
use Rattle.rs_optime.proofs.Optimes.{before_both, before_at_most_trans}
use Rattle.oplog_entry.specs.declared.entry.Entry.{Entry}
use Rattle.oplog_entry.specs.Visible.{ZERO, is_before, least, last_of, entries_before, log_up_to}
use Rattle.oplog_entry.proofs.LogLemmas.{filter-without}
use Rattle.optime_slots.specs.Reserved.{IsOpen, optime_cmp, next_slot}
use Rattle.optime_slots.proofs.SlotLemmas.{seen_none, seen_raised, seen_with, seen_without, open_with, open_without}
use Rattle.oplog_store.specs.Log.{IsOplog, StandsBefore, with_entry}
use Rattle.oplog_store.proofs.Keeps.{FitsBeside, all_with_entry, pairs_tail, pairs_head}
use Rattle.visibility_point.specs.Holes.{State, Action, Reserve, Settle, Abort, AbortAll, WriteAtSlot, WritePast, after, IsAllowed, run, AreAllowed, IsSound, answer}
use Rattle.visibility_point.proofs.Least.{least_is_first}

-- ---- one entry more

-- what holds of a log with an entry holds of the entry and of the others
all_of_with_entry : (P : Entry → Type 0) (log : List Entry) (entry : Entry) → All P (with_entry log entry) → P entry × All P log
all_of_with_entry P [] entry all = (all zero entry (omega arith), λ k d within. absurd (omega arith))
all_of_with_entry P (other ∷ log) entry all = go (λ rest. all_of_with_entry P log entry rest) (nat_lt other.optime.ts entry.optime.ts) all
  where
    cons : P other → All P log → All P (other ∷ log)
    cons here rest zero d within = here
    cons here rest (suc k) d within = rest k d (omega arith)

    go : (All P (with_entry log entry) → P entry × All P log) → (b : Bool)
        → All P (cond b (other ∷ with_entry log entry) (entry ∷ other ∷ log)) → P entry × All P (other ∷ log)
    go again true all =
        let rest : P entry × All P log = again (All-tail P other (with_entry log entry) all) in
        (rest.0, cons (all zero other (omega arith)) rest.1)
    go again false all = (all zero entry (omega arith), All-tail P entry (other ∷ log) all)

-- where the log with an entry is one, the entry fits beside each other
fits_beside : (log : List Entry) (entry : Entry) → AllPairs StandsBefore (with_entry log entry) → All (FitsBeside entry) log
fits_beside [] entry pairs = λ k d within. absurd (omega arith)
fits_beside (other ∷ log) entry pairs = go (λ rest. fits_beside log entry rest) (nat_lt other.optime.ts entry.optime.ts) pairs
  where
    cons : FitsBeside entry other → All (FitsBeside entry) log → All (FitsBeside entry) (other ∷ log)
    cons here rest zero d within = here
    cons here rest (suc k) d within = rest k d (omega arith)

    go : (AllPairs StandsBefore (with_entry log entry) → All (FitsBeside entry) log) → (b : Bool)
        → AllPairs StandsBefore (cond b (other ∷ with_entry log entry) (entry ∷ other ∷ log)) → All (FitsBeside entry) (other ∷ log)
    go again true pairs =
        cons (inl (all_of_with_entry (StandsBefore other) log entry (pairs_head StandsBefore other (with_entry log entry) pairs)).0)
        (again (pairs_tail StandsBefore other (with_entry log entry) pairs))
    go again false pairs = λ k d within. inr (pairs_head StandsBefore entry (other ∷ log) pairs k d within)

-- ---- an optime that is in a log

abbrev Has : OpTime → List Entry → Type 0
Has at [] = ⊥
Has at (entry ∷ log) = (entry.optime ≡ at) ⊎ Has at log

has_with_entry : (at : OpTime) (log : List Entry) (entry : Entry) → Has at log → Has at (with_entry log entry)
has_with_entry at [] entry has = absurd has
has_with_entry at (other ∷ log) entry has = go (λ there. has_with_entry at log entry there) (nat_lt other.optime.ts entry.optime.ts) has
  where
    go : (Has at log → Has at (with_entry log entry)) → (b : Bool) → Has at (other ∷ log) → Has at (cond b (other ∷ with_entry log entry) (entry ∷ other ∷ log))
    go again true (inl same) = inl same
    go again true (inr there) = inr (again there)
    go again false has = inr has

has_of_filter : (at : OpTime) (p : Entry → Bool) (log : List Entry) → Has at (filter p log) → Has at log
has_of_filter at p [] has = has
has_of_filter at p (entry ∷ log) has = go (λ there. has_of_filter at p log there) (p entry) has
  where
    go : (Has at (filter p log) → Has at log) → (b : Bool) → Has at (cond b (entry ∷ filter p log) (filter p log)) → Has at (entry ∷ log)
    go again true (inl same) = inl same
    go again true (inr there) = inr (again there)
    go again false has = inr (again has)

-- a fact about the last optime: it holds of ZERO, or of the entry that has it
last_is_there : (log : List Entry) → (last_of log ≡ ZERO) ⊎ Has (last_of log) log
last_is_there [] = inl refl
last_is_there (entry ∷ []) = inr (inl refl)
last_is_there (entry ∷ next ∷ log) = elim (last_is_there (next ∷ log)) [ inl zero_is ↦ inl zero_is | inr there ↦ inr (inr there) ]

has_passes : (at : OpTime) (p : OpTime → Bool) (log : List Entry) → Has at (filter (λ entry. p entry.optime) log) → p at ≡ true
has_passes at p [] has = absurd has
has_passes at p (entry ∷ log) has = go (λ there. has_passes at p log there) (p entry.optime) refl has
  where
    go : (Has at (filter (λ e. p e.optime) log) → p at ≡ true) → (b : Bool) → p entry.optime ≡ b
        → Has at (cond b (entry ∷ filter (λ e. p e.optime) log) (filter (λ e. p e.optime) log)) → p at ≡ true
    go again true is (inl same) = ap p (sym same) ∙ is
    go again true is (inr there) = again there
    go again false is has = again has

has_within : (at : OpTime) (mark : ℕ) (log : List Entry) → Has at log → All (λ entry. entry.optime.ts ≤ mark) log → at.ts ≤ mark
has_within at mark [] has marked = absurd has
has_within at mark (entry ∷ log) (inl same) marked =
    let times : entry.optime.ts ≡ at.ts = ap (λ (o : OpTime). o.ts) same in let here : entry.optime.ts ≤ mark = marked zero entry (omega arith) in omega arith
has_within at mark (entry ∷ log) (inr there) marked = has_within at mark log there (All-tail (λ (e : Entry). e.optime.ts ≤ mark) entry log marked)

-- an entry with a later timestamp than one of the log is after it
further : (at : OpTime) (log : List Entry) (entry : Entry) → Has at log → All (FitsBeside entry) log → at.ts < entry.optime.ts → is_before at entry.optime ≡ true
further at [] entry has fits later = absurd has
further at (other ∷ log) entry (inr there) fits later = further at log entry there (All-tail (FitsBeside entry) other log fits) later
further at (other ∷ log) entry (inl same) fits later = go (fits zero other (omega arith))
  where
    times : other.optime.ts ≡ at.ts
    times = ap (λ (o : OpTime). o.ts) same

    terms : other.optime.term ≡ at.term
    terms = ap (λ (o : OpTime). o.term) same

    go : FitsBeside entry other → is_before at entry.optime ≡ true
    go (inl before) = before_both at entry.optime (omega (arith, terms, before.term)) later
    go (inr before) = absurd (omega (arith, times, before.earlier))

-- ---- what is kept

-- the answered optime is there, and each open slot is after it, or has a later timestamp
record Hides (at : OpTime) (state : State) : Type 0 where
  pub there : (at ≡ ZERO) ⊎ Has at state.log
  pub slots : (slot : OpTime) → IsOpen state.reserved slot → (is_before at slot ≡ true) ⊎ (at.ts < slot.ts)

-- the answered optime has a timestamp that was seen
answered_seen : (at : OpTime) (state : State) → IsSound state → Hides at state → at.ts ≤ state.reserved.mark
answered_seen at state sound hides = elim hides.there [
  | inl zero_is ↦ let none : at.ts ≡ 0 = ap (λ (o : OpTime). o.ts) zero_is in omega arith
  | inr has ↦ has_within at state.reserved.mark state.log has sound.marked
]

-- an entry that is written with a later timestamp is after it
written_after : (at : OpTime) (state : State) (entry : Entry) → Hides at state → IsOplog (with_entry state.log entry) → at.ts < entry.optime.ts → is_before at entry.optime ≡ true
written_after at state entry hides oplog later = elim hides.there [
  | inl zero_is ↦ let terms : at.term ≡ 0 = ap (λ (o : OpTime). o.term) zero_is in before_both at entry.optime (omega arith) later
  | inr has ↦ further at state.log entry has (fits_beside state.log entry oplog.order) later
]

there_too : (at : OpTime) (log : List Entry) (entry : Entry) → (at ≡ ZERO) ⊎ Has at log → (at ≡ ZERO) ⊎ Has at (with_entry log entry)
there_too at log entry (inl zero_is) = inl zero_is
there_too at log entry (inr has) = inr (has_with_entry at log entry has)

slots_after : (at : OpTime) (state : State) (entry : Entry) → Hides at state → IsOplog (with_entry state.log entry) → IsOpen state.reserved entry.optime → is_before at entry.optime ≡ true
slots_after at state entry hides oplog opened_there = elim (hides.slots entry.optime opened_there) [
  | inl before ↦ before
  | inr later ↦ written_after at state entry hides oplog later
]

-- ---- one action

time_after : (clock mark : ℕ) → mark < timestamp_after clock mark
time_after clock mark = omega arith

marked_up : (log : List Entry) (mark raised : ℕ) → All (λ entry. entry.optime.ts ≤ mark) log → mark ≤ raised → All (λ entry. entry.optime.ts ≤ raised) log
marked_up log mark raised marked up k d within = let here : (slice_index_or log k d).optime.ts ≤ mark = marked k d within in omega arith

pub sound_after : (state : State) (action : Action) → IsSound state → IsAllowed state action → IsSound (after state action)
sound_after state (Reserve term clock) sound allowed =
    let past : state.reserved.mark < timestamp_after clock state.reserved.mark = time_after clock state.reserved.mark in
    record {
      oplog = sound.oplog;
      marked = marked_up state.log state.reserved.mark _ sound.marked (omega arith);
      slots = seen_with state.reserved.slots state.reserved.mark _ (next_slot state.reserved term clock) sound.slots (omega arith) (omega arith) (omega arith);
    }
sound_after state (Settle at) sound allowed = record { oplog = sound.oplog; marked = sound.marked; slots = seen_without state.reserved.slots state.reserved.mark at sound.slots }
sound_after state (Abort at) sound allowed = record { oplog = sound.oplog; marked = sound.marked; slots = seen_without state.reserved.slots state.reserved.mark at sound.slots }
sound_after state AbortAll sound allowed = record { oplog = sound.oplog; marked = sound.marked; slots = seen_none state.reserved.mark }
sound_after state (WriteAtSlot entry) sound allowed =
    record {
      oplog = allowed.1;
      marked = all_with_entry (λ e. e.optime.ts ≤ state.reserved.mark) state.log entry (sound.slots entry.optime allowed.0).seen sound.marked;
      slots = sound.slots;
    }
sound_after state (WritePast entry) sound allowed =
    record {
      oplog = allowed.1;
      marked = all_with_entry (λ e. e.optime.ts ≤ max state.reserved.mark entry.optime.ts) state.log entry (omega arith)
          (marked_up state.log state.reserved.mark _ sound.marked (omega arith));
      slots = seen_raised state.reserved.slots state.reserved.mark _ sound.slots (omega arith);
    }

hides_after : (at : OpTime) (state : State) (action : Action) → IsSound state → Hides at state → IsAllowed state action → Hides at (after state action)
hides_after at state (Reserve term clock) sound hides allowed =
    let seen : at.ts ≤ state.reserved.mark = answered_seen at state sound hides in
    let past : state.reserved.mark < timestamp_after clock state.reserved.mark = time_after clock state.reserved.mark in
    record {
      there = hides.there;
      slots = λ slot here. elim (open_with state.reserved.slots (next_slot state.reserved term clock) slot here) [
        | inl same ↦ let times : slot.ts ≡ timestamp_after clock state.reserved.mark = ap (λ (o : OpTime). o.ts) same in inr (omega arith)
        | inr old ↦ hides.slots slot old
      ];
    }
hides_after at state (Settle other) sound hides allowed =
    record { there = hides.there; slots = λ slot here. hides.slots slot (open_without state.reserved.slots other slot here) }
hides_after at state (Abort other) sound hides allowed =
    record { there = hides.there; slots = λ slot here. hides.slots slot (open_without state.reserved.slots other slot here) }
hides_after at state AbortAll sound hides allowed = record { there = hides.there; slots = λ slot here. absurd (cc (contains-empty optime_cmp slot)) }
hides_after at state (WriteAtSlot entry) sound hides allowed = record { there = there_too at state.log entry hides.there; slots = hides.slots }
hides_after at state (WritePast entry) sound hides allowed = record { there = there_too at state.log entry hides.there; slots = hides.slots }

-- an action adds nothing at or before it
adds_nothing : (at : OpTime) (state : State) (action : Action) → IsSound state → Hides at state → IsAllowed state action
    → log_up_to at (after state action).log ≡ log_up_to at state.log
adds_nothing at state (Reserve term clock) sound hides allowed = refl
adds_nothing at state (Settle other) sound hides allowed = refl
adds_nothing at state (Abort other) sound hides allowed = refl
adds_nothing at state AbortAll sound hides allowed = refl
adds_nothing at state (WriteAtSlot entry) sound hides allowed =
    filter-without (λ e. not (is_before at e.optime)) state.log entry (ap not (slots_after at state entry hides allowed.1 allowed.0))
adds_nothing at state (WritePast entry) sound hides allowed =
    let seen : at.ts ≤ state.reserved.mark = answered_seen at state sound hides in
    filter-without (λ e. not (is_before at e.optime)) state.log entry (ap not (written_after at state entry hides allowed.1 (omega (arith, allowed.0))))

-- ---- the answer, and all actions

answer_there : (log : List Entry) (found : Option OpTime) → (last_of (entries_before found log) ≡ ZERO) ⊎ Has (last_of (entries_before found log)) log
answer_there log None = last_is_there log
answer_there log (Some slot) = elim (last_is_there (filter (λ entry. is_before entry.optime slot) log)) [
  | inl zero_is ↦ inl zero_is
  | inr has ↦ inr (has_of_filter _ (λ entry. is_before entry.optime slot) log has)
]

answer_before : (log : List Entry) (slot other : OpTime) → 0 < other.ts → is_before other slot ≡ false
    → (is_before (last_of (entries_before (Some slot) log)) other ≡ true) ⊎ ((last_of (entries_before (Some slot) log)).ts < other.ts)
answer_before log slot other positive late = elim (last_is_there (filter (λ entry. is_before entry.optime slot) log)) [
  | inl zero_is ↦ let none : (last_of (entries_before (Some slot) log)).ts ≡ 0 = ap (λ (o : OpTime). o.ts) zero_is in inr (omega arith)
  | inr has ↦ inl (before_at_most_trans _ slot other (has_passes _ (λ o. is_before o slot) log has) late)
]

answer_hides : (state : State) → IsSound state → Hides (answer state) state
answer_hides state sound = record {
  there = answer_there state.log (least (items state.reserved.slots));
  slots = λ slot here.
      let found : (s : OpTime) × (least (items state.reserved.slots) ≡ Some s) × (is_before slot s ≡ false) =
      least_is_first (items state.reserved.slots) slot (sym (contains-items state.reserved.slots slot) ∙ here) in
      subst (λ r. (is_before (last_of (entries_before r state.log)) slot ≡ true) ⊎ ((last_of (entries_before r state.log)).ts < slot.ts))
      (sym found.1) (answer_before state.log found.0 slot (sound.slots slot here).positive found.2);
}

pub sound_run : (state : State) (actions : List Action) → IsSound state → AreAllowed state actions → IsSound (run state actions)
sound_run state [] sound allowed = sound
sound_run state (action ∷ actions) sound allowed = sound_run (after state action) actions (sound_after state action sound allowed.0) allowed.1

run_adds_nothing : (at : OpTime) (state : State) (actions : List Action) → IsSound state → Hides at state → AreAllowed state actions
    → log_up_to at (run state actions).log ≡ log_up_to at state.log
run_adds_nothing at state [] sound hides allowed = refl
run_adds_nothing at state (action ∷ actions) sound hides allowed =
    run_adds_nothing at (after state action) actions (sound_after state action sound allowed.0) (hides_after at state action sound hides allowed.0) allowed.1
    ∙ adds_nothing at state action sound hides allowed.0

run_append : (state : State) (earlier later : List Action) → run state (earlier ++ later) ≡ run (run state earlier) later
run_append state [] later = refl
run_append state (action ∷ earlier) later = run_append (after state action) earlier later

allowed_front : (state : State) (earlier later : List Action) → AreAllowed state (earlier ++ later) → AreAllowed state earlier
allowed_front state [] later allowed = tt
allowed_front state (action ∷ earlier) later allowed = (allowed.0, allowed_front (after state action) earlier later allowed.1)

allowed_back : (state : State) (earlier later : List Action) → AreAllowed state (earlier ++ later) → AreAllowed (run state earlier) later
allowed_back state [] later allowed = allowed
allowed_back state (action ∷ earlier) later allowed = allowed_back (after state action) earlier later allowed.1

pub nothing_after : (start : State) (earlier later : List Action) → IsSound start → AreAllowed start (earlier ++ later)
    → log_up_to (answer (run start earlier)) (run start (earlier ++ later)).log ≡ log_up_to (answer (run start earlier)) (run start earlier).log
nothing_after start earlier later sound allowed =
    let then_sound : IsSound (run start earlier) = sound_run start earlier sound (allowed_front start earlier later allowed) in
    ap (λ (s : State). log_up_to (answer (run start earlier)) s.log) (run_append start earlier later)
    ∙ run_adds_nothing (answer (run start earlier)) (run start earlier) later then_sound (answer_hides (run start earlier) then_sound) (allowed_back start earlier later allowed)
