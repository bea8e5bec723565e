-- The last write of a session in a log with one more entry, and a table of them.
use Rattle.std.proofs.Common.{◌≡◌, inl, inr, ◌<◌, ℕ, Bool, true, false, cond, ◌&&◌, nat_lt, eq-eqb, filter, fold, List, [], ◌∷◌, ◌++◌, Option, None, Some, IfSome, IsSome, refl, sym, ap, subst, ◌∙◌, rules}
use Rattle.std.proofs.lemmas.Bool.{ne_eqb}
use Rattle.std.proofs.lemmas.List.Sums.{fold-append}
use Rattle.std.specs.FinMap as maps
use Rattle.std.specs.List.{All}
use Rattle.std.specs.Option.{is_some}
use Rattle.std.specs.Ordering.{nat_cmp}
use Rattle.std.specs.Prelude.{◌==◌}
use Rattle.rs_optime.specs.declared.optime.OpTime.{OpTime}
use Rattle.oplog_entry.specs.declared.entry.Entry.{Entry}
use Rattle.oplog_entry.specs.declared.entry.Session.{Session}
use Rattle.oplog_store.specs.Log.{with_entry}
use Rattle.oplog_store.proofs.Keeps.{with_last}
use Rattle.set_model.specs.declared.session.LastWrite.{LastWrite}
use Rattle.set_model.specs.Sessions.{is_past, last_write, later_write}
use Rattle.node_data.specs.SessionLog.{Table, HasLastWrites}
use Rattle.node_data.proofs.MapLemmas.{same_or_apart, get-with-same, get-with-other}

-- ---- a log

abbrev write_at : ℕ → OpTime → LastWrite
write_at number at = record { number = number; at = at }

abbrev with_later : ℕ → Option LastWrite → Entry → Option LastWrite
with_later id last entry = later_write id last entry.optime entry.session

-- with one entry more after the others
pub last_after : (id : ℕ) (log : List Entry) (entry : Entry) → last_write id (log ++ entry ∷ []) ≡ later_write id (last_write id log) entry.optime entry.session
last_after id log entry = fold-append (with_later id) None log (entry ∷ [])

-- an entry of no session changes nothing, wherever it is put
last_without : (id : ℕ) (last : Option LastWrite) (log : List Entry) (entry : Entry) → entry.session ≡ None
    → fold (with_later id) last (with_entry log entry) ≡ fold (with_later id) last log
last_without id last [] entry none = ap (later_write id last entry.optime) none
last_without id last (other ∷ log) entry none = by_test (nat_lt other.optime.ts entry.optime.ts) (last_without id (with_later id last other) log entry none)
  where
    by_test : (b : Bool) → fold (with_later id) (with_later id last other) (with_entry log entry) ≡ fold (with_later id) (with_later id last other) log
        → fold (with_later id) last (cond b (other ∷ with_entry log entry) (entry ∷ other ∷ log)) ≡ fold (with_later id) last (other ∷ log)
    by_test true rest = rest
    by_test false rest = ap (λ before. fold (with_later id) (with_later id before other) log) (ap (later_write id last entry.optime) none)

-- and one of a session is put after all others
pub last_with : (id : ℕ) (log : List Entry) (entry : Entry) → (IsSome entry.session → All (λ (other : Entry). other.optime.ts < entry.optime.ts) log)
    → last_write id (with_entry log entry) ≡ later_write id (last_write id log) entry.optime entry.session
last_with id log entry newest = by_session entry.session refl
  where
    by_session : (session : Option Session) → entry.session ≡ session → last_write id (with_entry log entry) ≡ later_write id (last_write id log) entry.optime entry.session
    by_session None none = last_without id None log entry none ∙ sym (ap (later_write id (last_write id log) entry.optime) none)
    by_session (Some session) has = ap (last_write id) (with_last log entry (newest (subst IsSome (sym has) (search rules)))) ∙ last_after id log entry

-- where no session has written, none has in a part of the log
goes_on : (id : ℕ) (last : LastWrite) (log : List Entry) → fold (with_later id) (Some last) log ≡ None → ⊥
goes_on id last [] none = cc none
goes_on id last (entry ∷ log) none = by_session entry.session (λ one rest. goes_on id one log rest) none
  where
    by_session : (session : Option Session) → ((one : LastWrite) → fold (with_later id) (Some one) log ≡ None → ⊥)
        → fold (with_later id) (later_write id (Some last) entry.optime session) log ≡ None → ⊥
    by_session None again rest = again last rest
    by_session (Some own) again rest = by_test (own.id == id && is_past (Some last) own.number) rest
      where
        by_test : (b : Bool) → fold (with_later id) (cond b (Some (write_at own.number entry.optime)) (Some last)) log ≡ None → ⊥
        by_test true rest = again (write_at own.number entry.optime) rest
        by_test false rest = again last rest

none_left : (id : ℕ) (p : Entry → Bool) (log : List Entry) → last_write id log ≡ None → last_write id (filter p log) ≡ None
none_left id p [] none = refl
none_left id p (entry ∷ log) none = by_first (with_later id None entry) refl (λ rest. none_left id p log rest) none
  where
    by_first : (first : Option LastWrite) → with_later id None entry ≡ first → (last_write id log ≡ None → last_write id (filter p log) ≡ None)
        → fold (with_later id) first log ≡ None → last_write id (filter p (entry ∷ log)) ≡ None
    by_first (Some last) is again rest = absurd (goes_on id last log rest)
    by_first None is again rest = by_test (p entry)
      where
        by_test : (b : Bool) → last_write id (cond b (entry ∷ filter p log) (filter p log)) ≡ None
        by_test true = ap (λ last. fold (with_later id) last (filter p log)) is ∙ again rest
        by_test false = again rest

-- ---- a table

-- with a write that goes past the last one of its session
pub table_more : (old new : Table) (at : OpTime) (session : Session) → new ≡ maps.insert old session.id (write_at session.number at)
    → is_past (maps.get old session.id) session.number ≡ true
    → (id : ℕ) → maps.get new id ≡ later_write id (maps.get old id) at (Some session)
table_more old new at session is past id = ap (λ (t : Table). maps.get t id) is ∙ elim (same_or_apart id session.id) [
  | inl same ↦
      let here : (session.id == id) ≡ true = eq-eqb session.id id (sym same.0) in
      let later : is_past (maps.get old id) session.number ≡ true = ap (λ n. is_past (maps.get old n) session.number) same.0 ∙ past in
      ap (maps.get (maps.insert old session.id (write_at session.number at))) same.0 ∙ get-with-same old session.id (write_at session.number at)
      ∙ sym (ap (λ b. cond (b && is_past (maps.get old id) session.number) (Some (write_at session.number at)) (maps.get old id)) here
      ∙ ap (λ b. cond b (Some (write_at session.number at)) (maps.get old id)) later)
  | inr apart ↦
      let other : (session.id == id) ≡ false = ne_eqb session.id id (λ same. apart.0 (sym same)) in
      get-with-other old session.id id (write_at session.number at) apart.0
      ∙ sym (ap (λ b. cond (b && is_past (maps.get old id) session.number) (Some (write_at session.number at)) (maps.get old id)) other)
]

-- it stays one of the log with that entry
pub table_follows : (old new : Table) (log : List Entry) (entry : Entry) → HasLastWrites old log → (IsSome entry.session → All (λ (other : Entry). other.optime.ts < entry.optime.ts) log)
    → ((id : ℕ) → maps.get new id ≡ later_write id (maps.get old id) entry.optime entry.session) → HasLastWrites new (with_entry log entry)
table_follows old new log entry has newest more id = more id ∙ ap (λ last. later_write id last entry.optime entry.session) (has id) ∙ sym (last_with id log entry newest)

-- where an entry has no session, it is the same
pub table_stays : (last : Option Table) (log : List Entry) (entry : Entry) → is_some entry.session ≡ false → IfSome last (λ table. HasLastWrites table log)
    → IfSome last (λ table. HasLastWrites table (with_entry log entry))
table_stays None log entry not_so has = tt
table_stays (Some table) log entry not_so has = λ id. has id ∙ sym (last_without id None log entry (is_none entry.session not_so))
  where
    is_none : (session : Option Session) → is_some session ≡ false → session ≡ None
    is_none None not_so = refl
    is_none (Some session) not_so = absurd (cc not_so)

-- and where no session has written, that of a part of the log
pub table_bare : (table : Table) (p : Entry → Bool) (log : List Entry) → table ≡ maps.empty → HasLastWrites table log → HasLastWrites table (filter p log)
table_bare table p log bare has id =
    let none : maps.get table id ≡ None = ap (λ (t : Table). maps.get t id) bare ∙ maps.get-empty nat_cmp id in
    none ∙ sym (none_left id p log (sym (has id) ∙ none))
