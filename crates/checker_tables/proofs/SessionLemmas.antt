-- A table of the last write of each session, once a log changes.
use Rattle.std.proofs.Common.{◌≡◌, ◌∙◌, ◌<◌, ◌≤◌, ◌+◌, ◌-◌, inl, inr, ℕ, suc, true, false, cond, ◌&&◌, List, [], ◌∷◌, ◌++◌, length, take, drop, fold, get_or, Option, None, Some, eq-eqb, refl, sym, ap, subst, arith}
use Rattle.std.specs.Prelude.{◌==◌, insert}
use Rattle.std.specs.FinMap as maps
use Rattle.std.specs.Option.{is_some}
use Rattle.std.specs.Ordering.{nat_cmp}
use Rattle.std.proofs.lemmas.Bool.{ne_eqb}
use Rattle.std.proofs.lemmas.List.{length-append, length-take-le, take-append-drop, take-append-le, take-take, take_more}
use Rattle.std.proofs.lemmas.List.Edits.{length-insert}
use Rattle.std.proofs.lemmas.List.Sums.{fold-append}
use Rattle.doc_shelf.proofs.InsertLemmas.{parted}
use Rattle.rs_optime.specs.declared.optime.OpTime.{OpTime}
use Rattle.oplog_entry.specs.declared.entry.Entry.{Entry}
use Rattle.oplog_entry.specs.declared.entry.Session.{Session}
use Rattle.set_model.specs.declared.session.LastWrite.{LastWrite}
use Rattle.set_model.specs.Sessions.{is_past, last_write, later_write}
use Rattle.checker_tables.specs.SessionTable.{Counts, IsTableOf, Table, Writes, nothing_counted}
use Rattle.node_data.proofs.MapLemmas.{get-with-other, get-with-same, same_or_apart}

abbrev with_later : ℕ → Option LastWrite → Entry → Option LastWrite
with_later id last entry = later_write id last entry.optime entry.session

last_after : (id : ℕ) (log : List Entry) (entry : Entry) → last_write id (log ++ entry ∷ []) ≡ with_later id (last_write id log) entry
last_after id log entry = fold-append (with_later id) None log (entry ∷ [])

-- ---- one entry more

-- a write that goes past the last one of its session
pub noted : (old new : Writes) (at : OpTime) (session : Session) → new ≡ maps.insert old session.id (record { number = session.number; at = at })
    → is_past (maps.get old session.id) session.number ≡ true
    → (id : ℕ) → maps.get new id ≡ later_write id (maps.get old id) at (Some session)
noted old new at session is past id = ap (λ (t : Writes). maps.get t id) is ∙ elim (same_or_apart id session.id) [
  | inl same ↦
      let here : (session.id == id) ≡ true = eq-eqb session.id id (sym same.0) in
      let later : is_past (maps.get old id) session.number ≡ true = ap (λ n. is_past (maps.get old n) session.number) same.0 ∙ past in
      ap (maps.get (maps.insert old session.id (record { number = session.number; at = at }))) same.0 ∙ get-with-same old session.id (record { number = session.number; at = at })
      ∙ sym (ap (λ b. cond (b && is_past (maps.get old id) session.number) (Some (record { number = session.number; at = at })) (maps.get old id)) here
      ∙ ap (λ b. cond b (Some (record { number = session.number; at = at })) (maps.get old id)) later)
  | inr apart ↦
      let other : (session.id == id) ≡ false = ne_eqb session.id id (λ same. apart.0 (sym same)) in
      get-with-other old session.id id (record { number = session.number; at = at }) apart.0
      ∙ sym (ap (λ b. cond (b && is_past (maps.get old id) session.number) (Some (record { number = session.number; at = at })) (maps.get old id)) other)
]

pub counts_more : (log : List Entry) (entry : Entry) (old new : Table) → new.count ≡ old.count + 1
    → ((id : ℕ) → maps.get new.writes id ≡ later_write id (maps.get old.writes id) entry.optime entry.session)
    → Counts log old → Counts (log ++ entry ∷ []) new
counts_more log entry old new count more counts = record {
  count_is = omega (arith, count, counts.count_is, length-append log (entry ∷ []));
  writes_are = λ id. more id ∙ ap (λ (last : Option LastWrite). with_later id last entry) (counts.writes_are id) ∙ sym (last_after id log entry);
}

-- ---- a table of a prefix

pub table_next : (log : List Entry) (place : ℕ) (entry : Entry) (old new : Table) → IsTableOf log old → place ≡ old.count → place < length log → entry ≡ get_or log place entry
    → (Counts (take place log) old → Counts (take place log ++ entry ∷ []) new) → new.count ≡ place + 1 → IsTableOf log new
table_next log place entry old new table at within is more count = record {
  within = omega (arith, within, count);
  counts =
      subst (λ (l : List Entry). Counts l new)
      (ap (λ (e : Entry). take place log ++ e ∷ []) is ∙ sym (take_more log place entry within) ∙ ap (λ (n : ℕ). take n log) (sym count))
      (more (subst (λ (n : ℕ). Counts (take n log) old) (sym at) table.counts));
}

-- of no entry
pub table_none : (log : List Entry) (table : Table) → table ≡ nothing_counted → IsTableOf log table
table_none log table none = subst (λ (t : Table). IsTableOf log t) (sym none)
    (record { within = omega arith; counts = record { count_is = omega arith; writes_are = λ id. maps.get-empty nat_cmp id } })

-- of a log that begins alike
pub table_alike : (log other : List Entry) (table : Table) (count : ℕ) → table.count ≤ count → take count other ≡ take count log → IsTableOf log table → IsTableOf other table
table_alike log other table count less alike is = record { within = long; counts = subst (λ (l : List Entry). Counts l table) (sym same) is.counts }
  where
    same : take table.count other ≡ take table.count log
    same = sym (take-take table.count count other less) ∙ ap (take table.count) alike ∙ take-take table.count count log less

    long : table.count ≤ length other
    long = omega (arith, is.counts.count_is, ap length same, length_taken table.count other)
      where
        length_taken : (n : ℕ) (l : List Entry) → length (take n l) ≤ length l
        length_taken n l = omega (arith, ap length (take-append-drop n l), length-append (take n l) (drop n l))

-- ---- an entry in the middle

inserted_front : (count place : ℕ) (log : List Entry) (entry : Entry) → count ≤ place → place ≤ length log → take count (insert log place entry) ≡ take count log
inserted_front count place log entry early within =
    let long : length (take place log) ≡ place = length-take-le place log within in
    let own : count ≤ length (take place log) = omega (arith, early, long) in
    take-append-le count (take place log) (entry ∷ drop place log) own ∙ take-take count place log early

pub table_after : (log : List Entry) (place : ℕ) (entry : Entry) (table : Table) → table.count ≤ place → place ≤ length log → IsTableOf log table → IsTableOf (insert log place entry) table
table_after log place entry table early within is = table_alike log (insert log place entry) table place early (inserted_front place place log entry (omega arith) within) is

pub table_back : (log : List Entry) (place : ℕ) (entry : Entry) → place ≤ length log → take place (insert log place entry) ≡ take place log
table_back log place entry within = inserted_front place place log entry (omega arith) within

idle : (id : ℕ) (front rest : List Entry) (entry : Entry) → entry.session ≡ None → last_write id (front ++ entry ∷ rest) ≡ last_write id (front ++ rest)
idle id front rest entry none =
    fold-append (with_later id) None front (entry ∷ rest)
    ∙ ap (λ (last : Option LastWrite). fold (with_later id) last rest) (ap (later_write id (fold (with_later id) None front) entry.optime) none)
    ∙ sym (fold-append (with_later id) None front rest)

pub no_session : (entry : Entry) → is_some entry.session ≡ false → entry.session ≡ None
no_session entry none = by_session entry.session none
  where
    by_session : (session : Option Session) → is_some session ≡ false → session ≡ None
    by_session None none = refl
    by_session (Some session) none = absurd (cc none)

-- an entry of no session among those that are counted
pub table_idle : (log : List Entry) (place : ℕ) (entry : Entry) (old new : Table) → place < old.count → place ≤ length log → entry.session ≡ None
    → new.writes ≡ old.writes → new.count ≡ old.count + 1 → IsTableOf log old → IsTableOf (insert log place entry) new
table_idle log place entry old new before within none writes count is = record {
  within = omega (arith, is.within, count, length-insert log place entry within);
  counts = record {
    count_is = omega (arith, count, is.within, long);
    writes_are = λ id.
        ap (λ (w : Writes). maps.get w id) writes ∙ is.counts.writes_are id ∙ ap (last_write id) front
        ∙ sym (idle id (take place log) (take more (drop place log)) entry none) ∙ sym (ap (last_write id) whole);
  };
}
  where
    more : ℕ
    more = old.count - place

    sum : place + more ≡ old.count
    sum = omega (arith, before)

    front : take old.count log ≡ take place log ++ take more (drop place log)
    front = ap (λ (n : ℕ). take n log) (sym sum) ∙ ap (take (place + more)) (sym (take-append-drop place log)) ∙ parted log (drop place log) place more within

    next : new.count ≡ place + suc more
    next = omega (arith, count, sum)

    whole : take new.count (insert log place entry) ≡ take place log ++ entry ∷ take more (drop place log)
    whole = ap (λ (n : ℕ). take n (insert log place entry)) next ∙ parted log (entry ∷ drop place log) place (suc more) within

    long : length (take new.count (insert log place entry)) ≡ new.count
    long = length-take-le new.count (insert log place entry) (omega (arith, count, is.within, length-insert log place entry within))
