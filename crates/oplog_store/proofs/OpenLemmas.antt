-- A log in two parts, after each call.
use Rattle.std.proofs.Common.{◌≡◌, ◌∙◌, ◌<◌, ◌≤◌, ◌-◌, ap, sym, subst, refl, arith, true, false, not, cond, Bool, List, [], ◌∷◌, ◌++◌, ℕ, suc, zero, length, Some, None, Option}
use Rattle.std.proofs.lemmas.List.{append-nil}
use Rattle.std.proofs.lemmas.Bool.Decides.{nat_tests}
use Rattle.std.specs.Prelude.{nat_lt, slice_get, IfSome, option_map}
use Rattle.std.specs.List.{AllPairs}
use Rattle.rs_optime.specs.declared.optime.OpTime.{OpTime}
use Rattle.oplog_entry.specs.declared.entry.Entry.{Entry}
use Rattle.oplog_entry.specs.Visible.{is_before, last_of, log_up_to}
use Rattle.oplog_store.specs.Log.{IsOplog, Log, StandsAt, StandsBefore, with_entry}
use Rattle.oplog_store.specs.Places.{IsEntryAt, IsHeld, IsLogWithHoles, Moved, Placed, written}
use Rattle.oplog_store.specs.declared.places.Place.{Place}
use Rattle.oplog_store.proofs.Keeps.{pairs_head, pairs_tail}
use Rattle.oplog_store.proofs.LogLemmas.{oplog_filter}

-- the last entry is no earlier than any
not_earlier : (entry : Entry) (log : List Entry) → AllPairs StandsBefore (entry ∷ log) → entry.optime.ts ≤ (last_of (entry ∷ log)).ts
not_earlier entry [] order = omega arith
not_earlier entry (next ∷ log) order =
    let first : StandsBefore entry next = pairs_head StandsBefore entry (next ∷ log) order zero entry (omega arith) in
    let rest : next.optime.ts ≤ (last_of (next ∷ log)).ts = not_earlier next log (pairs_tail StandsBefore entry (next ∷ log) order) in
    omega (arith, first.earlier)

last_after : (entry other : Entry) (log : List Entry) → last_of (other ∷ with_entry log entry) ≡ last_of (with_entry log entry)
last_after entry other [] = refl
last_after entry other (one ∷ log) =
    elim (nat_lt one.optime.ts entry.optime.ts) as (λ test. last_of (other ∷ cond test (one ∷ with_entry log entry) (entry ∷ one ∷ log)) ≡ last_of (cond test (one ∷ with_entry log entry) (entry ∷ one ∷ log))) [
      | true ↦ refl
      | false ↦ refl
    ]

-- an entry that is no earlier than the last is the last
pub last_new : (log : List Entry) (entry : Entry) → AllPairs StandsBefore (with_entry log entry) → AllPairs StandsBefore log → (last_of log).ts ≤ entry.optime.ts
    → last_of (with_entry log entry) ≡ entry.optime
last_new [] entry order rises late = refl
last_new (other ∷ log) entry order rises late =
    elim (nat_lt other.optime.ts entry.optime.ts) as
    (λ test. nat_lt other.optime.ts entry.optime.ts ≡ test → AllPairs StandsBefore (cond test (other ∷ with_entry log entry) (entry ∷ other ∷ log))
    → last_of (cond test (other ∷ with_entry log entry) (entry ∷ other ∷ log)) ≡ entry.optime) [
      | true ↦ λ less whole.
          last_after entry other log ∙ last_new log entry (pairs_tail StandsBefore other (with_entry log entry) whole) (pairs_tail StandsBefore other log rises) (still_late other log entry late)
      | false ↦ λ not_less whole.
          let first : StandsBefore entry other = pairs_head StandsBefore entry (other ∷ log) whole zero entry (omega arith) in
          let last : other.optime.ts ≤ (last_of (other ∷ log)).ts = not_earlier other log rises in
          absurd (omega (arith, first.earlier))
    ] refl order
  where
    still_late : (other : Entry) (log : List Entry) (entry : Entry) → (last_of (other ∷ log)).ts ≤ entry.optime.ts → (last_of log).ts ≤ entry.optime.ts
    still_late other [] entry late = omega arith
    still_late other (next ∷ log) entry late = late

-- an entry that is earlier than the last leaves that one
pub last_old : (log : List Entry) (entry : Entry) → AllPairs StandsBefore log → entry.optime.ts < (last_of log).ts → last_of (with_entry log entry) ≡ last_of log
last_old [] entry rises early = absurd (omega arith)
last_old (other ∷ []) entry rises early =
    let less : entry.optime.ts < other.optime.ts = early in
    let test : nat_lt other.optime.ts entry.optime.ts ≡ false = grind arith in
    rw test refl
last_old (other ∷ next ∷ log) entry rises early =
    elim (nat_lt other.optime.ts entry.optime.ts) as
    (λ test. last_of (cond test (other ∷ with_entry (next ∷ log) entry) (entry ∷ other ∷ next ∷ log)) ≡ last_of (next ∷ log)) [
      | true ↦ last_after entry other (next ∷ log) ∙ last_old (next ∷ log) entry (pairs_tail StandsBefore other (next ∷ log) rises) early
      | false ↦ refl
    ]

-- nothing is written
pub holed_new : (log : Log) (places : List Place) → log.entries ≡ [] → places ≡ [] → IsLogWithHoles log places (record { term = 0; ts = 0 }) 0
holed_new log [] none empty = record {
  held = record {
    oplog = subst IsOplog (sym (append-nil log.entries ∙ none)) (record { order = λ i j d less within. absurd (omega arith); lawful = λ k d within. absurd (omega arith) });
    rise = λ i j d less within. absurd (omega arith);
    after = λ k d within. absurd (omega arith);
  };
  last = sym (ap last_of (append-nil log.entries ∙ none));
  room = omega arith;
}
holed_new log (place ∷ places) none empty = absurd (cc empty)

-- where an entry is put among the places, and what is settled then moves
pub holed_placed : (log new : Log) (places put places_new : List Place) (at at_new : OpTime) (spare : ℕ) (entry : Entry) → IsLogWithHoles log places at spare → 0 < spare
    → Placed log.entries places entry put → Moved log.entries put log.spare new.entries places_new new.spare
    → at_new ≡ last_of (with_entry (log.entries ++ written places) entry) → IsLogWithHoles new places_new at_new (spare - 1)
holed_placed log new places put places_new at at_new spare entry holed some placed moved last = record {
  held = moved.held;
  last = last ∙ ap last_of (sym (moved.entries ∙ placed.entries));
  room = omega (arith, holed.room, placed.room, moved.room);
}

-- the optime of the last entry, once there is one more
pub last_now : (log : List Entry) (entry : Entry) (at now : OpTime) → IsOplog log → IsOplog (with_entry log entry) → at ≡ last_of log
    → (at.ts ≤ entry.optime.ts → now ≡ entry.optime) → (entry.optime.ts < at.ts → now ≡ at) → now ≡ last_of (with_entry log entry)
last_now log entry at now oplog whole is late early = go (nat_lt entry.optime.ts at.ts) refl
  where
    go : (test : Bool) → nat_lt entry.optime.ts at.ts ≡ test → now ≡ last_of (with_entry log entry)
    go true less =
        let before : entry.optime.ts < at.ts = grind (arith, nat_tests) in
        early before ∙ is ∙ sym (last_old log entry oplog.order (subst (λ (o : OpTime). entry.optime.ts < o.ts) is before))
    go false less =
        let after : at.ts ≤ entry.optime.ts = grind (arith, nat_tests) in
        late after ∙ sym (last_new log entry whole.order oplog.order (subst (λ (o : OpTime). o.ts ≤ entry.optime.ts) is after))

-- what is found in one of two parts
pub found_first : (one two : List Entry) (at : OpTime) (place : ℕ) (entry : Entry) → StandsAt one place at → slice_get one place ≡ Some entry → IsEntryAt (one ++ two) at entry
found_first one two at place entry stands is = (place, front one two place entry is, same)
  where
    front : (one two : List Entry) (k : ℕ) (e : Entry) → slice_get one k ≡ Some e → slice_get (one ++ two) k ≡ Some e
    front [] two k e is = absurd (cc is)
    front (x ∷ one) two zero e is = is
    front (x ∷ one) two (suc k) e is = front one two k e is

    same : entry.optime ≡ at
    same = let there : Some entry.optime ≡ Some at = ap (option_map (λ (e : Entry). e.optime)) (sym is) ∙ stands in cc

pub found_second : (one two : List Entry) (at : OpTime) (entry : Entry) → IsEntryAt two at entry → IsEntryAt (one ++ two) at entry
found_second [] two at entry found = found
found_second (x ∷ one) two at entry found = let rest = found_second one two at entry found in (suc rest.0, rest.1, rest.2)

pub some_more : {X : Type 0} (r : Option X) (P Q : X → Type 0) → ((x : X) → P x → Q x) → IfSome r P → IfSome r Q
some_more None P Q so h = h
some_more (Some x) P Q so h = so x h

-- a log in one piece
alone : (log : List Entry) (places : List Place) → places ≡ [] → IsOplog log → IsHeld log places
alone log [] none oplog = record { oplog = subst IsOplog (sym (append-nil log)) oplog; rise = λ i j d less within. absurd (omega arith); after = λ k d within. absurd (omega arith) }
alone log (place ∷ places) none oplog = absurd (cc none)

whole : (log : List Entry) (places : List Place) → places ≡ [] → log ++ written places ≡ log
whole log places none = ap (λ ps. log ++ written ps) none ∙ append-nil log

pub holed_alone : (log : Log) (places : List Place) (at : OpTime) (spare : ℕ) → places ≡ [] → IsOplog log.entries → at ≡ last_of log.entries → spare ≤ log.spare → IsLogWithHoles log places at spare
holed_alone log places at spare none oplog last room =
    let long : length places ≡ 0 = ap length none in
    record { held = alone log.entries places none oplog; last = last ∙ ap last_of (sym (whole log.entries places none)); room = omega arith }

-- the log was brought into one piece and cut
pub holed_cut : (log mid new : Log) (places places_new : List Place) (at to last : OpTime) (spare : ℕ) → IsLogWithHoles log places at spare
    → Moved log.entries places log.spare mid.entries places_new mid.spare → places_new ≡ [] → new.entries ≡ log_up_to to mid.entries → mid.spare ≤ new.spare → last ≡ last_of new.entries
    → IsLogWithHoles new places_new last spare
holed_cut log mid new places places_new at to last spare holed moved none cut room is =
    let long : length places_new ≡ 0 = ap length none in
    let oplog : IsOplog mid.entries = subst IsOplog (whole mid.entries places_new none) moved.held.oplog in
    holed_alone new places_new last spare none (subst IsOplog (sym cut) (oplog_filter (λ (e : Entry). not (is_before to e.optime)) mid.entries oplog)) is (omega (arith, holed.room, moved.room))

-- an entry that has no place is put into the log in one piece
pub holed_inserted : (log mid new : Log) (places put places_new : List Place) (at at_new : OpTime) (spare : ℕ) (entry other : Entry) → IsLogWithHoles log places at spare → 0 < spare
    → other ≡ entry → put ≡ places → Moved log.entries put log.spare mid.entries places_new mid.spare → places_new ≡ []
    → new ≡ record { entries = with_entry mid.entries other; spare = mid.spare - 1 } → IsOplog (with_entry (log.entries ++ written places) entry)
    → at_new ≡ last_of (with_entry (log.entries ++ written places) entry) → IsLogWithHoles new places_new at_new (spare - 1)
holed_inserted log mid new places put places_new at at_new spare entry other holed some own back moved none is oplog last =
    let same : mid.entries ≡ log.entries ++ written places = sym (whole mid.entries places_new none) ∙ moved.entries ∙ ap (λ ps. log.entries ++ written ps) back in
    let entries : new.entries ≡ with_entry (log.entries ++ written places) entry = ap (λ (l : Log). l.entries) is ∙ (λ i. with_entry (same i) (own i)) in
    let room : new.spare ≡ mid.spare - 1 = ap (λ (l : Log). l.spare) is in
    let long : length places_new ≡ 0 = ap length none in
    let put_long : length put ≡ length places = ap length back in
    holed_alone new places_new at_new (spare - 1) none (subst IsOplog (sym entries) oplog) (last ∙ ap last_of (sym entries)) (omega (arith, holed.room, moved.room))
