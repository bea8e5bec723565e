-- Entries at the places of a log.
use Rattle.std.proofs.Common.{◌≡◌, ◌≢◌, ◌∙◌, ◌<◌, ◌≤◌, ◌+◌, ◌-◌, inl, inr, ap, sym, subst, refl, arith, rules, true, false, List, [], ◌∷◌, ◌++◌, ℕ, suc, zero, length, take, Some, None, Option, IfNone}
use Rattle.std.proofs.lemmas.List.{append-nil, append_assoc, get_or_default}
use Rattle.std.proofs.lemmas.List.Elements.{All-append, All-cons, All-tail}
use Rattle.std.proofs.lemmas.List.Kept.{AllPairs-cons}
use Rattle.std.proofs.lemmas.Option.{slice_get-get_or}
use Rattle.std.specs.Prelude.{nat_lt, slice_get, slice_set, slice_index_or}
use Rattle.std.specs.List.{All, AllPairs, AllWithin, filter}
use Rattle.std.specs.List.Sorted.{IsNonDecreasingBy, IsPartitionedBy, IsPartitionPoint}
use Rattle.rs_optime.specs.declared.optime.OpTime.{OpTime}
use Rattle.oplog_entry.specs.declared.entry.Entry.{Entry}
use Rattle.oplog_entry.specs.Lawful.{IsLawful}
use Rattle.oplog_entry.specs.Visible.{is_before, last_of, log_up_to}
use Rattle.std.proofs.Math.Nat.{eq-or-lt_of_le}
use Rattle.std.proofs.Math.Seq.{take-suc}
use Rattle.rs_optime.proofs.Optimes.{before_too}
use Rattle.oplog_store.specs.Log.{IsOplog, StandsBefore, with_entry}
use Rattle.oplog_store.specs.Places.{AllPrecede, FollowsAll, IsHeld, Moved, Placed, Precedes, StandsFirst, optime_of, written}
use Rattle.oplog_store.specs.declared.places.Place.{Place}
use Rattle.oplog_store.specs.declared.places.Place.TheVariants.{Open, Written, Closed}
use Rattle.oplog_store.proofs.Keeps.{pairs_head, pairs_tail, with_last}
use Rattle.oplog_store.proofs.LogLemmas.{earlier_of, found_there, later_of}

pub precedes_on : (a b c : OpTime) → Precedes a b → Precedes b c → Precedes a c
precedes_on a b c one two = record { earlier = omega (arith, one.earlier, two.earlier); term = omega (arith, one.term, two.term) }

-- what is true of each is true of the one at a place
pub all_at : {X : Type 0} (P : X → Type 0) (xs : List X) (i : ℕ) (x : X) → slice_get xs i ≡ Some x → All P xs → P x
all_at P [] i x is all = absurd (cc is)
all_at P (y ∷ ys) zero x is all = let same : y ≡ x = cc in subst P same (all zero y (omega arith))
all_at P (y ∷ ys) (suc i) x is all = all_at P ys i x is (All-tail P y ys all)

all_one : {X : Type 0} (P : X → Type 0) (x : X) → P x → All P (x ∷ [])
all_one P x here = All-cons P x [] here (λ k d within. absurd (omega arith))

pub all_front : {X : Type 0} (P : X → Type 0) (one two : List X) → All P (one ++ two) → All P one
all_front P [] two all = λ k d within. absurd (omega arith)
all_front P (x ∷ one) two all = All-cons P x one (all zero x (omega arith)) (all_front P one two (All-tail P x (one ++ two) all))

pub pairs_front : {X : Type 0} (R : X → X → Type 0) (one two : List X) → AllPairs R (one ++ two) → AllPairs R one
pairs_front R [] two pairs = λ i j d less within. absurd (omega arith)
pairs_front R (x ∷ one) two pairs =
    AllPairs-cons R x one (all_front (R x) one two (pairs_head R x (one ++ two) pairs)) (pairs_front R one two (pairs_tail R x (one ++ two) pairs))

pub oplog_front : (one two : List Entry) → IsOplog (one ++ two) → IsOplog one
oplog_front one two oplog = record { order = pairs_front StandsBefore one two oplog.order; lawful = all_front IsLawful one two oplog.lawful }

pub pairs_last : {X : Type 0} (R : X → X → Type 0) (xs : List X) (x : X) → All (λ y. R y x) xs → AllPairs R xs → AllPairs R (xs ++ x ∷ [])
pairs_last R [] x before pairs = λ i j d less within. absurd (omega arith)
pairs_last R (y ∷ ys) x before pairs =
    AllPairs-cons R y (ys ++ x ∷ []) (All-append (R y) ys (x ∷ []) (pairs_head R y ys pairs) (all_one (R y) x (before zero y (omega arith))))
    (pairs_last R ys x (All-tail (λ z. R z x) y ys before) (pairs_tail R y ys pairs))

-- one element in place of another
set_all : {X : Type 0} (P : X → Type 0) (xs : List X) (i : ℕ) (x y : X) → slice_get xs i ≡ Some y → (P y → P x) → All P xs → All P (slice_set xs i x)
set_all P [] i x y is as_well all = absurd (cc is)
set_all P (z ∷ zs) zero x y is as_well all =
    let same : z ≡ y = cc in All-cons P x zs (as_well (subst P same (all zero z (omega arith)))) (All-tail P z zs all)
set_all P (z ∷ zs) (suc i) x y is as_well all = All-cons P z (slice_set zs i x) (all zero z (omega arith)) (set_all P zs i x y is as_well (All-tail P z zs all))

set_rises : (places : List Place) (i : ℕ) (x y : Place) → slice_get places i ≡ Some y → optime_of x ≡ optime_of y → AllPairs StandsFirst places
    → AllPairs StandsFirst (slice_set places i x)
set_rises [] i x y is at rise = absurd (cc is)
set_rises (z ∷ zs) zero x y is at rise =
    let same : z ≡ y = cc in
    let stands : optime_of z ≡ optime_of x = ap optime_of same ∙ sym at in
    AllPairs-cons StandsFirst x zs (λ k d within. subst (λ o. Precedes o (optime_of (slice_index_or zs k d))) stands (pairs_head StandsFirst z zs rise k d within))
    (pairs_tail StandsFirst z zs rise)
set_rises (z ∷ zs) (suc i) x y is at rise =
    AllPairs-cons StandsFirst z (slice_set zs i x) (set_all (StandsFirst z) zs i x y is (subst (λ o. Precedes (optime_of z) o) (sym at)) (pairs_head StandsFirst z zs rise))
    (set_rises zs i x y is at (pairs_tail StandsFirst z zs rise))

set_length : {X : Type 0} (xs : List X) (i : ℕ) (x : X) → length (slice_set xs i x) ≡ length xs
set_length [] i x = refl
set_length (y ∷ ys) zero x = refl
set_length (y ∷ ys) (suc i) x = ap (λ n. suc n) (set_length ys i x)

pub last_length : {X : Type 0} (xs : List X) (x : X) → length (xs ++ x ∷ []) ≡ length xs + 1
last_length [] x = refl
last_length (y ∷ ys) x = let rest : length (ys ++ x ∷ []) ≡ length ys + 1 = last_length ys x in omega arith

pub last_there : {X : Type 0} (xs : List X) (x : X) → 0 < length xs → x ≡ slice_index_or xs (length xs - 1) x → slice_get xs (length xs - 1) ≡ Some x
last_there xs x some is = slice_get-get_or xs (length xs - 1) x (omega arith) ∙ ap (λ y. Some y) (sym is)

-- what is left, by the option's case
pub on_none : {X : Type 0} (r : Option X) (P Q : Type 0) → (P → Q) → IfNone r P → IfNone r Q
on_none None P Q so h = so h
on_none (Some x) P Q so h = h

-- an entry is put after those that are earlier
with_front : (front log : List Entry) (entry : Entry) → All (λ other. other.optime.ts < entry.optime.ts) front → with_entry (front ++ log) entry ≡ front ++ with_entry log entry
with_front [] log entry early = refl
with_front (other ∷ front) log entry early =
    let less : other.optime.ts < entry.optime.ts = early zero other (omega arith) in
    let test : nat_lt other.optime.ts entry.optime.ts ≡ true = grind arith in
    rw test (ap (λ rest. other ∷ rest) (with_front front log entry (All-tail (λ (x : Entry). x.optime.ts < entry.optime.ts) other front early)))

-- and before those that are later
with_first : (log : List Entry) (entry : Entry) → All (λ other. entry.optime.ts < other.optime.ts) log → with_entry log entry ≡ entry ∷ log
with_first [] entry late = refl
with_first (other ∷ log) entry late =
    let less : entry.optime.ts < other.optime.ts = late zero other (omega arith) in
    let test : nat_lt other.optime.ts entry.optime.ts ≡ false = grind arith in
    rw test refl

-- what is true of each place is true of each entry that is written
pub written_all : (P : Entry → Type 0) (Q : Place → Type 0) → ((entry : Entry) → Q (Written entry) → P entry) → (places : List Place) → All Q places → All P (written places)
written_all P Q so [] all = λ k d within. absurd (omega arith)
written_all P Q so (Open at ∷ places) all = written_all P Q so places (All-tail Q (Open at) places all)
written_all P Q so (Closed at ∷ places) all = written_all P Q so places (All-tail Q (Closed at) places all)
written_all P Q so (Written entry ∷ places) all =
    All-cons P entry (written places) (so entry (all zero (Written entry) (omega arith))) (written_all P Q so places (All-tail Q (Written entry) places all))

pub written_append : (one two : List Place) → written (one ++ two) ≡ written one ++ written two
written_append [] two = refl
written_append (Open at ∷ one) two = written_append one two
written_append (Closed at ∷ one) two = written_append one two
written_append (Written entry ∷ one) two = ap (λ rest. entry ∷ rest) (written_append one two)

written_filled : (places : List Place) (i : ℕ) (entry : Entry) → AllPairs StandsFirst places → slice_get places i ≡ Some (Open entry.optime)
    → written (slice_set places i (Written entry)) ≡ with_entry (written places) entry
written_filled [] i entry rise is = absurd (cc is)
written_filled (Open at ∷ places) zero entry rise is =
    let same : at ≡ entry.optime = cc in
    sym
    (with_first (written places) entry
    (written_all (λ other. entry.optime.ts < other.optime.ts) (StandsFirst (Open at)) (λ other before. subst (λ (o : OpTime). o.ts < other.optime.ts) same before.earlier) places (pairs_head StandsFirst (Open at) places rise)))
written_filled (Written other ∷ places) zero entry rise is = absurd (cc is)
written_filled (Closed at ∷ places) zero entry rise is = absurd (cc is)
written_filled (Open at ∷ places) (suc i) entry rise is = written_filled places i entry (pairs_tail StandsFirst (Open at) places rise) is
written_filled (Closed at ∷ places) (suc i) entry rise is = written_filled places i entry (pairs_tail StandsFirst (Closed at) places rise) is
written_filled (Written other ∷ places) (suc i) entry rise is =
    let before : StandsFirst (Written other) (Open entry.optime) = all_at (StandsFirst (Written other)) places i (Open entry.optime) is (pairs_head StandsFirst (Written other) places rise) in
    let less : other.optime.ts < entry.optime.ts = before.earlier in
    let test : nat_lt other.optime.ts entry.optime.ts ≡ true = grind arith in
    rw test (ap (λ rest. other ∷ rest) (written_filled places i entry (pairs_tail StandsFirst (Written other) places rise) is))

written_closed : (places : List Place) (i : ℕ) (at : OpTime) → slice_get places i ≡ Some (Open at) → written (slice_set places i (Closed at)) ≡ written places
written_closed [] i at is = absurd (cc is)
written_closed (Open other ∷ places) zero at is = refl
written_closed (Written entry ∷ places) zero at is = absurd (cc is)
written_closed (Closed other ∷ places) zero at is = absurd (cc is)
written_closed (Open other ∷ places) (suc i) at is = written_closed places i at is
written_closed (Closed other ∷ places) (suc i) at is = written_closed places i at is
written_closed (Written entry ∷ places) (suc i) at is = ap (λ rest. entry ∷ rest) (written_closed places i at is)

-- an entry fills the place of its slot
pub placed_within : (settled : List Entry) (places : List Place) (entry : Entry) (i : ℕ) → IsHeld settled places → IsOplog (with_entry (settled ++ written places) entry)
    → slice_get places i ≡ Some (Open entry.optime) → Placed settled places entry (slice_set places i (Written entry))
placed_within settled places entry i held oplog is =
    let early : All (λ (other : Entry). other.optime.ts < entry.optime.ts) settled = λ k d within. (all_at (FollowsAll settled) places i (Open entry.optime) is held.after k d within).earlier in
    let entries : settled ++ written (slice_set places i (Written entry)) ≡ with_entry (settled ++ written places) entry =
    ap (λ rest. settled ++ rest) (written_filled places i entry held.rise is) ∙ sym (with_front settled (written places) entry early) in
    let long : length (slice_set places i (Written entry)) ≡ length places = set_length places i (Written entry) in
    record {
      held = record {
        oplog = subst IsOplog (sym entries) oplog;
        rise = set_rises places i (Written entry) (Open entry.optime) is refl held.rise;
        after = set_all (FollowsAll settled) places i (Written entry) (Open entry.optime) is (λ after. after) held.after;
      };
      entries = entries;
      room = omega arith;
    }

-- where the last place comes before an optime, each does
pub places_before : (places : List Place) (last : Place) (at : OpTime) → AllPairs StandsFirst places → slice_get places (length places - 1) ≡ Some last
    → Precedes (optime_of last) at → All (λ place. Precedes (optime_of place) at) places
places_before places last at rise is before k d within =
    let there : slice_index_or places (length places - 1) last ≡ last = found_there places (length places - 1) last last (sym is) in
    let same : slice_index_or places k d ≡ slice_index_or places k last = search (rules, get_or_default) in
    subst (λ place. Precedes (optime_of place) at) (sym same)
    (elim (eq-or-lt_of_le {n = k} {m = length places - 1} (omega arith)) [
      | inr less ↦
          precedes_on _ (optime_of last) at (subst (λ place. StandsFirst (slice_index_or places k last) place) there (rise k (length places - 1) last less (omega arith))) before
      | inl here ↦ subst (λ place. Precedes (optime_of place) at) (sym (ap (λ n. slice_index_or places n last) here ∙ there)) before
    ])

-- and each entry that is settled
pub settled_before : (settled : List Entry) (places : List Place) (last : Place) (at : OpTime) → All (FollowsAll settled) places → slice_get places (length places - 1) ≡ Some last
    → Precedes (optime_of last) at → All (λ (entry : Entry). Precedes entry.optime at) settled
settled_before settled places last at after is before k d within =
    precedes_on _ (optime_of last) at (all_at (FollowsAll settled) places (length places - 1) last is after k d within) before

-- an entry is put after all places
pub placed_last : (settled : List Entry) (places : List Place) (entry : Entry) (last : Place) → IsHeld settled places → IsOplog (with_entry (settled ++ written places) entry)
    → slice_get places (length places - 1) ≡ Some last → Precedes (optime_of last) entry.optime → Placed settled places entry (places ++ Written entry ∷ [])
placed_last settled places entry last held oplog is before =
    let front = places_before places last entry.optime held.rise is before in
    let early = settled_before settled places last entry.optime held.after is before in
    let all_early : All (λ (other : Entry). other.optime.ts < entry.optime.ts) (settled ++ written places) =
    All-append (λ (other : Entry). other.optime.ts < entry.optime.ts) settled (written places) (λ k d within. (early k d within).earlier)
    (written_all (λ other. other.optime.ts < entry.optime.ts) (λ place. Precedes (optime_of place) entry.optime) (λ other first. first.earlier) places front) in
    let entries : settled ++ written (places ++ Written entry ∷ []) ≡ with_entry (settled ++ written places) entry =
    ap (λ rest. settled ++ rest) (written_append places (Written entry ∷ [])) ∙ sym (append_assoc settled (written places) (entry ∷ [])) ∙ sym (with_last (settled ++ written places) entry all_early) in
    record {
      held = record {
        oplog = subst IsOplog (sym entries) oplog;
        rise = pairs_last StandsFirst places (Written entry) front held.rise;
        after = All-append (FollowsAll settled) places (Written entry ∷ []) held.after (all_one (FollowsAll settled) (Written entry) early);
      };
      entries = entries;
      room = omega (arith, last_length places (Written entry));
    }

written_open : (places : List Place) (at : OpTime) → written (places ++ Open at ∷ []) ≡ written places
written_open [] at = refl
written_open (Open other ∷ places) at = written_open places at
written_open (Closed other ∷ places) at = written_open places at
written_open (Written entry ∷ places) at = ap (λ rest. entry ∷ rest) (written_open places at)

-- a slot opens after all that stands
pub moved_open : (settled : List Entry) (places : List Place) (at : OpTime) → IsHeld settled places → AllPrecede settled places at → Moved settled places 0 settled (places ++ Open at ∷ []) 1
moved_open settled places at held before =
    let same : written (places ++ Open at ∷ []) ≡ written places = written_open places at in
    record {
      held = record {
        oplog = subst (λ rest. IsOplog (settled ++ rest)) (sym same) held.oplog;
        rise = pairs_last StandsFirst places (Open at) before.places_too held.rise;
        after = All-append (FollowsAll settled) places (Open at ∷ []) held.after (all_one (FollowsAll settled) (Open at) before.entries);
      };
      entries = ap (λ rest. settled ++ rest) same;
      room = omega (arith, last_length places (Open at));
    }

pub all_precede : (settled : List Entry) (places : List Place) (last : Place) (at : OpTime) → IsHeld settled places → slice_get places (length places - 1) ≡ Some last
    → Precedes (optime_of last) at → AllPrecede settled places at
all_precede settled places last at held is before =
    record { entries = settled_before settled places last at held.after is before; places_too = places_before places last at held.rise is before }

stand_before : (log : List Entry) (at : OpTime) → AllPairs StandsBefore log → Precedes (last_of log) at → All (λ (entry : Entry). Precedes entry.optime at) log
stand_before [] at order before = λ k d within. absurd (omega arith)
stand_before (entry ∷ []) at order before = all_one (λ (e : Entry). Precedes e.optime at) entry before
stand_before (entry ∷ next ∷ log) at order before =
    let rest : All (λ (e : Entry). Precedes e.optime at) (next ∷ log) = stand_before (next ∷ log) at (pairs_tail StandsBefore entry (next ∷ log) order) before in
    let first : StandsBefore entry next = pairs_head StandsBefore entry (next ∷ log) order zero entry (omega arith) in
    let then_next : Precedes next.optime at = rest zero entry (omega arith) in
    All-cons (λ (e : Entry). Precedes e.optime at) entry (next ∷ log) (record { earlier = omega (arith, first.earlier, then_next.earlier); term = omega (arith, first.term, then_next.term) }) rest

-- the same where no place is kept
pub all_precede_end : (settled : List Entry) (places : List Place) (last at : OpTime) → places ≡ [] → IsHeld settled places → last ≡ last_of (settled ++ written places)
    → Precedes last at → AllPrecede settled places at
all_precede_end settled (place ∷ places) last at none held is before = absurd (cc none)
all_precede_end settled [] last at none held is before =
    let same : last ≡ last_of settled = is ∙ ap last_of (append-nil settled) in
    record {
      entries = stand_before settled at (subst (λ log. AllPairs StandsBefore log) (append-nil settled) held.oplog.order) (subst (λ o. Precedes o at) same before);
      places_too = λ k d within. absurd (omega arith);
    }

-- a slot is closed
pub moved_closed : (settled : List Entry) (places : List Place) (i : ℕ) (at : OpTime) → slice_get places i ≡ Some (Open at) → IsHeld settled places
    → Moved settled places 0 settled (slice_set places i (Closed at)) 0
moved_closed settled places i at is held =
    let same : written (slice_set places i (Closed at)) ≡ written places = written_closed places i at is in
    let long : length (slice_set places i (Closed at)) ≡ length places = set_length places i (Closed at) in
    record {
      held = record {
        oplog = subst (λ rest. IsOplog (settled ++ rest)) (sym same) held.oplog;
        rise = set_rises places i (Closed at) (Open at) is refl held.rise;
        after = set_all (FollowsAll settled) places i (Closed at) (Open at) is (λ after. after) held.after;
      };
      entries = ap (λ rest. settled ++ rest) same;
      room = omega arith;
    }

pub moved_none : (settled : List Entry) (places : List Place) (spare : ℕ) → IsHeld settled places → Moved settled places spare settled places spare
moved_none settled places spare held = record { held = held; entries = refl; room = omega arith }

pub moved_more : (a b c : List Entry) (p q r : List Place) (x y z : ℕ) → Moved a p x b q y → Moved b q y c r z → Moved a p x c r z
moved_more a b c p q r x y z one two = record { held = two.held; entries = two.entries ∙ one.entries; room = omega (arith, one.room, two.room) }

settled_early : (settled : List Entry) (entry : Entry) (rest : List Place) → IsHeld settled (Written entry ∷ rest) → with_entry settled entry ≡ settled ++ entry ∷ []
settled_early settled entry rest held = with_last settled entry (λ k d within. (held.after zero (Written entry) (omega arith) k d within).earlier)

-- the entry at the first place goes after what is settled
pub first_stays : (settled : List Entry) (entry : Entry) (rest : List Place) → IsHeld settled (Written entry ∷ rest) → IsOplog (with_entry settled entry)
first_stays settled entry rest held =
    subst IsOplog (sym (settled_early settled entry rest held)) (oplog_front (settled ++ entry ∷ []) (written rest) (subst IsOplog (sym (append_assoc settled (entry ∷ []) (written rest))) held.oplog))

pub moved_entry : (settled : List Entry) (entry : Entry) (rest : List Place) (spare : ℕ) → IsHeld settled (Written entry ∷ rest) → 0 < spare
    → Moved settled (Written entry ∷ rest) spare (with_entry settled entry) rest (spare - 1)
moved_entry settled entry rest spare held some =
    let is : with_entry settled entry ≡ settled ++ entry ∷ [] = settled_early settled entry rest held in
    subst (λ log. Moved settled (Written entry ∷ rest) spare log rest (spare - 1)) (sym is)
    record {
      held = record {
        oplog = subst IsOplog (sym (append_assoc settled (entry ∷ []) (written rest))) held.oplog;
        rise = pairs_tail StandsFirst (Written entry) rest held.rise;
        after = λ k d within.
            All-append (λ (other : Entry). Precedes other.optime (optime_of (slice_index_or rest k d))) settled (entry ∷ [])
            (All-tail (FollowsAll settled) (Written entry) rest held.after k d within)
            (all_one (λ (other : Entry). Precedes other.optime (optime_of (slice_index_or rest k d))) entry (pairs_head StandsFirst (Written entry) rest held.rise k d within));
      };
      entries = append_assoc settled (entry ∷ []) (written rest);
      room = omega arith;
    }

-- a first place without an entry goes
held_tail : (settled : List Entry) (first : Place) (rest : List Place) → written (first ∷ rest) ≡ written rest → IsHeld settled (first ∷ rest) → IsHeld settled rest
held_tail settled first rest same held = record {
  oplog = subst (λ log. IsOplog (settled ++ log)) same held.oplog;
  rise = pairs_tail StandsFirst first rest held.rise;
  after = All-tail (FollowsAll settled) first rest held.after;
}

pub moved_empty : (settled : List Entry) (first : Place) (rest : List Place) (spare : ℕ) → written (first ∷ rest) ≡ written rest → IsHeld settled (first ∷ rest)
    → Moved settled (first ∷ rest) spare settled rest spare
moved_empty settled first rest spare same held =
    record { held = held_tail settled first rest same held; entries = ap (λ log. settled ++ log) (sym same); room = omega arith }

pub places_rise : (places : List Place) → AllPairs StandsFirst places → IsNonDecreasingBy (λ place. (optime_of place).ts) places
places_rise places rise i j d within inside =
    elim (eq-or-lt_of_le within) [
      | inr less ↦ let first : StandsFirst (slice_index_or places i d) (slice_index_or places j d) = rise i j d less inside in omega (arith, first.earlier)
      | inl same ↦ rw same (omega arith)
    ]

-- places parted by a timestamp
pub split_places : (places : List Place) (ts i : ℕ)
    → IsPartitionPoint (λ place. nat_lt (optime_of place).ts ts ≡ true) (λ place. nat_lt (optime_of place).ts ts ≡ false) places i
    → AllWithin (λ place. (optime_of place).ts < ts) places 0 i × AllWithin (λ place. ts ≤ (optime_of place).ts) places i (length places)
split_places places ts i parts = (λ k d one two. earlier_of _ _ (parts.0 k d one two), λ k d one two. later_of _ _ (parts.1 k d one two))

-- an entry that is written at a place is among those that are
pub written_at : (places : List Place) (i : ℕ) (entry : Entry) → slice_get places i ≡ Some (Written entry) → (k : ℕ) × (slice_get (written places) k ≡ Some entry)
written_at [] i entry is = absurd (cc is)
written_at (Open at ∷ places) zero entry is = absurd (cc is)
written_at (Closed at ∷ places) zero entry is = absurd (cc is)
written_at (Written other ∷ places) zero entry is = (zero, cc)
written_at (Open at ∷ places) (suc i) entry is = written_at places i entry is
written_at (Closed at ∷ places) (suc i) entry is = written_at places i entry is
written_at (Written other ∷ places) (suc i) entry is = let rest = written_at places i entry is in (suc rest.0, rest.1)

later_apart : (places : List Place) (at : OpTime) → All (λ place. at.ts < (optime_of place).ts) places → All (λ (entry : Entry). entry.optime ≢ at) (written places)
later_apart places at late =
    written_all (λ entry. entry.optime ≢ at) (λ place. at.ts < (optime_of place).ts) (λ entry less same. let ts : entry.optime.ts ≡ at.ts = ap (λ (o : OpTime). o.ts) same in absurd (omega (arith, less))) places late

-- no entry has an optime that the one at its place hasn't
pub none_at : (places : List Place) (i : ℕ) (at : OpTime) → AllPairs StandsFirst places → AllWithin (λ place. (optime_of place).ts < at.ts) places 0 i
    → AllWithin (λ place. at.ts ≤ (optime_of place).ts) places i (length places)
    → ((entry : Entry) → slice_get places i ≡ Some (Written entry) → entry.optime ≢ at) → All (λ (entry : Entry). entry.optime ≢ at) (written places)
none_at [] i at rise front back here = λ k d within. absurd (omega arith)
none_at (place ∷ places) zero at rise front back here = first place refl
  where
    late : All (λ other. at.ts < (optime_of other).ts) places
    late k d within =
        let before : StandsFirst place (slice_index_or places k d) = pairs_head StandsFirst place places rise k d within in
        let from : at.ts ≤ (optime_of place).ts = back zero place (omega arith) (omega arith) in
        omega (arith, before.earlier)

    first : (own : Place) → own ≡ place → All (λ (entry : Entry). entry.optime ≢ at) (written (own ∷ places))
    first (Open other) is = later_apart places at late
    first (Closed other) is = later_apart places at late
    first (Written entry) is = All-cons (λ (e : Entry). e.optime ≢ at) entry (written places) (here entry (ap (λ (p : Place). Some p) (sym is))) (later_apart places at late)
none_at (Open other ∷ places) (suc i) at rise front back here =
    none_at places i at (pairs_tail StandsFirst (Open other) places rise) (λ k d one two. front (suc k) d (omega arith) (omega arith)) (λ k d one two. back (suc k) d (omega arith) (omega arith)) here
none_at (Closed other ∷ places) (suc i) at rise front back here =
    none_at places i at (pairs_tail StandsFirst (Closed other) places rise) (λ k d one two. front (suc k) d (omega arith) (omega arith)) (λ k d one two. back (suc k) d (omega arith) (omega arith)) here
none_at (Written entry ∷ places) (suc i) at rise front back here =
    let less : entry.optime.ts < at.ts = front zero (Written entry) (omega arith) (omega arith) in
    All-cons (λ (e : Entry). e.optime ≢ at) entry (written places) (λ same. let ts : entry.optime.ts ≡ at.ts = ap (λ (o : OpTime). o.ts) same in absurd (omega arith))
    (none_at places i at (pairs_tail StandsFirst (Written entry) places rise) (λ k d one two. front (suc k) d (omega arith) (omega arith)) (λ k d one two. back (suc k) d (omega arith) (omega arith)) here)

-- a place without an entry adds none
pub written_rest : (place : Place) (rest : List Place) → written (place ∷ []) ≡ [] → written (place ∷ rest) ≡ written rest
written_rest place rest none = written_append (place ∷ []) rest ∙ ap (λ log. log ++ written rest) none

pub last_is_one : (log : List Entry) (entry : Entry) → last_of (log ++ entry ∷ []) ≡ entry.optime
last_is_one [] entry = refl
last_is_one (one ∷ []) entry = refl
last_is_one (one ∷ two ∷ log) entry = last_is_one (two ∷ log) entry

pub places_before_come_first : (places : List Place) (at : OpTime) → AllPairs StandsFirst places → IsPartitionedBy (λ place. is_before (optime_of place) at) places
places_before_come_first places at rise i j d within inside late =
    elim (eq-or-lt_of_le within) [
      | inr less ↦ let first : StandsFirst (slice_index_or places i d) (slice_index_or places j d) = rise i j d less inside in before_too _ _ at (omega (arith, first.earlier)) first.term late
      | inl same ↦ rw same late
    ]

-- the entries before an optime are those at the places before it
pub before_written : (places : List Place) (i : ℕ) (at : OpTime) → AllWithin (λ place. is_before (optime_of place) at ≡ true) places 0 i
    → AllWithin (λ place. is_before (optime_of place) at ≡ false) places i (length places) → filter (λ entry. is_before entry.optime at) (written places) ≡ written (take i places)
before_written [] zero at front back = refl
before_written [] (suc i) at front back = refl
before_written (Open other ∷ places) zero at front back = before_written places zero at (λ k d one two. absurd (omega arith)) (λ k d one two. back (suc k) d (omega arith) (omega arith))
before_written (Closed other ∷ places) zero at front back = before_written places zero at (λ k d one two. absurd (omega arith)) (λ k d one two. back (suc k) d (omega arith) (omega arith))
before_written (Written entry ∷ places) zero at front back =
    rw (back zero (Written entry) (omega arith) (omega arith))
    (before_written places zero at (λ k d one two. absurd (omega arith)) (λ k d one two. back (suc k) d (omega arith) (omega arith)))
before_written (Open other ∷ places) (suc i) at front back =
    before_written places i at (λ k d one two. front (suc k) d (omega arith) (omega arith)) (λ k d one two. back (suc k) d (omega arith) (omega arith))
before_written (Closed other ∷ places) (suc i) at front back =
    before_written places i at (λ k d one two. front (suc k) d (omega arith) (omega arith)) (λ k d one two. back (suc k) d (omega arith) (omega arith))
before_written (Written entry ∷ places) (suc i) at front back =
    rw (front zero (Written entry) (omega arith) (omega arith))
    (ap (λ rest. entry ∷ rest) (before_written places i at (λ k d one two. front (suc k) d (omega arith) (omega arith)) (λ k d one two. back (suc k) d (omega arith) (omega arith))))

pub at_place : (places : List Place) (i : ℕ) (place : Place) → i < length places → place ≡ slice_index_or places i place → slice_get places i ≡ Some place
at_place places i place within is = slice_get-get_or places i place within ∙ ap (λ (p : Place). Some p) (sym is)

-- a place without an entry has none of this optime
pub none_there : (places : List Place) (i : ℕ) (place : Place) (at : OpTime) → slice_get places i ≡ Some place → written (place ∷ []) ≡ []
    → (entry : Entry) → slice_get places i ≡ Some (Written entry) → entry.optime ≢ at
none_there places i place at there none entry is = λ at_it.
    let both : Some place ≡ Some (Written entry) = sym there ∙ is in
    let same : place ≡ Written entry = cc in
    let one : written (Written entry ∷ []) ≡ [] = subst (λ (p : Place). written (p ∷ []) ≡ []) same none in
    absurd (cc one)

pub other_there : (places : List Place) (i : ℕ) (own : Entry) (at : OpTime) → slice_get places i ≡ Some (Written own) → own.optime ≢ at
    → (entry : Entry) → slice_get places i ≡ Some (Written entry) → entry.optime ≢ at
other_there places i own at there other entry is =
    let both : Some (Written own) ≡ Some (Written entry) = sym there ∙ is in
    let same : own ≡ entry = cc in
    subst (λ (e : Entry). e.optime ≢ at) same other

still_later : (at one two : OpTime) → Precedes one two → is_before at one ≡ true → is_before at two ≡ true
still_later at one two next late = let ts : one.ts < two.ts = next.earlier in let term : one.term ≤ two.term = next.term in grind arith

all_late : (at : OpTime) (log : List Entry) → All (λ (entry : Entry). is_before at entry.optime ≡ true) log → log_up_to at log ≡ []
all_late at [] all = refl
all_late at (entry ∷ log) all = rw (all zero entry (omega arith)) (all_late at log (All-tail (λ (e : Entry). is_before at e.optime ≡ true) entry log all))

-- where the first place is after an optime, no entry is up to there
pub none_up_to : (places : List Place) (first : Place) (at : OpTime) → AllPairs StandsFirst places → slice_get places 0 ≡ Some first → is_before at (optime_of first) ≡ true
    → log_up_to at (written places) ≡ []
none_up_to [] first at rise is late = refl
none_up_to (place ∷ rest) first at rise is late =
    let same : place ≡ first = cc in
    let here : is_before at (optime_of place) ≡ true = ap (λ p. is_before at (optime_of p)) same ∙ late in
    all_late at (written (place ∷ rest))
    (written_all (λ entry. is_before at entry.optime ≡ true) (λ p. is_before at (optime_of p) ≡ true) (λ entry h. h) (place ∷ rest)
    (All-cons (λ p. is_before at (optime_of p) ≡ true) place rest here
    (λ k d within. still_later at (optime_of place) (optime_of (slice_index_or rest k d)) (pairs_head StandsFirst place rest rise k d within) here)))

-- the entries at one place more
pub written_next : (places : List Place) (k : ℕ) (place : Place) → k < length places → place ≡ slice_index_or places k place
    → written (take (k + 1) places) ≡ written (take k places) ++ written (place ∷ [])
written_next places k place within is =
    let step : k + 1 ≡ suc k = omega arith in
    ap written (ap (λ n. take n places) step ∙ take-suc places k place within ∙ ap (λ p. take k places ++ p ∷ []) (sym is)) ∙ written_append (take k places) (place ∷ [])

-- the last entry at one place more
pub last_more : (settled : List Entry) (places : List Place) (k : ℕ) (place : Place) (last : OpTime) → k < length places → place ≡ slice_index_or places k place
    → last ≡ last_of ((settled ++ written (take k places)) ++ written (place ∷ [])) → last ≡ last_of (settled ++ written (take (k + 1) places))
last_more settled places k place last within is so =
    so ∙ ap last_of (append_assoc settled (written (take k places)) (written (place ∷ [])) ∙ ap (λ rest. settled ++ rest) (sym (written_next places k place within is)))

pub no_length : {X : Type 0} (xs : List X) → length xs ≡ 0 → xs ≡ []
no_length [] none = refl
no_length (x ∷ xs) none = absurd (omega arith)
