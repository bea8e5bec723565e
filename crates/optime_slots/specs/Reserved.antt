-- Optimes that are given out and not yet settled.
use Rattle.std.specs.Prelude.{◌≡◌, ◌<◌, ◌≤◌, ℕ, max, false, IsTrue, refl}
use Rattle.std.specs.Ordering.{is_gt}
use Rattle.std.specs.FinSet.{FinSet, empty, contains, insert, remove, code}
use Rattle.std.specs.Coded.{Coded, code_by, coded×, coded_ℕ}
pub use Rattle.rs_optime.specs.Order.{optime_cmp, optime_code}
use Rattle.rs_optime.specs.Time.{timestamp_after}
use Rattle.rs_optime.specs.declared.optime.OpTime.{OpTime}

-- the open slots, and the greatest timestamp seen
pub record Reserved : Type 0 where
  pub slots : FinSet optime_cmp
  pub mark : ℕ

abbrev pub IsOpen : Reserved → OpTime → Type 0
IsOpen reserved at = IsTrue (contains reserved.slots at)

-- no slot is later than the mark, and none has the timestamp of ZERO
pub record IsSeen (mark : ℕ) (at : OpTime) : Type 0 where
  pub positive : 0 < at.ts
  pub seen : at.ts ≤ mark

abbrev pub AreSeen : FinSet optime_cmp → ℕ → Type 0
AreSeen slots mark = (at : OpTime) → IsTrue (contains slots at) → IsSeen mark at

-- an open slot with no open slot before it
pub record IsLeast (reserved : Reserved) (at : OpTime) : Type 0 where
  pub here : IsOpen reserved at
  pub first : (other : OpTime) → IsOpen reserved other → is_gt (optime_cmp at other) ≡ false

-- no slot, and no timestamp seen
abbrev pub none_reserved : Reserved
none_reserved = record { slots = empty; mark = 0 }

-- the slot that a reservation gives: later than every timestamp seen
abbrev pub next_slot : Reserved → (term clock : ℕ) → OpTime
next_slot reserved term clock = record { term = term; ts = timestamp_after clock reserved.mark }

-- with a slot open at an optime later than all others
abbrev pub opened : Reserved → OpTime → Reserved
opened reserved at = record { slots = insert reserved.slots at; mark = at.ts }

-- without the slot at an optime
abbrev pub closed : Reserved → OpTime → Reserved
closed reserved at = record { slots = remove reserved.slots at; mark = reserved.mark }

-- without any slot
abbrev pub all_closed : Reserved → Reserved
all_closed reserved = record { slots = empty; mark = reserved.mark }

-- with a timestamp seen
abbrev pub with_seen : Reserved → ℕ → Reserved
with_seen reserved ts = record { slots = reserved.slots; mark = max reserved.mark ts }

abbrev pub reserved_code : Coded Reserved
reserved_code =
    code_by (FinSet optime_cmp × ℕ) (coded× (code optime_code) coded_ℕ) (λ s. (s.slots, s.mark))
    (λ p. record { slots = p.0; mark = p.1 }) (λ _. refl)
