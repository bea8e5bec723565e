-- What a disk was asked to do to itself: to fail at some call, or to lose its power.
use Rattle.std.specs.Prelude.{ℕ, ◌+◌, ◌-◌, ◌^◌, min, Option, Some, None}

pub data Order : Type 0 where
  arm : (call : ℕ) (pick : Option ℕ) → Order
  power_cut : (pick : ℕ) → Order

-- how many there were, where the count stops at its last value, and the last of them
pub record Orders : Type 0 where
  pub count : ℕ
  pub last : Option Order

abbrev pub no_orders : Orders
no_orders = record { count = 0; last = None }

abbrev pub ordered : Order → Orders → Orders
ordered order orders = record { count = min (orders.count + 1) (2 ^ 64 - 1); last = Some order }
