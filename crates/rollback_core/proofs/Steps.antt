-- The steps by which the code finds the point of a rollback.
use Rattle.std.specs.Prelude.{◌≡◌, ◌<◌, ◌≤◌, ◌+◌, ℕ, Bool, true, false, ◌&&◌, List, length, slice_get, if◌then◌else◌}
use Rattle.std.specs.List.{list_any}
use Rattle.std.specs.Option.{option_map_or}
use Rattle.rs_optime.specs.Order.{is_before}
use Rattle.rs_optime.specs.declared.optime.OpTime.{OpTime}
use Rattle.oplog_entry.specs.declared.entry.Entry.{Entry}
use Rattle.repl_msg.specs.Logs.{same_optime, has_entry}

abbrev pub is_listed : List OpTime → OpTime → Bool
is_listed optimes at = list_any (same_optime at) optimes

-- an optime, where it is past a point and in the log
abbrev pub later_entry : List Entry → (point optime : OpTime) → OpTime
later_entry log point optime = if is_before point optime && has_entry log optime then optime else point

-- the entry at a place is past an optime
abbrev pub is_past : List Entry → (place : ℕ) → OpTime → Bool
is_past log place at = option_map_or (λ entry. is_before at entry.optime) (slice_get log place) false

-- the entry at a place has an optime
abbrev pub stands_at : List Entry → (place : ℕ) → OpTime → Bool
stands_at log place at = option_map_or (λ entry. same_optime entry.optime at) (slice_get log place) false

-- so many entries are up to an optime: the last of them isn't past it, and the next one is
pub record IsCountUpTo (log : List Entry) (at : OpTime) (count : ℕ) : Type 0 where
  pub within : count ≤ length log
  pub last : (place : ℕ) → place + 1 ≡ count → is_past log place at ≡ false
  pub next : count < length log → is_past log count at ≡ true
