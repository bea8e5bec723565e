-- What happens to a log and its slots while the log is read: slots are opened and closed, and
-- entries are written.
use Rattle.std.specs.Prelude.{ℕ, ◌<◌, ◌≤◌, ◌-◌, ◌^◌, List, [], ◌∷◌, All, ⊤, fold}
use Rattle.std.specs.FinSet.{items}
use Rattle.rs_optime.specs.declared.optime.OpTime.{OpTime}
use Rattle.oplog_entry.specs.declared.entry.Entry.{Entry}
use Rattle.oplog_entry.specs.Visible.{visible}
use Rattle.optime_slots.specs.Reserved.{Reserved, AreSeen, IsOpen, next_slot, opened, closed, all_closed, with_seen}
use Rattle.oplog_store.specs.Log.{IsOplog, with_entry}

-- the entries that are written, and the slots
pub record State : Type 0 where
  pub log : List Entry
  pub reserved : Reserved

-- A reservation has a term and a clock. An entry is written at an open slot, or past the mark, which its
-- timestamp then raises
pub data Action : Type 0 where
  Reserve : (term clock : ℕ) → Action
  Settle : (at : OpTime) → Action
  Abort : (at : OpTime) → Action
  AbortAll : Action
  WriteAtSlot : (entry : Entry) → Action
  WritePast : (entry : Entry) → Action

-- the state after an action, by the definitions that the calls' contracts use
abbrev pub after : State → Action → State
after state (Reserve term clock) =
    record { log = state.log; reserved = opened state.reserved (next_slot state.reserved term clock) }
after state (Settle at) = record { log = state.log; reserved = closed state.reserved at }
after state (Abort at) = record { log = state.log; reserved = closed state.reserved at }
after state AbortAll = record { log = state.log; reserved = all_closed state.reserved }
after state (WriteAtSlot entry) = record { log = with_entry state.log entry; reserved = state.reserved }
after state (WritePast entry) =
    record { log = with_entry state.log entry; reserved = with_seen state.reserved entry.optime.ts }

-- what an action needs: a mark that can be passed, an open slot, a later timestamp, and a log that
-- stays a log
abbrev pub IsAllowed : State → Action → Type 0
IsAllowed state (Reserve term clock) = state.reserved.mark < 2 ^ 64 - 1
IsAllowed state (Settle at) = ⊤
IsAllowed state (Abort at) = ⊤
IsAllowed state AbortAll = ⊤
IsAllowed state (WriteAtSlot entry) =
    IsOpen state.reserved entry.optime × IsOplog (with_entry state.log entry)
IsAllowed state (WritePast entry) =
    (state.reserved.mark < entry.optime.ts) × IsOplog (with_entry state.log entry)

-- a list of actions, one after another
abbrev pub run : State → List Action → State
run state actions = fold after state actions

abbrev pub AreAllowed : State → List Action → Type 0
AreAllowed state [] = ⊤
AreAllowed state (action ∷ actions) = IsAllowed state action × AreAllowed (after state action) actions

-- a log, no entry of it past the mark, and slots
pub record IsSound (state : State) : Type 0 where
  pub oplog : IsOplog state.log
  pub marked : All (λ entry. entry.optime.ts ≤ state.reserved.mark) state.log
  pub slots : AreSeen state.reserved.slots state.reserved.mark

-- the visible optime that is returned now
abbrev pub answer : State → OpTime
answer state = visible state.log (items state.reserved.slots)
