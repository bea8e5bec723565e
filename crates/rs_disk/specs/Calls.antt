-- Which calls the pages can take.
use Rattle.std.specs.Prelude.{◌+◌, ◌≤◌, length, ⊤}
use Rattle.rs_disk.specs.Pages.{IsWithin, room_of}
use Rattle.rs_disk.specs.declared.pages.Pages.{Pages}
use Rattle.rs_disk.specs.declared.past.Call.{Call}
use Rattle.rs_disk.specs.declared.past.Call.TheVariants.{Read, Write, Cut, Sync, Arm, PowerCut}

-- a call that an arm counts, within the file and the room
abbrev pub CanCall : Call → Pages → Type 0
CanCall Read pages = ⊤
CanCall (Write at bytes) pages = IsWithin pages × (at ≤ pages.end) × (at + length bytes.now ≤ room_of pages)
CanCall (Cut to) pages = IsWithin pages × (to ≤ pages.end)
CanCall Sync pages = ⊤
CanCall (Arm call pick) pages = ⊥
CanCall (PowerCut pick) pages = ⊥
