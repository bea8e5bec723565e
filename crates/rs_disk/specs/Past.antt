-- What a call adds to the past of a file in memory.
use Rattle.std.specs.Prelude.{ℕ, [], ◌∷◌, Option, Some, None}
use Rattle.rs_disk.specs.File.{File, write, cut, settled}
use Rattle.rs_disk.specs.Orders.{Orders, no_orders, ordered, arm, power_cut}
use Rattle.rs_disk.specs.Picks.{picked}
use Rattle.rs_disk.specs.Steps.{Step, reads, changes, syncs, in_step, after_step}
use Rattle.rs_disk.specs.declared.past.Call.{Call}
use Rattle.rs_disk.specs.declared.past.Call.TheVariants.{Write, Cut, Sync, Arm, PowerCut}
use Rattle.rs_disk.specs.declared.past.End.{End}
use Rattle.rs_disk.specs.declared.past.End.TheVariants.{Done, Undone, Left}
use Rattle.rs_disk.specs.declared.past.Event.{Event}
use Rattle.rs_disk.specs.declared.past.Past.{Past}

-- nothing was ever written
abbrev pub no_past : Past
no_past = record { file = settled []; before = []; orders = no_orders }

-- what a call asks of the file; an order asks nothing of it
abbrev pub step_of : Call → Step
step_of (Write at bytes) = changes (write at bytes.now)
step_of (Cut to) = changes (cut to)
step_of Sync = syncs
step_of call = reads

-- the file while the call goes on
abbrev pub during : Call → File → File
during call file = in_step (step_of call) file

-- the file after a call that was done
abbrev pub done : Call → File → File
done call file = after_step (step_of call) file

-- the file when the call has ended
abbrev pub ended : Call → End → File → File
ended call Done file = done call file
ended call Undone file = file
ended call (Left bytes) file = settled bytes.now

abbrev pub orders_after : Call → Orders → Orders
orders_after (Arm call pick) orders = ordered (arm call pick) orders
orders_after (PowerCut pick) orders = ordered (power_cut pick) orders
orders_after call orders = orders

-- a call adds two moments: while it went on, and when it had ended
abbrev pub called : Call → End → Past → Past
called call end past = record {
  file = ended call end past.file;
  before = during call past.file ∷ past.file ∷ past.before;
  orders = orders_after call past.orders;
}

-- the past after a call that was done
abbrev pub done_past : Call → Past → Past
done_past call past = called call Done past

-- the past after a failed call: without a pick nothing was done
abbrev pub failed_past : Call → Option ℕ → Past → Past
failed_past call None past = called call Undone past
failed_past call (Some pick) past =
    record (called call Undone past) { file = settled (picked pick (during call past.file)) }

-- an order to fail at some call takes no time
abbrev pub past_after : Event → Past → Past
past_after event past = after event.call
  where
    after : Call → Past
    after (Arm call pick) =
        record { file = past.file; before = past.before; orders = ordered (arm call pick) past.orders }
    after call = called call event.end past
