-- What callers see of a disk in memory, and in which call an arm strikes.
use Rattle.std.specs.Prelude.{true, false, is_some, Option, []}
use Rattle.rs_disk.specs.File.{settled}
use Rattle.rs_disk.specs.Orders.{no_orders}
use Rattle.rs_disk.specs.Pages.{room_of}
use Rattle.rs_disk.specs.State.{State}
use Rattle.rs_disk.specs.declared.arm.Arm.{Arm}
use Rattle.rs_disk.specs.declared.memory.MemDisk.{MemDisk}

abbrev pub state_of : MemDisk → State
state_of disk = record {
  file = disk.past.file;
  past = disk.past.before;
  faults = disk.faults;
  orders = disk.past.orders;
  is_armed = is_some disk.arm;
  is_steady = true;
  room = room_of disk.pages;
}

-- the arm that hasn't struck
abbrev pub arm_of : MemDisk → Option Arm
arm_of disk = disk.arm

-- an empty disk that isn't armed and has no orders
abbrev pub fresh : State
fresh = record {
  file = settled [];
  past = [];
  faults = 0;
  orders = no_orders;
  is_armed = false;
  is_steady = true;
  room = 0;
}
