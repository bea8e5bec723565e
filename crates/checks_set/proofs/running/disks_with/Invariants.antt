use Rattle.std.proofs.Common.{◌≡◌, vec_len}
use Rattle.std.specs.Prelude.{All}
use Rattle.rs_disk.specs.File.{IsEmpty}
use Rattle.rs_disk.specs.Memory.{state_of}
use Rattle.rs_disk.specs.declared.memory.MemDisk.{MemDisk}
use Rattle.checks_set.proofs.running.disks_with.Given as goal

-- this many empty disks are made
abbrev pub invariant-loop-place : goal.invariant-loop-place
invariant-loop-place l = (vec_len l.disks ≡ l.place) × All (λ (disk : MemDisk). IsEmpty (state_of disk).file) l.disks.items
