use Rattle.std.proofs.Common.{◌≡◌, ◌+◌, ◌≤◌, length, take, vec_capacity}
use Rattle.std.specs.Prelude.{sum_by}
use Rattle.rs_disk.specs.File.{contents}
use Rattle.rs_disk.specs.State.{Keeps}
use Rattle.rs_disk.specs.Steps.{Makes}
use Rattle.record_file.specs.Files.{IsOpen, adding_steps}
use Rattle.record_file.specs.Records.{lists}
use Rattle.record_file.proofs.AddingLemmas.{size_of}
use Rattle.record_file.proofs.adding.add_each.Given as goal

abbrev pub invariant-loop-piece : goal.invariant-loop-piece
invariant-loop-piece g l = record {
  made : Makes (adding_steps (length (contents (g.D.Disk.state l.initial.disk).file)) (lists (take l.piece-index l.pieces))) (g.D.Disk.state l.initial.disk) (g.D.Disk.state l.disk);
  long : length (contents (g.D.Disk.state l.disk).file) ≡ length (contents (g.D.Disk.state l.initial.disk).file) + sum_by size_of (take l.piece-index l.pieces);
  is_open : IsOpen (g.D.Disk.state l.disk);
  keeps : Keeps ⊥ (g.D.Disk.state l.initial.disk) (g.D.Disk.state l.disk);
  capacity : vec_capacity l.initial.buffer ≤ vec_capacity l.buffer;
}
