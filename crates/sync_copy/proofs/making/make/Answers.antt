use Rattle.initial_sync.specs.Copies.{empty_disks, empty_part}
use Rattle.initial_sync.specs.Pinned.{copy_of}
use Rattle.sync_copy.proofs.MakeLemmas.{copy_fault, copy_puts, fault_as, made, no_other, not_told, ran_then, unmade}
use Rattle.sync_copy.proofs.making.make.Goals as goal

pub copy-requires-clause-disks : goal.copy-requires-clause-disks
copy-requires-clause-disks g c = empty_disks (g.D.Disk.state c.args.journal) (g.D.Disk.state c.args.checkpoints) c.requires.journal c.requires.checkpoints

pub returns-in-Ok-clause-disks : goal.returns-in-Ok-clause-disks
returns-in-Ok-clause-disks g c =
    made (copy_of c.args.pinned.now) c.tell.result.0 _ _ _ _ _ _
    (c.in-Ok.ensures.goes_on_after_a_crash (empty_part (copy_of c.args.pinned.now) (g.D.Disk.state c.args.journal) (g.D.Disk.state c.args.checkpoints) c.requires.journal c.requires.checkpoints)) c.tell.ensures.disks

pub returns-in-Ok-clause-ran : goal.returns-in-Ok-clause-ran
returns-in-Ok-clause-ran g c = ran_then _ _ _ _ _ _ _ _ c.in-Ok.ensures.ran c.tell.ensures.ran

pub returns-in-Err-clause-disks : goal.returns-in-Err-clause-disks
returns-in-Err-clause-disks g c =
    unmade (copy_of c.args.pinned.now) _ _ _ _ _ (not_told c.in-Err.error _ c.of_copy.ensures)
    (c.in-Err.ensures.goes_on_after_a_crash (empty_part (copy_of c.args.pinned.now) (g.D.Disk.state c.args.journal) (g.D.Disk.state c.args.checkpoints) c.requires.journal c.requires.checkpoints))

pub returns-in-Err-clause-ran : goal.returns-in-Err-clause-ran
returns-in-Err-clause-ran g c =
    rw c.of_copy.ensures (fault_as _ _ _ _ _ _
    (copy_fault c.in-Err.error (no_other (copy_of c.args.pinned.now) (g.D.Disk.state c.args.journal) (g.D.Disk.state c.args.checkpoints) c.requires.journal c.requires.checkpoints _ c.in-Err.ensures.other)) c.in-Err.ensures.ran)

pub returns-in-Err-clause-puts : goal.returns-in-Err-clause-puts
returns-in-Err-clause-puts g c = rw c.of_copy.ensures (copy_puts c.in-Err.error _ _)
