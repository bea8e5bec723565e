use Rattle.initial_sync.specs.Pinned.{copy_of}
use Rattle.sync_copy.proofs.MakeLemmas.{fault_as, file_fault, file_puts}
use Rattle.sync_copy.proofs.TellLemmas.{told_so}
use Rattle.sync_copy.proofs.making.tell.Goals as goal

pub returns-in-Ok-clause-disks : goal.returns-in-Ok-clause-disks
returns-in-Ok-clause-disks g c = c.in-Ok.ensures.read.whole (copy_of c.args.pinned.now) c.requires.whole

pub returns-in-Ok-clause-puts : goal.returns-in-Ok-clause-puts
returns-in-Ok-clause-puts g c =
    let is = c.in-Ok.ensures.whole (copy_of c.args.pinned.now) c.requires.whole in
    told_so c.args.number c.args.pinned.now _ _ c.requires.pinned is.0 is.1 _ _ _ c.put_synced-told.ensures.puts

pub returns-in-Ok-clause-ran : goal.returns-in-Ok-clause-ran
returns-in-Ok-clause-ran g c = fault_as _ _ _ _ _ _ (λ fault. c.put_synced-told.ensures.no_disk fault) c.in-Ok.ensures.ran

pub returns-in-Err-clause-disks : goal.returns-in-Err-clause-disks
returns-in-Err-clause-disks g c = c.in-Err.ensures.refused.whole (copy_of c.args.pinned.now) c.requires.whole

pub returns-in-Err-clause-ran : goal.returns-in-Err-clause-ran
returns-in-Err-clause-ran g c = rw c.of_file.ensures (fault_as _ _ _ _ _ _ (file_fault c.in-Err.error) c.in-Err.ensures.failed)

pub returns-in-Err-clause-puts : goal.returns-in-Err-clause-puts
returns-in-Err-clause-puts g c = rw c.of_file.ensures (file_puts c.in-Err.error _ _)
