use Rattle.checks_sync.proofs.DiskLemmas.{fresh_disks}
use Rattle.checks_sync.proofs.copies.empty.Goals as goal

pub returns : goal.returns
returns c = fresh_disks _ _ c.new.ensures.state c.new-2.ensures.state
