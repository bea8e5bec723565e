use Rattle.initial_sync.proofs.MomentLemmas.{checkpoint_disk, journal_disk}
use Rattle.checks_sync.proofs.copies.contents_of.Goals as goal

pub open-requires : goal.open-requires
open-requires c = journal_disk _ _ c.requires

pub open-requires-2 : goal.open-requires-2
open-requires-2 c = checkpoint_disk _ _ c.requires
