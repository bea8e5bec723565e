use Rattle.std.proofs.Common.{◌∙◌, sym}
use Rattle.initial_sync.specs.Pinned.{copy_of}
use Rattle.initial_sync.proofs.MomentLemmas.{checkpoint_disk}
use Rattle.initial_sync.proofs.RunLemmas.{ran_on, there_so}
use Rattle.initial_sync.proofs.copying.run.Goals as goal

pub open_both-requires-clause-checkpoints : goal.open_both-requires-clause-checkpoints
open_both-requires-clause-checkpoints g c = checkpoint_disk _ _ c.requires.disks

pub go_on-requires-clause-there : goal.go_on-requires-clause-there
go_on-requires-clause-there g c = λ this at.
    let pinned = c.requires.pinned in
    there_so (copy_of c.args.pinned.now) _ _ _ _ _ _ pinned.oplog.order (λ is. pinned.above (sym pinned.last ∙ is)) c.requires.disks c.in-Ok.ensures.found this (at ∙ sym pinned.last)

pub returns-in-Ok-clause-ran : goal.returns-in-Ok-clause-ran
returns-in-Ok-clause-ran g c = ran_on (copy_of c.args.pinned.now) _ _ _ _ _ _ _ _ _ c.in-Ok.ensures.opened c.in-Ok.ensures.found c.go_on.ensures.goes
