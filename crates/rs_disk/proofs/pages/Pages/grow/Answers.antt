use Rattle.rs_disk.proofs.PageLemmas.{grown}
use Rattle.std.proofs.Common.{refl, arith}
use Rattle.rs_disk.proofs.pages.Pages.grow.Goals as goal

pub returns-clause-file : goal.returns-clause-file
returns-clause-file c = λ file holds.
    grown c.args.self.now _ file holds c.extend_room.ensures.items c.widen.ensures.items c.widen-2.ensures.items
    (omega arith) c.in_ok-extend_room.ensures.ok c.in_ok-widen.ensures.ok c.in_ok-widen-2.ensures.ok refl refl refl refl
