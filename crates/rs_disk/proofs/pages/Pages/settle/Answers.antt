use Rattle.rs_disk.proofs.PageLemmas.{settles}
use Rattle.std.proofs.Common.{refl}
use Rattle.rs_disk.proofs.pages.Pages.settle.Goals as goal

pub returns-clause-file : goal.returns-clause-file
returns-clause-file c = settles c.args.self.now _ c.requires refl c.clear.ensures.items c.clear-2.ensures.items c.clear.ensures.capacity c.clear-2.ensures.capacity refl refl refl refl refl
