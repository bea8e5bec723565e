use Rattle.rs_disk.proofs.PageLemmas.{writes}
use Rattle.std.proofs.Common.{refl, rules, arith}
use Rattle.rs_disk.proofs.pages.Pages.put.Goals as goal

pub returns-clause-file : goal.returns-clause-file
returns-clause-file c = λ file holds.
    writes c.args.self.now _ file c.args.at c.args.bytes.now holds c.requires.after c.requires.kept c.requires.start c.requires.room c.min.result c.min-2.result (omega arith) (omega arith)
    c.overwrite.ensures.items c.mark_part.ensures.items c.overwrite.ensures.capacity c.mark_part.ensures.capacity refl (search rules) refl refl refl refl
