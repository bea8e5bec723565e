use Rattle.rs_disk.specs.File.{contents}
use Rattle.rs_disk.specs.Images.{read_is_image}
use Rattle.rs_disk.specs.Moments.{starts}
use Rattle.initial_sync.proofs.MomentLemmas.{one_checkpoint}
use Rattle.initial_sync.proofs.copying.open_both.Goals as goal

pub returns-in-Ok-open-clause-found : goal.returns-in-Ok-open-clause-found
returns-in-Ok-open-clause-found g c =
    let file = (g.D.Disk.state c.args.journal).file in
    let there = c.requires.journal.leaves (contents file) (read_is_image file) in
    record {
      items = there.0;
      records = there.1;
      kept_is = c.in-Ok.ensures.kept there.0 there.1;
      journal = c.in-Ok.ensures.at_rest there.0 there.1;
      documents = c.in-Ok-open.ensures.stable;
      checkpoints = c.in-Ok-open.ensures.at_rest;
    }

pub returns-in-Err-clause-refused : goal.returns-in-Err-clause-refused
returns-in-Err-clause-refused g c =
    record { journal = c.in-Err.ensures.any_moment; checkpoints = starts _ _ (one_checkpoint _ c.requires.checkpoints) }
