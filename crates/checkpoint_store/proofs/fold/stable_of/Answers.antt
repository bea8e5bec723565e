use Rattle.std.proofs.Common.{◌∙◌}
use Rattle.std.specs.Prelude.{slice_range}
use Rattle.std.proofs.lemmas.Result.{IfOk-weaker}
use Rattle.checkpoint_store.proofs.MarkedLemmas.{range_each, range_lists}
use Rattle.checkpoint_store.proofs.fold.stable_of.Goals as goal

pub read_all-requires : goal.read_all-requires
read_all-requires c =
    let from = c.last_in-last.result.from in
    let to = c.last_in-last.result.to in
    (slice_range c.requires.0 from to, range_each c.requires.0 from to c.requires.1, range_lists c.args.pieces.now c.requires.0 from to c.requires.2)

pub returns : goal.returns
returns c =
    let from = c.last_in-last.result.from in
    let to = c.last_in-last.result.to in
    IfOk-weaker c.read_all.result _ _
    (λ read is records each same. is (slice_range records from to) (range_each records from to each) (range_lists c.args.pieces.now records from to same) ∙ c.last_in-last.ensures.last records each same)
    c.read_all.ensures
