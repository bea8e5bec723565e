use Rattle.checker_tables.proofs.RunLemmas.{more_kept}
use Rattle.checker_tables.proofs.unkept.pass_kept.Goals as goal

pub loop-place-preserved : goal.loop-place-preserved
loop-place-preserved c =
    more_kept c.loop-place.place c.next_kept-passed.result c.args.log.now.entries c.args.kept.now.entries c.next_kept-passed.ensures.within c.next_kept-passed.ensures.there
    c.loop-place.invariant
