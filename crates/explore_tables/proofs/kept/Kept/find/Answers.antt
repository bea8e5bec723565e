use Rattle.std.proofs.Common.{arith}
use Rattle.explore_tables.proofs.PlaceLemmas.{kept_in}
use Rattle.explore_tables.proofs.kept.Kept.find.Goals as goal

pub returns-then-kept-two : goal.returns-then-kept-two
returns-then-kept-two c =
    rw (← c.self.view_is)
    (kept_in c.self.inside.entries.items _ c.args.one c.args.two c.index-kept.result.now (omega (arith, c.loop-link.invariant, c.self.invariant)) c.index-kept.ensures c.if-kept-one.true c.if-kept-two.true)
