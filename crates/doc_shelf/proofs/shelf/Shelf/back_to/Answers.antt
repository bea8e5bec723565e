use Rattle.std.proofs.Common.{arith}
use Rattle.doc_shelf.proofs.shelf.Shelf.back_to.Goals as goal

pub loop-self-preserved : goal.loop-self-preserved
loop-self-preserved c =
    let back = c.back.ensures c.args.entries.now c.loop-self.invariant.0 in (back.0, omega (arith, back.1, c.loop-self.invariant.1))

pub loop-self-smaller : goal.loop-self-smaller
loop-self-smaller c = (c.back.ensures c.args.entries.now c.loop-self.invariant.0).1
