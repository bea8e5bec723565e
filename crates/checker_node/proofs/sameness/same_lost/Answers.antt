use Rattle.std.proofs.Common.{◌≡◌, length, arith}
use Rattle.checker_tables.proofs.SameLemmas.{agreeing_same}
use Rattle.checker_node.proofs.sameness.same_lost.Goals as goal

pub returns : goal.returns
returns c = λ same.
    let long : length c.args.one.now ≡ length c.args.other.now = grind arith in
    agreeing_same c.args.one.now c.args.other.now long (λ k d within. c.loop-place.invariant k d (omega arith))
