use Rattle.std.proofs.Common.{◌≡◌, length, refl, arith}
use Rattle.checker_tables.proofs.SameLemmas.{agreeing_same}
use Rattle.checker_tables.proofs.sameness.same_entries.Goals as goal

pub returns : goal.returns
returns c =
    let long : length c.args.one.now ≡ length c.args.other.now = grind arith in
    (λ same. agreeing_same c.args.one.now c.args.other.now long (λ k d within. c.loop-place.invariant k d (omega arith)), λ same. refl)
