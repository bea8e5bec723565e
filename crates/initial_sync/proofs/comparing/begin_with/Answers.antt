use Rattle.std.proofs.Common.{◌≤◌, length, arith}
use Rattle.initial_sync.proofs.EntryLemmas.{begins_short, begins_so}
use Rattle.initial_sync.proofs.comparing.begin_with.Goals as goal

pub returns : goal.returns
returns c = (
  λ same.
      let long : length c.args.front.now ≤ length c.args.entries.now = grind arith in
      begins_so c.args.front.now c.args.entries.now long (λ k d within. c.loop-place.invariant k d (omega arith)),
  λ begins.
      let long = begins_short c.args.front.now c.args.entries.now begins in
      grind (arith, long),
)
