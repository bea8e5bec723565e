use Rattle.std.proofs.Common.{arith}
use Rattle.set_world.proofs.EmptyLemmas.{empty_more, fresh_is_empty}
use Rattle.set_world.proofs.disks.empty_disks.Goals as goal

pub loop-place-preserved : goal.loop-place-preserved
loop-place-preserved c = (
  omega (arith, c.in_ok-push.ensures.len, c.loop-place.invariant.0),
  empty_more c.loop-place.disks.items c.push.new.self.items c.new.result c.in_ok-push.ensures.items (fresh_is_empty c.new.result c.new.ensures.state) c.loop-place.invariant.1,
)
