use Rattle.std.proofs.Common.{arith}
use Rattle.set_world.proofs.EmptyLemmas.{empty_more}
use Rattle.checks_set.proofs.running.disks_with.Goals as goal

pub loop-place-preserved : goal.loop-place-preserved
loop-place-preserved c = (
  omega (arith, c.in_ok-push.ensures.len, c.loop-place.invariant.0),
  empty_more c.loop-place.disks.items c.push.new.self.items c.disk.result c.in_ok-push.ensures.items c.disk.ensures c.loop-place.invariant.1,
)
