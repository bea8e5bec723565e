use Rattle.set_world.proofs.EmptyLemmas.{armed_is_empty}
use Rattle.checks_set.proofs.running.disk.Goals as goal

pub returns : goal.returns
returns c = armed_is_empty c.new-disk.result c.arm.new.self c.args.call c.args.pick c.new-disk.ensures.state c.arm.ensures.armed
