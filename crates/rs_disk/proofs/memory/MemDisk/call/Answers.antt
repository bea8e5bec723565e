use Rattle.rs_disk.proofs.PickLemmas.{failed_is_crashed}
use Rattle.rs_disk.proofs.memory.MemDisk.call.Goals as goal

pub returns-in-Some-clause-outcome : goal.returns-in-Some-clause-outcome
returns-in-Some-clause-outcome c = failed_is_crashed c.args.call.now c.in-Some.arm.pick c.args.self.now c.fail.new.self c.fail.ensures.past
