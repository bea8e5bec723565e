use Rattle.rs_disk.specs.Past.{during}
use Rattle.rs_disk.proofs.memory.MemDisk.fail.Goals as goal

pub lose-requires : goal.lose-requires
lose-requires c = (during c.args.call.now c.args.self.now.past.file, c.begin.ensures.file c.args.self.now.past.file c.args.self.now.holds)
