use Rattle.rs_disk.proofs.memory.MemDisk.run.Goals as goal

pub settle-requires : goal.settle-requires
settle-requires c = (c.begin.ensures.file c.args.self.now.past.file c.args.self.now.holds).within
