use Rattle.std.proofs.Common.{arith}
use Rattle.node_core.proofs.PuttingLemmas.{record_failed, record_put, same_journal, short_size}
use Rattle.node_core.proofs.disks.Disks.add.Goals as goal

pub returns-in-Ok-clause-puts : goal.returns-in-Ok-clause-puts
returns-in-Ok-clause-puts g c = λ node rests can.
    record_put node c.args.item.now c.args.self.now.count (g.D.Disk.state c.args.self.now.journal.0) (g.D.Disk.state c.add.new.self.0)
    (g.D.Disk.state c.args.self.now.checkpoints) rests c.add.ensures.any_moment can c.in-Ok.ensures.ok

pub returns-in-Ok-clause-spare : goal.returns-in-Ok-clause-spare
returns-in-Ok-clause-spare g c = λ short. omega (arith, c.in-Ok.ensures.spare, short_size c.args.item.now short c.requires.bounds)

pub returns-in-Err-clause-puts : goal.returns-in-Err-clause-puts
returns-in-Err-clause-puts g c = λ node rests can.
    record_failed node c.args.item.now c.args.self.now.count (g.D.Disk.state c.args.self.now.journal.0) (g.D.Disk.state c.add.new.self.0)
    (g.D.Disk.state c.args.self.now.checkpoints) rests c.add.ensures.any_moment c.in-Err.error c.in-Err.ensures.memory

pub returns-in-Err-clause-room : goal.returns-in-Err-clause-room
returns-in-Err-clause-room g c = λ short enough is. c.in-Err.ensures.room short (omega (arith, enough, short_size c.args.item.now short c.requires.bounds)) is

pub returns-in-Err-clause-memory : goal.returns-in-Err-clause-memory
returns-in-Err-clause-memory g c = λ is.
    same_journal (g.D.Disk.state c.args.self.now.journal.0) (g.D.Disk.state c.add.new.self.0) (g.D.Disk.state c.args.self.now.checkpoints) (c.in-Err.ensures.memory is)
