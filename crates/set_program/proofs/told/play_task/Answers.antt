use Rattle.set_program.proofs.SyncedLemmas.{task_member}
use Rattle.set_program.proofs.told.play_task.Goals as goal

pub returns-in-Run-clause-disks : goal.returns-in-Run-clause-disks
returns-in-Run-clause-disks g c = rw c.in-Run.is c.play-ended.ensures.disks

pub returns-in-Trace-clause-disks : goal.returns-in-Trace-clause-disks
returns-in-Trace-clause-disks g c = rw c.in-Trace.is c.play_traced-ended.ensures.disks

pub returns-in-Linear-clause-disks : goal.returns-in-Linear-clause-disks
returns-in-Linear-clause-disks g c = rw c.in-Linear.is c.play_linear-ended.ensures.disks

pub returns-in-Watch-clause-disks : goal.returns-in-Watch-clause-disks
returns-in-Watch-clause-disks g c = rw c.in-Watch.is c.play_watched-ended.ensures.disks

pub returns-in-Chaos-clause-disks : goal.returns-in-Chaos-clause-disks
returns-in-Chaos-clause-disks g c = rw c.in-Chaos.is c.play_told-ended.ensures.disks

pub returns-in-Sync-clause-ends : goal.returns-in-Sync-clause-ends
returns-in-Sync-clause-ends g c = rw c.in-Sync.is c.play_synced.ensures.ends

pub returns-in-Sync-clause-disks : goal.returns-in-Sync-clause-disks
returns-in-Sync-clause-disks g c = rw c.in-Sync.is c.play_synced.ensures.disks

pub returns-in-Sync-clause-member : goal.returns-in-Sync-clause-member
returns-in-Sync-clause-member g c =
    task_member g.D.Disk.state c.args.task c.in-Sync.node c.args.script.parts c.args.world.sizes c.args.world.disks (g.K.Sink.held c.args.sink.now) (g.K.Sink.held c.play_synced.new.sink)
    c.play_synced.result.0 c.in-Sync.is c.play_synced.result.1 c.play_synced.ensures.member
