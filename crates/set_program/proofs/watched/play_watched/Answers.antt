use Rattle.set_program.proofs.AfterScriptLemmas.{script_disks, script_stops, stopped_disks, work_disks, work_ends}
use Rattle.set_program.proofs.WatchedLemmas.{only_watched}
use Rattle.set_program.specs.Watching.{Watches}
use Rattle.set_program.proofs.watched.play_watched.Goals as goal

pub returns-in-Ok-default-clause-ends : goal.returns-in-Ok-default-clause-ends
returns-in-Ok-default-clause-ends g c =
    work_ends (Watches c.args.watch) (only_watched c.args.watch) c.args.script.parts (g.K.Sink.held c.args.sink.now) (g.K.Sink.held c.play.new.sink) (g.K.Sink.held c.watch_on-ended.new.sink) c.play.result.1 c.watch_on-ended.new.world c.watch_on-ended.result
    c.watch_on-ended.ensures.sizes (rw c.in-Ok-default.is-0 at c.play.ensures.ends) c.watch_on-ended.ensures.watches

pub returns-in-Ok-default-clause-disks : goal.returns-in-Ok-default-clause-disks
returns-in-Ok-default-clause-disks g c =
    let ends = rw c.in-Ok-default.is-0 at c.play.ensures.ends in
    let whole = rw c.in-Ok-default.is-0 at c.play.ensures.whole in
    work_disks g.D.Disk.state c.args.script.parts c.args.world.disks c.play.result.1 c.watch_on-ended.new.world c.watch_on-ended.ensures.went ends.0
    (script_disks g.D.Disk.state c.args.script.parts c.args.world.disks c.play.result.1 _ (λ out. cc (out, c.in-Ok-default.is-0)) c.play.ensures.disks)
    c.watch_on-ended.result (c.watch_on-ended.ensures.whole (whole c.requires.whole))

pub returns-clause-ends : goal.returns-clause-ends
returns-clause-ends g c =
    script_stops (Watches c.args.watch) c.args.script.parts (g.K.Sink.held c.args.sink.now) (g.K.Sink.held c.play.new.sink) c.play.result.1 c.in-Err-default.stop (rw c.in-Err-default.is-0 at c.play.ensures.ends)

pub returns-clause-disks : goal.returns-clause-disks
returns-clause-disks g c =
    stopped_disks g.D.Disk.state c.args.script.parts c.args.world.disks c.play.result.1 _ (rw c.in-Err-default.is-0 at c.play.ensures.disks)
