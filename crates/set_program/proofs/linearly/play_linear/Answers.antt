use Rattle.std.proofs.Common.{arith}
use Rattle.set_program.proofs.AfterScriptLemmas.{script_disks, script_stops, stopped_disks, work_disks, work_ends}
use Rattle.set_program.proofs.LinearLemmas.{only_linear}
use Rattle.set_program.specs.ReadingLinearly.{ReadsLinearly}
use Rattle.set_program.proofs.linearly.play_linear.Goals as goal

pub returns-in-Ok-default-clause-ends : goal.returns-in-Ok-default-clause-ends
returns-in-Ok-default-clause-ends g c =
    work_ends (ReadsLinearly c.args.linear) (only_linear c.args.linear) c.args.script.parts (g.K.Sink.held c.args.sink.now) (g.K.Sink.held c.play.new.sink) (g.K.Sink.held c.read_on-ended.new.sink) c.play.result.1 c.read_on-ended.new.world c.read_on-ended.result
    c.read_on-ended.ensures.sizes (rw c.in-Ok-default.is-0 at c.play.ensures.ends) c.read_on-ended.ensures.reads

pub returns-in-Ok-default-clause-disks : goal.returns-in-Ok-default-clause-disks
returns-in-Ok-default-clause-disks g c =
    let ends = rw c.in-Ok-default.is-0 at c.play.ensures.ends in
    let whole = rw c.in-Ok-default.is-0 at c.play.ensures.whole in
    work_disks g.D.Disk.state c.args.script.parts c.args.world.disks c.play.result.1 c.read_on-ended.new.world c.read_on-ended.ensures.went ends.0
    (script_disks g.D.Disk.state c.args.script.parts c.args.world.disks c.play.result.1 _ (λ out. cc (out, c.in-Ok-default.is-0)) c.play.ensures.disks)
    c.read_on-ended.result (c.read_on-ended.ensures.whole (whole c.requires.whole))

pub returns-clause-ends : goal.returns-clause-ends
returns-clause-ends g c =
    script_stops (ReadsLinearly c.args.linear) c.args.script.parts (g.K.Sink.held c.args.sink.now) (g.K.Sink.held c.play.new.sink) c.play.result.1 c.in-Err-default.stop (rw c.in-Err-default.is-0 at c.play.ensures.ends)

pub returns-clause-disks : goal.returns-clause-disks
returns-clause-disks g c =
    stopped_disks g.D.Disk.state c.args.script.parts c.args.world.disks c.play.result.1 _ (rw c.in-Err-default.is-0 at c.play.ensures.disks)

pub returns-in-Ok-default-clause-cause : goal.returns-in-Ok-default-clause-cause
returns-in-Ok-default-clause-cause g c = record {
  later = omega (arith, c.play.ensures.cause.later, c.read_on-ended.ensures.cause.later);
  rose = λ fault. let rose = c.read_on-ended.ensures.cause.rose fault in omega (arith, c.play.ensures.cause.later, rose);
}
