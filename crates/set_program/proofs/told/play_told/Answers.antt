use Rattle.std.proofs.Common.{refl}
use Rattle.set_program.proofs.OpenLemmas.{go_out}
use Rattle.change_watch.proofs.KeepLemmas.{Keeps-same}
use Rattle.set_program.proofs.ToldLemmas.{replies_few, told_ends}
use Rattle.set_program.proofs.told.play_told.Goals as goal

pub put_summary-requires-clause-few : goal.put_summary-requires-clause-few
put_summary-requires-clause-few g c =
    rw c.deref.ensures.value (replies_few g.D.Disk.state c.args.parts c.args.world c.step_parts.result.1 c.step_parts.new.replies.items (rw c.in-Ok-default.is-0 at c.step_parts.ensures) c.requires.few)

pub returns-in-Ok-default-clause-ends : goal.returns-in-Ok-default-clause-ends
returns-in-Ok-default-clause-ends g c =
    told_ends g.D.Disk.state c.args.parts c.args.world c.step_parts.result.1 c.step_parts.new.replies.items (rw c.in-Ok-default.is-0 at c.step_parts.ensures)
    (g.K.Sink.held c.args.sink.now) (g.K.Sink.held c.put_summary.new.sink) c.put_summary.result c.put_summary.ensures.puts

pub returns-in-Ok-default-clause-disks : goal.returns-in-Ok-default-clause-disks
returns-in-Ok-default-clause-disks g c =
    go_out g.D.Disk.state c.args.parts c.args.world.disks c.step_parts.result.1 _ _ (λ never. absurd never) (rw c.in-Ok-default.is-0 at c.step_parts.ensures).disks

pub returns-clause-ends : goal.returns-clause-ends
returns-clause-ends g c = ((rw c.in-Err-default.is-0 at c.step_parts.ensures).follows, Keeps-same (g.K.Sink.held c.args.sink.now))

pub returns-clause-disks : goal.returns-clause-disks
returns-clause-disks g c =
    go_out g.D.Disk.state c.args.parts c.args.world.disks c.step_parts.result.1 _ _ (λ some. refl) (rw c.in-Err-default.is-0 at c.step_parts.ensures).disks
