use Rattle.std.proofs.Common.{refl, inl, ◌∙◌}
use Rattle.set_program.proofs.OpenLemmas.{go_out}
use Rattle.change_watch.proofs.KeepLemmas.{Keeps-same}
use Rattle.set_program.proofs.PrintedLemmas.{is_traced}
use Rattle.set_program.proofs.TracedLemmas.{sizes_told, traced_ends}
use Rattle.set_program.proofs.traced.play_traced.Goals as goal

pub put_trace-requires-clause-sizes : goal.put_trace-requires-clause-sizes
put_trace-requires-clause-sizes g c = sizes_told c.args.script c.step_parts.result.1.sizes ((rw c.in-Ok-default.is-0 at c.step_parts.ensures).sizes ∙ c.requires.script)

pub returns-in-Ok-default-clause-ends : goal.returns-in-Ok-default-clause-ends
returns-in-Ok-default-clause-ends g c =
    traced_ends g.D.Disk.state c.args.script.parts c.args.world c.step_parts.result.1 c.step_parts.new.replies.items (rw c.in-Ok-default.is-0 at c.step_parts.ensures)
    (g.K.Sink.held c.args.sink.now) (g.K.Sink.held c.put_trace.new.sink) c.put_trace.result c.put_trace.ensures.puts
    (is_traced c.args.script c.step_parts.result.1 ((rw c.in-Ok-default.is-0 at c.step_parts.ensures).sizes ∙ c.requires.script) c.recall_run.ensures.sizes c.recall_run.ensures.run
    (rw c.in-Ok-default.is-0 at c.step_parts.ensures).follows c.requires.said c.put_trace.result c.put_trace.ensures.plain)

pub returns-in-Ok-default-clause-disks : goal.returns-in-Ok-default-clause-disks
returns-in-Ok-default-clause-disks g c =
    go_out g.D.Disk.state c.args.script.parts c.args.world.disks c.step_parts.result.1 _ _ (λ never. absurd never) (rw c.in-Ok-default.is-0 at c.step_parts.ensures).disks

pub returns-clause-ends : goal.returns-clause-ends
returns-clause-ends g c = inl ((rw c.in-Err-default.is-0 at c.step_parts.ensures).follows, Keeps-same (g.K.Sink.held c.args.sink.now))

pub returns-clause-disks : goal.returns-clause-disks
returns-clause-disks g c =
    go_out g.D.Disk.state c.args.script.parts c.args.world.disks c.step_parts.result.1 _ _ (λ some. refl) (rw c.in-Err-default.is-0 at c.step_parts.ensures).disks
