use Rattle.fault_script.specs.declared.script.Part.TheVariants.{Par}
use Rattle.set_program.proofs.PlayLemmas.{part_put, steps_cut}
use Rattle.set_program.proofs.play.play_block.Goals as goal

pub returns-in-Ok-default-clause-plays : goal.returns-in-Ok-default-clause-plays
returns-in-Ok-default-clause-plays g c =
    part_put g.D.Disk.state (Par c.args.lists.now) (g.K.Sink.held c.args.sink.now) (g.K.Sink.held c.put_replies.new.sink) c.args.world c.step_block.result.1 c.step_block.new.replies.items c.put_replies.result
    (rw c.clear.ensures.items at (rw c.in-Ok-default.is-0 at c.step_block.ensures)) (rw c.deref.ensures.value at c.put_replies.ensures.puts)

pub returns-in-Err-default-clause-plays : goal.returns-in-Err-default-clause-plays
returns-in-Err-default-clause-plays g c =
    steps_cut g.D.Disk.state (Par c.args.lists.now) (g.K.Sink.held c.args.sink.now) c.args.world c.step_block.result.1 (rw c.in-Err-default.is-0 at c.step_block.ensures)
