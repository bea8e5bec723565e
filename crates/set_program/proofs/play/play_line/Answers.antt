use Rattle.fault_script.specs.declared.script.Part.TheVariants.{Line}
use Rattle.set_program.proofs.PlayLemmas.{part_put, steps_cut}
use Rattle.set_program.proofs.play.play_line.Goals as goal

pub returns-in-Ok-clause-plays : goal.returns-in-Ok-clause-plays
returns-in-Ok-clause-plays g c =
    part_put g.D.Disk.state (Line c.args.line c.args.command) (g.K.Sink.held c.args.sink.now) (g.K.Sink.held c.put_replies.new.sink) c.args.world.now c.step_line.new.world c.step_line.new.replies.items c.put_replies.result
    (rw c.clear.ensures.items at (rw c.in-Ok.is at c.step_line.ensures)) (rw c.deref.ensures.value at c.put_replies.ensures.puts)

pub returns-in-Err-clause-plays : goal.returns-in-Err-clause-plays
returns-in-Err-clause-plays g c =
    steps_cut g.D.Disk.state (Line c.args.line c.args.command) (g.K.Sink.held c.args.sink.now) c.args.world.now c.step_line.new.world (rw c.in-Err.is at c.step_line.ensures)
