use Rattle.checker_machine.proofs.StepLemmas.{writes_so}
use Rattle.checker_machine.proofs.rows.act_write.Goals as goal

pub returns : goal.returns
returns c = writes_so c.args.node.now c.write.new.self c.args.command.now c.in_ok-op.op c.write.result c.requires.up c.requires.write c.in_ok-op.ensures c.write.ensures
