use Rattle.checker_machine.proofs.ReachedLemmas.{taken}
use Rattle.checker_machine.proofs.machine.Machine.recall_messages.Goals as goal

pub returns : goal.returns
returns c = taken c.numbers_stay_small.ensures c.args.self.now c.requires c.messages_can_be_taken.ensures
