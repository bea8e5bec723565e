use Rattle.checker_machine.proofs.ReachedLemmas.{few_nodes, sound_at}
use Rattle.checker_machine.proofs.machine.Machine.recall_nodes.Goals as goal

pub returns-clause-few : goal.returns-clause-few
returns-clause-few c = few_nodes c.numbers_stay_small.ensures c.args.self.now c.requires

pub returns-clause-sound : goal.returns-clause-sound
returns-clause-sound c = sound_at c.numbers_stay_small.ensures c.configs_are_lawful.ensures c.nodes_are_sound.ensures c.args.self.now c.requires
