use Rattle.explore_steps.proofs.Reach.{reached_after}
use Rattle.checker_machine.proofs.ReachedLemmas.{sound_at, taken}
use Rattle.explore_steps.proofs.laws.worlds_are_sound.Goals as goal

pub returns-clause-nodes : goal.returns-clause-nodes
returns-clause-nodes c question spare world sizes before =
    sound_at c.numbers_stay_small.ensures c.configs_are_lawful.ensures c.nodes_are_sound.ensures world (reached_after question spare world sizes before)

pub returns-clause-messages : goal.returns-clause-messages
returns-clause-messages c question spare world sizes before =
    taken c.numbers_stay_small.ensures world (reached_after question spare world sizes before) c.messages_can_be_taken.ensures
