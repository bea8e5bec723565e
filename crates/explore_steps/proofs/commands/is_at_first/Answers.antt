use Rattle.explore_steps.proofs.WordLemmas.{first_is_own}
use Rattle.explore_steps.proofs.commands.is_at_first.Goals as goal

pub returns-in-Some : goal.returns-in-Some
returns-in-Some c = first_is_own c.args.command.now c.in-Some.node c.in-Some.ensures.some
