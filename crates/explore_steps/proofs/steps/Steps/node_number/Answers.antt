use Rattle.explore_steps.proofs.steps.Steps.node_number.Goals as goal

pub returns : goal.returns
returns c = (c.get.result.1, c.get.ensures)
