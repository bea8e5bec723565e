use Rattle.explorer.proofs.search.explore.Goals as goal

pub returns : goal.returns
returns c = c.answer.ensures c.args.question.now c.args.depth c.args.states c.in_ok-end.ensures
