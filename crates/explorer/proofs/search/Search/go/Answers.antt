use Rattle.explorer.proofs.EndLemmas.{begun_ends, begun_met}
use Rattle.explorer.proofs.Found.{begun_found}
use Rattle.explorer.proofs.search.Search.go.Goals as goal

pub returns-then-branch : goal.returns-then-branch
returns-then-branch c =
    begun_ends c.followers_are_runs.ensures c.args.question.now c.requires.question.put c.args.depth c.args.run.now.events.items
    (begun_found c.args.question.now c.args.run.now c.requires.begun
    (begun_met c.args.question.now c.args.depth c.begin.new.self c.in_ok-begin.field-0 c.if-branch.true (c.in_ok-begin.ensures.begun c.args.depth c.requires.question)))
