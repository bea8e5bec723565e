use Rattle.explore_steps.specs.Deals.{cause_of}
use Rattle.explore_steps.specs.Met.{AreMet}
use Rattle.explore_steps.proofs.wanting.met_wants.Given as goal

abbrev pub invariant-loop-place : goal.invariant-loop-place
invariant-loop-place l = AreMet (cause_of l.cause) l.reply l.question.wants l.place l.places.items
