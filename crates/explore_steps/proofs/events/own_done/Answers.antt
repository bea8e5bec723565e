use Rattle.std.proofs.Common.{refl}
use Rattle.explore_steps.specs.Causes.{own}
use Rattle.explore_steps.proofs.Deeds.{event_done}
use Rattle.explore_steps.proofs.events.own_done.Goals as goal

pub returns : goal.returns
returns c = event_done c.args.question.now (own c.args.command.now) c.args.node.now c.act.new.node c.in_ok-reply.field-0 _ _ c.in_ok-reply.ensures.outcome refl c.in_ok-meets.ensures.met c.in_ok-meets.ensures.within
