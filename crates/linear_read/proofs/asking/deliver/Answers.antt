use Rattle.std.proofs.Common.{rules}
use Rattle.linear_read.proofs.Going.{delivered, delivery_fails, none_sent}
use Rattle.linear_read.proofs.asking.deliver.Goals as goal

pub returns-in_default : goal.returns-in_default
returns-in_default g c = none_sent c.args.set.now c.args.message (search rules)

pub returns-in_err-reply : goal.returns-in_err-reply
returns-in_err-reply g c =
    delivery_fails c.args.message c.in-Some.message (search rules) (search rules) c.in_err-reply.ensures.went c.from_residual.result c.from_residual.ensures

pub returns : goal.returns
returns g c = delivered c.args.message c.in-Some.message (search rules) (search rules) c.in_ok-reply.ensures.went
