use Rattle.linear_read.proofs.Going.{carried, carrying_fails}
use Rattle.linear_read.proofs.asking.carry.Goals as goal

pub returns-in_err-ask : goal.returns-in_err-ask
returns-in_err-ask g c = carrying_fails c.args.command c.in_err-ask.ensures.went c.from_residual.result c.from_residual.ensures

pub returns : goal.returns
returns g c =
    carried c.deliver.new.set c.args.command c.in_ok-ask.field-0 c.in_ok-ask.ensures.went c.message_sent-message.result c.message_sent-message.ensures c.deliver.result c.deliver.ensures
