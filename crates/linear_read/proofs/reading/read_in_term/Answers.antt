use Rattle.std.proofs.Common.{rules}
use Rattle.linear_read.specs.declared.answer.LinearAnswer.TheVariants.{Refused}
use Rattle.linear_read.proofs.Exits.{answered, confirm_breaks, read_breaks, read_refused}
use Rattle.linear_read.proofs.reading.read_in_term.Goals as goal

pub returns-in-Err : goal.returns-in-Err
returns-in-Err g c = read_refused c.args.node c.args.nodes c.args.read c.args.term c.in_ok-ask.ensures.went (search rules) c.in-Err.why c.in-Err.ensures

pub returns-in_err-refused : goal.returns-in_err-refused
returns-in_err-refused g c =
    confirm_breaks c.args.node c.args.nodes c.args.read c.args.term c.in_ok-ask.ensures.went (search rules) c.in-Ok.shown c.in-Ok.ensures c.in_err-refused.ensures c.from_residual-in_err-refused.result c.from_residual-in_err-refused.ensures

pub returns-in-None : goal.returns-in-None
returns-in-None g c =
    answered c.args.node c.args.nodes c.args.read c.args.term c.in_ok-ask.ensures.went (search rules) c.in-Ok.shown c.in-Ok.ensures c.in_ok-refused.refused c.in_ok-refused.ensures
    c.args.set.now (search rules) (search rules) c.in-Ok.shown (search rules)

pub returns-in-Some : goal.returns-in-Some
returns-in-Some g c =
    answered c.args.node c.args.nodes c.args.read c.args.term c.in_ok-ask.ensures.went (search rules) c.in-Ok.shown c.in-Ok.ensures c.in_ok-refused.refused c.in_ok-refused.ensures
    c.args.set.now (search rules) (search rules) (Refused c.in-Some.why) (search rules)

pub returns-in_err-ask : goal.returns-in_err-ask
returns-in_err-ask g c =
    read_breaks c.args.node c.args.nodes c.args.read c.args.term c.in_err-ask.ensures.went (search rules) c.from_residual.result c.from_residual.ensures
