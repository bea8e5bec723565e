use Rattle.run_checker.proofs.LinesCut.{no_text, text_found}
use Rattle.run_checker.proofs.lines.text_of.Goals as goal

pub returns-in-Some : goal.returns-in-Some
returns-in-Some c = text_found c.args.line.now c.in-Some.text.now c.in-Some.ensures.0 c.in-Some.ensures.1

pub returns-in-None : goal.returns-in-None
returns-in-None c = no_text c.args.line.now c.in-None.ensures
