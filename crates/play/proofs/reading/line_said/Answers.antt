use Rattle.play.proofs.LineLemmas.{few, same_text}
use Rattle.play.proofs.reading.line_said.Goals as goal

pub returns-clause-same : goal.returns-clause-same
returns-clause-same c = same_text c.args.number c.args.line.now _ c.in_ok-text_of.ensures

pub returns-clause-few : goal.returns-clause-few
returns-clause-few c = few c.args.number c.args.line.now _ c.in_ok-text_of.ensures
