use Rattle.fault_script.proofs.LinesCut.{line_at, last_line}
use Rattle.play.proofs.lines.next_line.Goals as goal

pub returns-in-Some-clause-cut : goal.returns-in-Some-clause-cut
returns-in-Some-clause-cut c = (line_at c.args.bytes.now c.without_return.result.now c.in-Some.end c.in-Some.ensures c.without_return.ensures).0

pub returns-in-None-clause-cut : goal.returns-in-None-clause-cut
returns-in-None-clause-cut c = last_line c.args.bytes.now c.in-None.ensures c.requires
