use Rattle.run_checker.proofs.LinesCut.{after_feed, no_feed}
use Rattle.run_checker.proofs.lines.next_line.Goals as goal

pub returns-in-Some-clause-rest : goal.returns-in-Some-clause-rest
returns-in-Some-clause-rest c = after_feed c.args.bytes.now c.in-Some.end c.in-Some.ensures

pub returns-in-None-clause-rest : goal.returns-in-None-clause-rest
returns-in-None-clause-rest c = no_feed c.args.bytes.now c.in-None.ensures
