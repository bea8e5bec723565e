use Rattle.fault_script.proofs.LinesCut.{first_feed}
use Rattle.fault_script.proofs.lines.line_feed.Goals as goal

pub returns : goal.returns
returns c = first_feed c.args.bytes.now c.memchr.result c.memchr.ensures
