use Rattle.std.proofs.Common.{arith, refl}
use Rattle.bson_codec.proofs.ReadingLemmas.{within-level}
use Rattle.bson_codec.proofs.whole.fields_within_levels.Goals as goal

pub returns-then-levels-eq0 : goal.returns-then-levels-eq0
returns-then-levels-eq0 c = rw c.if-levels-eq0.true refl

pub returns : goal.returns
returns c = rw (within-level c.args.levels c.args.content.now (omega arith)) c.fields_of.ensures
