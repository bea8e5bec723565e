use Rattle.std.proofs.Common.{sym}
use Rattle.bson_codec.proofs.TextLemmas.{no_break}
use Rattle.bson_codec.proofs.parts.breaks_utf8.Goals as goal

pub returns-in-Ok : goal.returns-in-Ok
returns-in-Ok c = sym (no_break c.args.bytes.now c.in-Ok.ensures.cases.1)
