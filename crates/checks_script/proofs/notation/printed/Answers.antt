use Rattle.std.proofs.lemmas.Str.{IsCharBoundary-start}
use Rattle.checks_script.proofs.notation.printed.Goals as goal

pub read_value-requires : goal.read_value-requires
read_value-requires c = IsCharBoundary-start c.args.text.now c.utf8.text
