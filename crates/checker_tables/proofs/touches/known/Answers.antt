use Rattle.std.proofs.Common.{[]}
use Rattle.std.proofs.lemmas.List.Elements.{All-nil}
use Rattle.checker_tables.specs.Touching.{IsByEnd}
use Rattle.checker_tables.proofs.touches.known.Goals as goal

pub returns : goal.returns
returns c = λ are. c.with_all.ensures [] (All-nil (IsByEnd c.new.result))
