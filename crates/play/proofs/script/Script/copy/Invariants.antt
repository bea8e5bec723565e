use Rattle.std.proofs.Common.{◌≡◌, take}
use Rattle.play.specs.Script.{texts_of}
use Rattle.play.proofs.script.Script.copy.Given as goal

abbrev pub invariant-loop-line : goal.invariant-loop-line
invariant-loop-line l = texts_of l.lines.items ≡ texts_of (take l.line-index l.line-items)
