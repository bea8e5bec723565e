use Rattle.std.proofs.Common.{◌≡◌, ◌++◌, take}
use Rattle.std.specs.Prelude.{string_bytes}
use Rattle.play.specs.Script.{lines_text, texts_of}
use Rattle.play.proofs.script.Script.write.Given as goal

abbrev pub invariant-loop-line : goal.invariant-loop-line
invariant-loop-line l = string_bytes l.out ≡ string_bytes l.fn.out ++ lines_text (texts_of (take l.line-index l.line-items))
