use Rattle.std.proofs.Common.{◌≡◌, ◌++◌, ℕ, List, length}
use Rattle.std.specs.Prelude.{string_bytes}
use Rattle.std.specs.Str.Lines.{lines}
use Rattle.play.specs.Play.{PlaysAll}
use Rattle.play.proofs.play.Play.steps.Given as goal

abbrev pub invariant-loop-rest : goal.invariant-loop-rest
invariant-loop-rest l = (done : List (List ℕ)) × (told : List ℕ) × (lines l.text ≡ done ++ lines l.rest) × PlaysAll l.fn.self done l.self told × (string_bytes l.out ≡ string_bytes l.fn.out ++ told)

abbrev pub decreases-loop-rest : goal.decreases-loop-rest
decreases-loop-rest l = length l.rest
