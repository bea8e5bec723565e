use Rattle.std.proofs.Common.{◌≡◌, take}
use Rattle.transcript.specs.Summaries.{count_of}
use Rattle.set_program.specs.Kinds.{is_of}
use Rattle.set_program.proofs.summary.count.Given as goal

abbrev pub invariant-loop-line : goal.invariant-loop-line
invariant-loop-line l = l.count ≡ count_of (is_of l.kind) (take l.line-index l.replies)
