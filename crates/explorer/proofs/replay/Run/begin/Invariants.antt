use Rattle.std.proofs.Common.{drop, take}
use Rattle.explorer.specs.Replaying.{HasBegun}
use Rattle.explorer.proofs.replay.Run.begin.Given as goal

abbrev pub invariant-loop-command : goal.invariant-loop-command
invariant-loop-command l = HasBegun l.question l.run (take l.command-index l.question.beginning) (drop l.command-index l.question.beginning)
