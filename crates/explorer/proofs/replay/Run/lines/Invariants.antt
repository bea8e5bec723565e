use Rattle.std.proofs.Common.{drop}
use Rattle.explorer.specs.Replaying.{HasDone}
use Rattle.explorer.proofs.replay.Run.lines.Given as goal

abbrev pub invariant-loop-command : goal.invariant-loop-command
invariant-loop-command l = HasDone l.before l.initial.self l.self l.lines (drop l.command-index l.lines)
